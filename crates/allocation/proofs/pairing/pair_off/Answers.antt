-- Answers of `pair_off` (src/pairing.rt): what the prover left open; rt looks here.
use Rattle.std.proofs.Common.{rules, arith, ◌≡◌, ◌+◌, ◌-◌, ◌<◌, length, min, Some, slice_get, sym, ap, ◌∙◌}
use Rattle.allocation.proofs.PairOffLaws.{no_asks_left, no_bids_left, paired_more, taken_by, taken_more}
use Rattle.allocation.proofs.PairOffLaws.{fewer_left, nonempty}
use Rattle.allocation.proofs.pairing.pair_off.Goals as goal

pub loop-bid-preserved : goal.loop-bid-preserved
loop-bid-preserved c =
    let bid = c.in-Some-Some.bid in
    let ask = c.in-Some-Some.ask in
    let k = c.min-quantity.result in
    let first_bid : Some bid ≡ slice_get c.loop-bid.bids 0 = cc in
    let first_ask : Some ask ≡ slice_get c.loop-bid.asks 0 = cc in
    let bid_left : 0 < bid.quantity = search rules in
    let ask_left : 0 < ask.quantity = search rules in
    let least : k ≡ min bid.quantity ask.quantity = c.min-quantity.ensures in
    let fewer = fewer_left k bid ask c.loop-bid.bids c.loop-bid.asks first_bid first_ask least in
    let some_bid = nonempty bid c.loop-bid.bids first_bid in
    let some_ask = nonempty ask c.loop-bid.asks first_ask in
    let bids = ap length c.take.ensures in
    let asks = ap length c.take-in-Some-Some.ensures in
    let begun = taken_by c.args.tape.now.items in
    let before = c.loop-bid.tape.items in
    let after = c.push_reserved.new.self.items in
    let taken = taken_more before after _ c.push_reserved.ensures.items in
    let rising = c.loop-bid.invariant.more in
    let gone : taken_by before - begun + k ≡ taken_by after - begun = omega (arith, taken, rising) in
    record {
      items =
          rw (c.take.ensures, c.take-in-Some-Some.ensures, ← gone)
          (paired_more c.args.tick k (taken_by before - begun) before after _ bid ask c.loop-bid.bids
          c.loop-bid.asks first_bid first_ask least (omega arith) c.loop-bid.invariant.items
          c.push_reserved.ensures.items);
      more = omega (arith, taken, rising);
      few = omega arith;
      fewer = λ none. omega arith;
      capacity = search rules;
    }

pub returns-in_default-clause-items : goal.returns-in_default-clause-items
returns-in_default-clause-items c =
    no_asks_left c.args.tick c.loop-bid.tape.items _ _ c.loop-bid.bids c.loop-bid.asks (sym c.in_default.is-1
    ∙ c.front-in-loop-bid.ensures.first) c.loop-bid.invariant.items

pub returns-in_default-2-clause-items : goal.returns-in_default-2-clause-items
returns-in_default-2-clause-items c =
    no_bids_left c.args.tick c.loop-bid.tape.items _ _ c.loop-bid.bids c.loop-bid.asks (sym c.in_default.is-0
    ∙ c.front.ensures.first) c.loop-bid.invariant.items
