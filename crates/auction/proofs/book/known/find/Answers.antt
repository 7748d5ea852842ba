-- Answers of `find` (src/book/known.rt): what the prover left open; rt looks here.
use Rattle.std.proofs.Common.{◌≡◌, ℕ, ◌+◌, ◌-◌, ◌≤◌, IfSome, length, refl, sym, ap, subst, ◌∙◌, arith}
use Rattle.std.specs.Prelude.{IfNone}
use Rattle.auction.proofs.KnownPriceLaws.{best_bid_same, best_ask_same, same_wider, none_then, display_of-none}
use Rattle.auction.proofs.book.known.find.Goals as goal

pub returns-in-None-clause-known : goal.returns-in-None-clause-known
returns-in-None-clause-known c book ladder over other others same =
    let v = c.args.ladder.now in
    let decision = c.determine_price-decision.result in
    let bid = c.best-best_bid.ensures.book book over.positive ladder in
    let ask = c.best-best_ask.ensures.book book over.positive ladder in
    let wider =
    same_wider c.lowest_unpriced.result c.highest_unpriced.result decision.lowest decision.highest book other
    c.lowest_unpriced.ensures.lowest c.highest_unpriced.ensures.highest same in
    let ticks =
    subst (λ o. IfNone o (c.low.result + (length c.bids.result.now - 1) ≤ c.highest_unpriced.result)) ask
    c.highest_unpriced.ensures.none in
    record {
      of = refl;
      found = sym (sym c.in-None.is ∙ c.determine_price-decision.ensures.deciding book other ladder others wider);
      displayed = display_of-none other c.best-best_bid.result c.best-best_ask.result
          (bid ∙ best_bid_same v.low (length v.bids) c.lowest_unpriced.result c.highest_unpriced.result book other over
          others same (subst (λ o. IfSome o (λ t. c.lowest_unpriced.result ≤ t)) bid c.lowest_unpriced.ensures.best)
          (subst (λ o. IfNone o (c.lowest_unpriced.result ≡ 0)) bid c.lowest_unpriced.ensures.none))
          (ask ∙ best_ask_same v.low (length v.bids) c.lowest_unpriced.result c.highest_unpriced.result book other over
          others same
          (subst (λ o. IfSome o (λ t. t ≤ c.highest_unpriced.result)) ask c.highest_unpriced.ensures.best)
          (none_then {X = ℕ} {A = c.low.result + (length c.bids.result.now - 1) ≤ c.highest_unpriced.result} {B =
          v.low + length v.bids ≤ c.highest_unpriced.result + 1} _
          (λ last. omega (arith, last, c.low.ensures.value, ap length c.bids.ensures.value, c.requires)) ticks));
    }
