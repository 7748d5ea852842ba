-- Answers of `DayState::open` (src/commands.rt): what the prover left open; rt looks here.
-- A new day is sound.
use Rattle.std.proofs.Common.{◌≤◌, length, sym, ap, subst, arith}
use Rattle.std.proofs.lemmas.List.Elements.{All-nil}
use Rattle.auction_terms.specs.declared.limits.TheConstants.{MAX_QUANTITY}
use Rattle.auction_terms.specs.declared.Trade.{Trade}
use Rattle.auction.specs.Executions.{AreSmall}
use Rattle.auction.specs.OpenOrders.{OpenOrders}
use Rattle.auction.proofs.ConfigFaultLaws.{terms_within}
use Rattle.auction.proofs.commands.DayState.open.Goals as goal

pub invariant_of-result : goal.invariant_of-result
invariant_of-result c =
    let within = terms_within c.args.config c.requires in
    let new = c.in_ok-open.ensures in
    let tape = c.in_ok-with_capacity.ensures in
    record {
      same = record {
        low = ap (λ (b : OpenOrders). b.low) new;
        ticks = ap (λ (b : OpenOrders). b.ticks) new;
        max_open = ap (λ (b : OpenOrders). b.max_open) new;
        max_calls = ap (λ (b : OpenOrders). b.max_calls) new;
        kind = ap (λ (b : OpenOrders). b.kind) new;
        few = omega (arith, ap (λ (b : OpenOrders). length b.orders) new);
      };
      reference = (within.low, within.high);
      trades = omega (arith, ap length tape.items);
      room = tape.capacity;
      small = subst AreSmall (sym tape.items) (All-nil (λ (t : Trade). t.quantity ≤ MAX_QUANTITY));
    }
