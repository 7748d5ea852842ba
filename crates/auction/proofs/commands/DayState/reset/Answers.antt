-- Answers of `DayState::reset` (src/commands/copying.rt): what the prover left open; rt looks here.
-- The day is as sound as at its opening.
use Rattle.std.proofs.Common.{◌≤◌, length, sym, ap, subst, ◌∙◌, arith}
use Rattle.std.proofs.lemmas.List.Elements.{All-nil}
use Rattle.auction_terms.specs.declared.limits.TheConstants.{MAX_QUANTITY}
use Rattle.auction_terms.specs.declared.Trade.{Trade}
use Rattle.auction.specs.AuctionState.{AuctionState}
use Rattle.auction.specs.Executions.{AreSmall}
use Rattle.auction.specs.OpenOrders.{OpenOrders}
use Rattle.auction.proofs.commands.DayState.reset.Goals as goal

pub invariant_of-self : goal.invariant_of-self
invariant_of-self c =
    let book = c.reset.ensures in
    let was = c.self.invariant in
    let low = ap (λ (d : AuctionState). d.config.low) c.self.view_is in
    let high = ap (λ (d : AuctionState). d.config.high) c.self.view_is in
    let at = ap (λ (d : AuctionState). d.config.reference) c.self.view_is in
    record {
      same = record {
        low = ap (λ (b : OpenOrders). b.low) book ∙ was.same.low;
        ticks = ap (λ (b : OpenOrders). b.ticks) book ∙ was.same.ticks;
        max_open = ap (λ (b : OpenOrders). b.max_open) book ∙ was.same.max_open;
        max_calls = ap (λ (b : OpenOrders). b.max_calls) book ∙ was.same.max_calls;
        kind = ap (λ (b : OpenOrders). b.kind) book;
        few = omega (arith, ap (λ (b : OpenOrders). length b.orders) book);
      };
      reference = (omega (arith, c.requires.0, low, at), omega (arith, c.requires.1, at, high));
      trades = omega (arith, c.clear.ensures.len);
      room = omega (arith, was.room, c.clear.ensures.capacity);
      small = subst AreSmall (sym c.clear.ensures.items) (All-nil (λ (t : Trade). t.quantity ≤ MAX_QUANTITY));
    }
