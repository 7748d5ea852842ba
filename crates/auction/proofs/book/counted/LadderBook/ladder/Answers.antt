-- Answers of `LadderBook::ladder` (src/book/counted.rt): what the prover left open; rt looks here.
use Rattle.std.proofs.Common.{subst}
use Rattle.auction_terms.specs.Auxiliary.StampedOrders.{orders_of}
use Rattle.tick_ladder.specs.TickLadder.{IsLadderOf}
use Rattle.auction.specs.OpenOrders.{counted_orders}
use Rattle.auction.specs.LadderBook.{LadderBookView}
use Rattle.auction.proofs.LimitLaws.{kept_ladder}
use Rattle.auction.proofs.book.counted.LadderBook.ladder.Goals as goal

pub returns-clause-book : goal.returns-clause-book
returns-clause-book c =
    let ladder = c.self.inside.ladder in
    subst (λ (b : LadderBookView). IsLadderOf ladder (counted_orders b.book)) c.self.view_is
    (kept_ladder c.self.inside.kind (orders_of c.self.inside.orders.line) ladder c.self.invariant.kept)
