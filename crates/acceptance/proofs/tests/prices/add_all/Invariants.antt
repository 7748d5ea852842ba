-- Invariants of the loops of `add_all` (src/tests/prices.rt); rt looks here.
use Rattle.std.proofs.Common.{◌≡◌, ◌≤◌, ◌-◌, ℕ, length}
use Rattle.auction_terms.specs.Ladder.{LadderView}
use Rattle.tick_ladder.specs.TickLadder.{total_quantity}
use Rattle.acceptance.proofs.tests.prices.add_all.Given as goal

pub record IsGoingOn (v w : LadderView) (most : ℕ) : Type 0 where
  pub total : total_quantity v ≤ most
  pub low : v.low ≡ w.low
  pub len : length v.bids ≡ length w.bids

abbrev pub invariant-orders : goal.invariant-orders
invariant-orders l = IsGoingOn l.ladder l.fn.ladder l.total

abbrev pub decreases-orders : goal.decreases-orders
decreases-orders l = length l.orders - l.order
