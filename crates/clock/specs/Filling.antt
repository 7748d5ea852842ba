-- Ladders that are filled with orders.
use Rattle.std.specs.Prelude.{◌≡◌, ℕ, ◌≤◌, length}
use Rattle.auction_terms.specs.Ladder.{LadderView}
use Rattle.tick_ladder.specs.TickLadder.{total_quantity}

-- the same ticks, with at most `most` shares on them
pub record IsFilled (old new : LadderView) (most : ℕ) : Type 0 where
  pub total : total_quantity new ≤ most
  pub low : new.low ≡ old.low
  pub len : length new.bids ≡ length old.bids
