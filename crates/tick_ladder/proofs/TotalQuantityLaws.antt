-- What an added order makes of all quantities.
use Rattle.std.proofs.Common.{◌≡◌, ℕ, ◌+◌, length, arith}
use Rattle.std.proofs.lemmas.List.{length-set}
use Rattle.std.proofs.lemmas.Grind.{common_steps}
use Rattle.auction_terms.specs.declared.Side.{Side}
use Rattle.auction_terms.specs.declared.Limit.{Limit}
use Rattle.auction_terms.specs.Ladder.{LadderView, with_added}
use Rattle.tick_ladder.specs.TickLadder.{total_quantity, IsInBounds}
use Rattle.tick_ladder.proofs.PresenceLaws.{sum-set}

-- there is `quantity` more, on the same ticks
pub record HasQuantityMore (old new : LadderView) (quantity : ℕ) : Type 0 where
  pub all : total_quantity new ≡ total_quantity old + quantity
  pub low : new.low ≡ old.low
  pub len : length new.bids ≡ length old.bids

pub added_more : (v : LadderView) (side : Side) (limit : Limit) (q : ℕ) → IsInBounds v limit
    → length v.asks ≡ length v.bids → HasQuantityMore v (with_added v side limit q) q
added_more v side limit q bounds same = grind (arith, common_steps, sum-set, length-set)
