-- Sums of blocks of places, and of groups of blocks.
use Rattle.std.specs.Prelude.{◌≡◌, ℕ, ◌+◌, ◌*◌, ◌<◌, ◌≤◌, List, length}
use Rattle.auction_terms.specs.declared.limits.TheConstants.{MAX_TICKS}
use Rattle.lanes.specs.Meeting.{before}

-- block by block of 64, the sums of a list
pub record IsCoarse (fine coarse : List ℕ) : Type 0 where
  pub enough : length fine ≤ length coarse * 64
  pub tight : length coarse * 64 < length fine + 64
  pub law : (k : ℕ) → k ≤ length coarse → before coarse k ≡ before fine (k * 64)

-- the sums of the blocks of 64 places, and of the groups of 64 blocks
pub record HasBlockSums (places blocks groups : List ℕ) : Type 0 where
  pub few : length places ≤ MAX_TICKS
  pub blocks_are : IsCoarse places blocks
  pub groups_are : IsCoarse blocks groups
