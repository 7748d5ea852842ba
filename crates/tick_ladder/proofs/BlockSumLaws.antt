-- The sums of the blocks, when they are made and when a number changes.
use Rattle.std.proofs.Common.{◌≡◌, ℕ, ◌+◌, ◌*◌, ◌≤◌, ◌<◌, List, length, get_or, set, sum, ap, arith}
use Rattle.std.proofs.lemmas.Bool.{cases_lt}
use Rattle.std.proofs.lemmas.List.{length-set}
use Rattle.std.proofs.lemmas.Grind.{common_steps}
use Rattle.lanes.specs.Meeting.{before}
use Rattle.tick_ladder.specs.BlockSums.{IsCoarse}
use Rattle.tick_ladder.proofs.BeforeLaws.{before_next, before_all, before_most, before_rises, before_set}
use Rattle.tick_ladder.proofs.BeforeLaws.{before_set_later}

-- all blocks together
pub coarse_sum : (fine coarse : List ℕ) → IsCoarse fine coarse → sum coarse ≡ sum fine
coarse_sum fine coarse h = grind (arith, common_steps, before_all)

-- the number at a place is in the sum of its block
pub in_block : (b cb : List ℕ) (i k : ℕ) → IsCoarse b cb → i < length b → k * 64 ≤ i → i < k * 64 + 64
    → (k < length cb) × (get_or b i 0 ≤ get_or cb k 0) × (get_or cb k 0 ≤ sum b)
in_block b cb i k h lt from to =
    let inside : k < length cb = let e = h.enough in omega arith in
    let step : (k + 1) * 64 ≡ k * 64 + 64 = omega arith in
    let up = ap (before b) step in (
      inside,
      omega (
        arith,
        up,
        before_next cb k,
        h.law k (omega arith),
        h.law (k + 1) (omega arith),
        before_next b i,
        before_rises b (k * 64) i from,
        before_rises b (i + 1) (k * 64 + 64) (omega arith),
      ),
      omega (arith, before_next cb k, h.law k (omega arith), h.law (k + 1) (omega arith), before_most b ((k + 1) * 64)),
    )

pub coarse_set : (b cb : List ℕ) (i k v w : ℕ) → IsCoarse b cb → i < length b → k * 64 ≤ i → i < k * 64 + 64
    → v + get_or cb k 0 ≡ w + get_or b i 0 → IsCoarse (set b i v) (set cb k w)
coarse_set b cb i k v w h lt from to e =
    grind (arith, common_steps, in_block, length-set, cases_lt, before_set, before_set_later)
