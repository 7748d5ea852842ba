-- Invariants of the loops of `meet` (src/running_sums.rt); rt looks here.
use Rattle.std.proofs.Common.{◌≡◌, ◌≤◌, ◌<◌, ◌+◌, ◌-◌, ◌⊎◌, ℕ, List, length}
use Rattle.lanes.specs.Meeting.{before}
use Rattle.lanes.proofs.running_sums.meet.Given as goal

pub record HasWalked (falls rises : List ℕ) (first last place high low : ℕ) : Type 0 where
  pub within : place < length falls
  pub high_is : high + before falls place ≡ first
  pub low_is : low ≡ last + before rises place
  pub met : (place ≡ 0) ⊎ (low ≤ high)

abbrev pub invariant-eights : goal.invariant-eights
invariant-eights l = HasWalked l.falls l.rises l.fn.high l.fn.low l.place l.high l.low

abbrev pub invariant-rest : goal.invariant-rest
invariant-rest l = HasWalked l.falls l.rises l.fn.high l.fn.low l.place l.high l.low

abbrev pub decreases-eights : goal.decreases-eights
decreases-eights l = length l.falls - l.place

abbrev pub decreases-rest : goal.decreases-rest
decreases-rest l = length l.falls - l.place
