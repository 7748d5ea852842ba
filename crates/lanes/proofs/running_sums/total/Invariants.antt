-- Invariants of the loops of `total` (src/running_sums.rt); rt looks here.
use Rattle.std.proofs.Common.{◌≡◌, ◌≤◌, ◌-◌, length}
use Rattle.lanes.specs.Meeting.{before}
use Rattle.lanes.proofs.running_sums.total.Given as goal

abbrev pub invariant-eights : goal.invariant-eights
invariant-eights l = record { within : l.at ≤ length l.src; done : l.sum ≡ before l.src l.at }

abbrev pub invariant-rest : goal.invariant-rest
invariant-rest l = record { within : l.at ≤ length l.src; done : l.sum ≡ before l.src l.at }

abbrev pub decreases-eights : goal.decreases-eights
decreases-eights l = length l.src - l.at

abbrev pub decreases-rest : goal.decreases-rest
decreases-rest l = length l.src - l.at
