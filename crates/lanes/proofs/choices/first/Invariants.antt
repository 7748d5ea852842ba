-- Invariants of the loops of `first` (src/choices.rt); rt looks here.
use Rattle.std.proofs.Common.{◌≤◌, ◌-◌, length}
use Rattle.lanes.specs.Selection.{NoFlagIn}
use Rattle.lanes.proofs.choices.first.Given as goal

abbrev pub invariant-eights : goal.invariant-eights
invariant-eights l = record { within : l.at ≤ length l.flags; none : NoFlagIn l.flags 0 l.at }

abbrev pub invariant-rest : goal.invariant-rest
invariant-rest l = record { within : l.at ≤ length l.flags; none : NoFlagIn l.flags 0 l.at }

abbrev pub decreases-eights : goal.decreases-eights
decreases-eights l = length l.flags - l.at

abbrev pub decreases-rest : goal.decreases-rest
decreases-rest l = length l.flags - l.at
