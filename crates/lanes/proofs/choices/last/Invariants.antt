-- Invariants of the loops of `last` (src/choices.rt); rt looks here.
use Rattle.std.proofs.Common.{◌≤◌, length}
use Rattle.lanes.specs.Selection.{NoFlagIn}
use Rattle.lanes.proofs.choices.last.Given as goal

abbrev pub invariant-eights : goal.invariant-eights
invariant-eights l = record { within : l.end ≤ length l.flags; none : NoFlagIn l.flags l.end (length l.flags) }

abbrev pub invariant-rest : goal.invariant-rest
invariant-rest l = record { within : l.end ≤ length l.flags; none : NoFlagIn l.flags l.end (length l.flags) }

abbrev pub decreases-eights : goal.decreases-eights
decreases-eights l = l.end

abbrev pub decreases-rest : goal.decreases-rest
decreases-rest l = l.end
