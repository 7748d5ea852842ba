-- Invariants of the loops of `last_positive` (src/choices.rt); rt looks here.
use Rattle.std.proofs.Common.{◌≤◌, length}
use Rattle.lanes.specs.Positive.{NoneIn}
use Rattle.lanes.proofs.choices.last_positive.Given as goal

abbrev pub invariant-eights : goal.invariant-eights
invariant-eights l = record { within : l.end ≤ length l.values; none : NoneIn l.values l.end (length l.values) }

abbrev pub invariant-rest : goal.invariant-rest
invariant-rest l = record { within : l.end ≤ length l.values; none : NoneIn l.values l.end (length l.values) }

abbrev pub decreases-eights : goal.decreases-eights
decreases-eights l = l.end

abbrev pub decreases-rest : goal.decreases-rest
decreases-rest l = l.end
