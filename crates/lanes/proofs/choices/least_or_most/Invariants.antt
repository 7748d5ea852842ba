-- Invariants of the loops of `least_or_most` (src/choices.rt); rt looks here.
use Rattle.std.proofs.Common.{◌≡◌, ◌≤◌, ◌-◌, length, take}
use Rattle.lanes.specs.Selection.{flagged, least}
use Rattle.lanes.proofs.choices.least_or_most.Given as goal

abbrev pub invariant-eights : goal.invariant-eights
invariant-eights l = record {
  within : l.at ≤ length l.flags;
  eight : length l.lanes ≡ 8;
  done : least l.lanes ≡ least (flagged (take l.at l.values) (take l.at l.flags));
}

abbrev pub invariant-rest : goal.invariant-rest
invariant-rest l =
    record { within : l.at ≤ length l.flags; done : l.least ≡ least (flagged (take l.at l.values) (take l.at l.flags)) }

abbrev pub decreases-eights : goal.decreases-eights
decreases-eights l = length l.flags - l.at

abbrev pub decreases-rest : goal.decreases-rest
decreases-rest l = length l.flags - l.at
