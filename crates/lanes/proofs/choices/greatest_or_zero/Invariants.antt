-- Invariants of the loops of `greatest_or_zero` (src/choices.rt); rt looks here.
use Rattle.std.proofs.Common.{◌≡◌, ◌≤◌, ◌-◌, length, take}
use Rattle.lanes.specs.Selection.{flagged, greatest}
use Rattle.lanes.proofs.choices.greatest_or_zero.Given as goal

abbrev pub invariant-eights : goal.invariant-eights
invariant-eights l = record {
  within : l.at ≤ length l.flags;
  eight : length l.lanes ≡ 8;
  done : greatest l.lanes ≡ greatest (flagged (take l.at l.values) (take l.at l.flags));
}

abbrev pub invariant-rest : goal.invariant-rest
invariant-rest l = record {
  within : l.at ≤ length l.flags;
  done : l.most ≡ greatest (flagged (take l.at l.values) (take l.at l.flags));
}

abbrev pub decreases-eights : goal.decreases-eights
decreases-eights l = length l.flags - l.at

abbrev pub decreases-rest : goal.decreases-rest
decreases-rest l = length l.flags - l.at
