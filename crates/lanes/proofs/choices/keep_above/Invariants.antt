-- Invariants of the loops of `keep_above` (src/choices.rt); rt looks here.
use Rattle.std.proofs.Common.{◌≡◌, ◌≤◌, ◌-◌, length, take, drop}
use Rattle.lanes.specs.Selection.{kept_if_above}
use Rattle.lanes.proofs.choices.keep_above.Given as goal

abbrev pub invariant-eights : goal.invariant-eights
invariant-eights l = record {
  within : l.at ≤ length l.a;
  done : take l.at l.flags ≡ kept_if_above (take l.at l.a) (take l.at l.b) (take l.at l.fn.flags);
  ahead : drop l.at l.flags ≡ drop l.at l.fn.flags;
}

abbrev pub invariant-rest : goal.invariant-rest
invariant-rest l = record {
  within : l.at ≤ length l.a;
  done : take l.at l.flags ≡ kept_if_above (take l.at l.a) (take l.at l.b) (take l.at l.fn.flags);
  ahead : drop l.at l.flags ≡ drop l.at l.fn.flags;
}

abbrev pub decreases-eights : goal.decreases-eights
decreases-eights l = length l.initial.flags - l.at

abbrev pub decreases-rest : goal.decreases-rest
decreases-rest l = length l.initial.flags - l.at
