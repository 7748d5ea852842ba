-- Invariants of the loops of `keep_equal` (src/choices.rt); rt looks here.
use Rattle.std.proofs.Common.{◌≡◌, ◌≤◌, ◌-◌, length, take, drop}
use Rattle.std.specs.Simd.Lanes.{zip2}
use Rattle.lanes.specs.Selection.{kept_if_equal}
use Rattle.lanes.proofs.choices.keep_equal.Given as goal

abbrev pub invariant-eights : goal.invariant-eights
invariant-eights l = record {
  within : l.at ≤ length l.values;
  done : take l.at l.flags ≡ zip2 (kept_if_equal l.wanted) (take l.at l.values) (take l.at l.fn.flags);
  ahead : drop l.at l.flags ≡ drop l.at l.fn.flags;
}

abbrev pub invariant-rest : goal.invariant-rest
invariant-rest l = record {
  within : l.at ≤ length l.values;
  done : take l.at l.flags ≡ zip2 (kept_if_equal l.wanted) (take l.at l.values) (take l.at l.fn.flags);
  ahead : drop l.at l.flags ≡ drop l.at l.fn.flags;
}

abbrev pub decreases-eights : goal.decreases-eights
decreases-eights l = length l.initial.flags - l.at

abbrev pub decreases-rest : goal.decreases-rest
decreases-rest l = length l.initial.flags - l.at
