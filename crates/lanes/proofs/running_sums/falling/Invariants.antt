-- Invariants of the loops of `falling` (src/running_sums.rt); rt looks here.
use Rattle.std.proofs.Common.{◌≡◌, ◌+◌, ◌≤◌, length, drop}
use Rattle.std.specs.Prelude.{sum}
use Rattle.lanes.specs.RunningSums.{falling_sums}
use Rattle.lanes.proofs.running_sums.falling.Given as goal

abbrev pub invariant-eights : goal.invariant-eights
invariant-eights l = record {
  within : l.at ≤ length l.src;
  carried : l.carry ≡ l.start + sum (drop l.at l.src);
  done : drop l.at l.out ≡ falling_sums l.start (drop l.at l.src);
}

abbrev pub invariant-rest : goal.invariant-rest
invariant-rest l = record {
  within : l.at ≤ length l.src;
  carried : l.carry ≡ l.start + sum (drop l.at l.src);
  done : drop l.at l.out ≡ falling_sums l.start (drop l.at l.src);
}

abbrev pub decreases-eights : goal.decreases-eights
decreases-eights l = l.at

abbrev pub decreases-rest : goal.decreases-rest
decreases-rest l = l.at
