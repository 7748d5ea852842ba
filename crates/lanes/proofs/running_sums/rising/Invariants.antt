-- Invariants of the loops of `rising` (src/running_sums.rt); rt looks here.
use Rattle.std.proofs.Common.{◌≡◌, ◌+◌, ◌≤◌, ◌-◌, length, take}
use Rattle.std.specs.Prelude.{sum}
use Rattle.lanes.specs.RunningSums.{rising_sums}
use Rattle.lanes.proofs.running_sums.rising.Given as goal

abbrev pub invariant-eights : goal.invariant-eights
invariant-eights l = record {
  within : l.at ≤ length l.src;
  carried : l.carry ≡ l.start + sum (take l.at l.src);
  done : take l.at l.out ≡ rising_sums l.start (take l.at l.src);
}

abbrev pub invariant-rest : goal.invariant-rest
invariant-rest l = record {
  within : l.at ≤ length l.src;
  carried : l.carry ≡ l.start + sum (take l.at l.src);
  done : take l.at l.out ≡ rising_sums l.start (take l.at l.src);
}

abbrev pub decreases-eights : goal.decreases-eights
decreases-eights l = length l.src - l.at

abbrev pub decreases-rest : goal.decreases-rest
decreases-rest l = length l.src - l.at
