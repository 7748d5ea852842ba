-- Invariants of the loops of `split` (src/scripts.rt); rt looks here.
use Rattle.std.proofs.Common.{◌≡◌, ◌≤◌, vec_capacity}
use Rattle.program_runs.specs.BoardRun.{IsSplit}
use Rattle.program_runs.proofs.scripts.split.Given as goal

-- the members so far have their scripts, and there is room for the others'
abbrev pub invariant-loop-member : goal.invariant-loop-member
invariant-loop-member l = record {
  split : IsSplit l.member l.calls l.scripts.items;
  len : l.scripts.len ≡ l.member;
  room : l.members ≤ vec_capacity l.scripts;
}
