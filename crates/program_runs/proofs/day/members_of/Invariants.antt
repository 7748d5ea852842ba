-- Invariants of the loops of `members_of` (src/day.rt); rt looks here.
use Rattle.std.proofs.Common.{◌≡◌, ◌≤◌, ◌+◌, ◌++◌, map, length, vec_capacity}
use Rattle.std.specs.Vec.Iter.{into_iter_items}
use Rattle.member_board.specs.PlaysScript.{PlayedScript}
use Rattle.program_runs.proofs.day.members_of.Given as goal

-- the members so far, and those that are left, are all
abbrev pub invariant-loop : goal.invariant-loop
invariant-loop g l = record {
  count : length l.members.items ≡ l.counter;
  left : l.counter + length (into_iter_items l.played) ≡ l.n;
  room : l.n ≤ vec_capacity l.members;
  members : l.members.items ++ map (λ (p : PlayedScript). p.member) (into_iter_items l.played)
      ≡ map (λ (p : PlayedScript). p.member) l.fn.played.items;
}
