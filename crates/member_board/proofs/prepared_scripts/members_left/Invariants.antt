-- Invariants of the loops of `members_left` (src/prepared_scripts.rt); rt looks here.
use Rattle.std.proofs.Common.{◌≡◌, ◌≤◌, ◌+◌, ◌++◌, map, length, vec_capacity}
use Rattle.std.specs.Vec.Iter.{into_iter_items}
use Rattle.member_board.specs.PlaysScript.{MemberScript}
use Rattle.member_board.proofs.prepared_scripts.members_left.Given as goal

abbrev pub invariant-loop : goal.invariant-loop
invariant-loop g l = record {
  count : length l.rest.items ≡ l.counter;
  left : l.counter + length (into_iter_items l.tasks) ≡ length (into_iter_items l.initial.tasks);
  room : length (into_iter_items l.initial.tasks) ≤ vec_capacity l.rest;
  members : l.rest.items ++ map (λ (t : MemberScript). t.member) (into_iter_items l.tasks)
      ≡ map (λ (t : MemberScript). t.member) (into_iter_items l.initial.tasks);
}
