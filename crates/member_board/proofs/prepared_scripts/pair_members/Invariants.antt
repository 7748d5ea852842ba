-- Invariants of the loops of `pair_members` (src/prepared_scripts.rt); rt looks here.
use Rattle.std.proofs.Common.{◌≡◌, ◌≤◌, ◌+◌, ◌++◌, map, length, vec_capacity}
use Rattle.std.specs.Vec.Iter.{into_iter_items}
use Rattle.member_board.specs.PlaysScript.{MemberScript}
use Rattle.member_board.proofs.prepared_scripts.pair_members.Given as goal

abbrev pub invariant-loop : goal.invariant-loop
invariant-loop g l = record {
  count : length l.tasks.items ≡ l.counter;
  left : l.counter + length (into_iter_items l.members) ≡ l.n;
  scripts_left : l.counter + length (into_iter_items l.prepared_scripts) ≡ l.n;
  room : l.n ≤ vec_capacity l.tasks;
  members : map (λ (t : MemberScript). t.member) l.tasks.items ++ into_iter_items l.members ≡ l.fn.members.items;
  prepared_scripts : map (λ (t : MemberScript). t.commands) l.tasks.items ++ into_iter_items l.prepared_scripts
      ≡ l.fn.prepared_scripts.items;
}
