-- Invariants of the loops of `play_tasks` (src/threads.rt); rt looks here.
use Rattle.std.proofs.Common.{◌≡◌, ◌≤◌, ◌+◌, ◌++◌, None, map, length, vec_capacity}
use Rattle.std.specs.Vec.Iter.{into_iter_items}
use Rattle.member_board.proofs.threads.play_tasks.Given as goal

abbrev pub invariant-loop : goal.invariant-loop
invariant-loop g l = record {
  count : length l.handles.items ≡ l.counter;
  left : l.counter + length (into_iter_items l.tasks) ≡ l.n;
  room : l.n ≤ vec_capacity l.handles;
  tasks : map (λ h. h.promise.task.value) l.handles.items ++ into_iter_items l.tasks ≡ into_iter_items l.initial.tasks;
  no_fault : l.fault ≡ None;
}
