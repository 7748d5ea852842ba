-- Invariants of the loops of `join_all` (src/threads.rt); rt looks here.
use Rattle.std.proofs.Common.{◌≡◌, ◌≤◌, ◌+◌, List, map, length, vec_capacity, ◌++◌}
use Rattle.std.specs.Vec.Iter.{into_iter_items}
use Rattle.member_board.specs.PlaysScript.{MemberScript, EachPlaysScript}
use Rattle.member_board.proofs.threads.join_all.Given as goal

abbrev pub invariant-loop : goal.invariant-loop
invariant-loop g l = record {
  count : length l.played.items ≡ l.counter;
  left : l.counter + length (into_iter_items l.handles) ≡ l.n;
  room : l.n ≤ vec_capacity l.played;
  plays : (ts : List MemberScript)
      × (ts ++ map (λ h. h.promise.task.value) (into_iter_items l.handles)
      ≡ map (λ h. h.promise.task.value) l.fn.handles.items)
      × EachPlaysScript g.K.BoardIdentity.config ts l.played.items;
}
