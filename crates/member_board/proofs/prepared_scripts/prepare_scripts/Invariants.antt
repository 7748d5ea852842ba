-- Invariants of the loops of `prepare_scripts` (src/prepared_scripts.rt); rt looks here.
use Rattle.std.proofs.Common.{◌≡◌, ◌≤◌, ◌+◌, ◌++◌, All, map, length, vec_capacity}
use Rattle.std.specs.Vec.Iter.{into_iter_items}
use Rattle.member_board.specs.declared.script.Script.{Script}
use Rattle.member_board.specs.PlaysScript.{FitsHistory}
use Rattle.member_board.proofs.prepared_scripts.prepare_scripts.Given as goal

abbrev pub invariant-loop : goal.invariant-loop
invariant-loop l = record {
  count : length l.prepared_scripts.items ≡ l.counter;
  left : l.counter + length (into_iter_items l.scripts) ≡ l.n;
  room : l.n ≤ vec_capacity l.prepared_scripts;
  few : All FitsHistory (into_iter_items l.scripts);
  prepared_scripts : l.prepared_scripts.items ++ map (λ (s : Script). s.commands.items) (into_iter_items l.scripts)
      ≡ map (λ (s : Script). s.commands.items) l.fn.scripts.items;
}
