-- Answers of `play_tasks` (src/threads.rt): what the prover left open; rt looks here.
use Rattle.std.proofs.Common.{rules, arith, sym, ap, ◌≡◌, ◌∙◌, ◌∷◌, ◌++◌, List, map, length}
use Rattle.std.specs.Vec.Iter.{into_iter_items}
use Rattle.member_board.specs.PlaysScript.{MemberScript}
use Rattle.member_board.proofs.PlayingLaws.{some_play, whole_play, none_left}
use Rattle.member_board.proofs.threads.play_tasks.Goals.{else-loop-test, then-loop-test+in_default}
use Rattle.member_board.proofs.threads.play_tasks.Goals as goal

pub returns : goal.returns
returns g c =
    let xs : List MemberScript = map (λ h. h.promise.task.value) c.loop.handles.items in
    let rest : List MemberScript = into_iter_items c.loop.tasks in
    let is : xs ++ rest ≡ c.args.run_room.tasks.items = c.loop.invariant.tasks ∙ c.into_iter-tasks.ensures.rest in
    elim c.loop-test.branch [
      | else-loop-test w ↦
          let none_left_over : length rest ≡ 0 = omega (arith, c.loop.invariant.left, w.loop-test.false) in
          let left : c.members_left.result.items ≡ map (λ (t : MemberScript). t.member) rest =
          c.members_left.ensures ∙ ap (λ p. map (λ (t : MemberScript). t.member) (into_iter_items p)) w.tasks-is in
          record {
            all =
                λ none. (
                  none_left rest c.members_left.result.items none_left_over left,
                  whole_play g.K.BoardIdentity.config xs rest c.args.run_room.tasks.items c.join_all.result.items
                      none_left_over is c.join_all.ensures,
                );
            room = λ e. absurd (cc (w.fault-is, c.loop.invariant.no_fault, e));
            thread = λ e. absurd (cc (w.fault-is, c.loop.invariant.no_fault, e));
          }
      | then-loop-test+in_default w ↦
          let after : List MemberScript = into_iter_items w.next.new.self in
          let step : rest ≡ w.unwrap-task.result ∷ after = search rules in
          let left : c.members_left.result.items ≡ map (λ (t : MemberScript). t.member) after =
          c.members_left.ensures ∙ ap (λ p. map (λ (t : MemberScript). t.member) (into_iter_items p)) w.tasks-is in
          record {
            all = λ none. absurd (cc (w.fault-is, none));
            room = λ e. absurd (cc (w.fault-is, e));
            thread =
                λ e. some_play g.K.BoardIdentity.config xs after c.args.run_room.tasks.items w.unwrap-task.result
                c.join_all.result.items c.members_left.result.items (ap (λ ts. xs ++ ts) (sym step) ∙ is)
                c.join_all.ensures left;
          }
    ]
