-- Answers of `join_all` (src/threads.rt): what the prover left open; rt looks here.
use Rattle.std.proofs.Common.{rules, arith, ap, ◌≡◌, ◌∷◌, length}
use Rattle.std.specs.Vec.Iter.{into_iter_items}
use Rattle.member_board.proofs.PlayingLaws.{PlaysScript-next, PlaysScript-end}
use Rattle.member_board.proofs.threads.join_all.Goals as goal

pub loop-preserved : goal.loop-preserved
loop-preserved g c =
    let was = c.loop.invariant in
    let rest = into_iter_items c.next.new.self in
    let h = c.unwrap-handle.result in
    let step : into_iter_items c.loop.handles ≡ h ∷ rest = search rules in
    record {
      count = search rules;
      left = omega (arith, was.left, ap length step);
      room = search rules;
      plays =
          PlaysScript-next (λ h. h.promise.task.value) g.K.BoardIdentity.config was.plays.0 _ h
          (into_iter_items c.loop.handles) rest c.loop.played.items c.push_reserved.new.self.items c.join.result step
          was.plays.1 c.push_reserved.ensures.items was.plays.2 c.join.ensures;
    }

pub returns : goal.returns
returns g c =
    let was = c.loop.invariant in
    PlaysScript-end (λ h. h.promise.task.value) g.K.BoardIdentity.config was.plays.0 _ (into_iter_items c.loop.handles)
    c.loop.played.items (omega (arith, was.left, c.loop-test.false)) was.plays.1 was.plays.2
