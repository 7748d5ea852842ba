-- Answers of `pass_over` (src/road.rt): what the prover left open; rt looks here.
use Rattle.journal.proofs.EntryLaws.{next-behind}
use Rattle.day_road.proofs.road.pass_over.Goals as goal

pub turns-preserved : goal.turns-preserved
turns-preserved g c =
    let (front, all) = c.turns.invariant.calls in
    let next = rw c.in-Some.is at c.in_ok-next.ensures.gives in
    record { ready = rw c.in-Some.is at c.in_ok-next.ensures.ready; calls = (_, next-behind front _ _ _ _ all next) }
