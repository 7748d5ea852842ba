-- Answers of `Responder::answer_rows` (src/responder.rt): what the prover left open; rt looks here.
-- Of `Responder::answer_rows`: one more record, in the form that `rt` wants.
use Rattle.std.proofs.Common.{refl, subst}
use Rattle.live_session.specs.Answered.{Answered}
use Rattle.live_session.specs.Gathered.{Gathers}
use Rattle.live_session.proofs.ResponderLaws.{rows-end, rows-next}
use Rattle.live_session.proofs.responder.Responder.answer_rows.Goals as goal

pub rows-init : goal.rows-init
rows-init c = record { stands = c.requires; answers = λ terms so_far given committed h. (so_far, h, refl) }

pub next-requires : goal.next-requires
next-requires c = c.rows.invariant.stands

pub returns-then-not-branch : goal.returns-then-not-branch
returns-then-not-branch c = λ terms so_far given committed h.
    let (now, gathers, same) = c.rows.invariant.answers terms so_far given committed h in
    let none = rw c.if-not-branch.true at c.in_ok-next.ensures in
    subst (λ (a : Answered). Gathers c.rows.self terms a given committed) (rows-end terms now _ _ same none) gathers

pub rows-preserved : goal.rows-preserved
rows-preserved c =
    let inv = c.rows.invariant in
    let found = rw c.if-not-branch.false at c.in_ok-next.ensures in
    record {
      stands = found.1;
      answers = λ terms so_far given committed h.
          let (now, gathers, same) = inv.answers terms so_far given committed h in
          (_, c.in_ok-answer_row.ensures terms now given committed gathers, rows-next terms now _ _ _ _ same found.0);
    }
