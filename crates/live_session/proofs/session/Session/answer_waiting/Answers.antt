-- Answers of `Session::answer_waiting` (src/session.rt): what the prover left open; rt looks here.
-- Of `Session::answer_waiting`: the lines after the line end are answered, in the form that `rt` wants.
use Rattle.std.proofs.Common.{rules, take, ap, subst, ◌∙◌}
use Rattle.live_session.specs.Answered.{Answered}
use Rattle.live_session.specs.Gathered.{Gathers}
use Rattle.live_session.proofs.ResponderLaws.{waiting-answered}
use Rattle.live_session.proofs.SessionLaws.{none-waits}
use Rattle.live_session.proofs.session.Session.answer_waiting.Goals as goal

pub returns-then-len-eq1 : goal.returns-then-len-eq1
returns-then-len-eq1 c = λ terms start lines given committed h.
    none-waits c.args.self.now terms start lines given committed h (search rules)

pub returns : goal.returns
returns c = λ terms start lines given committed h. record {
  gathers = subst (λ (a : Answered). Gathers c.answer_text.new.self terms a given committed)
      (waiting-answered terms start lines h.applied _ h.text (c.as_slice.ensures.value ∙ h.waiting) h.answers)
      (c.in_ok-answer_text.ensures terms h.applied given committed h.gathers);
  waiting = c.truncate.ensures.items ∙ ap (take 1) h.waiting;
  line = h.line;
}
