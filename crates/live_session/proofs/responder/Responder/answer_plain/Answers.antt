-- Answers of `Responder::answer_plain` (src/responder.rt): what the prover left open; rt looks here.
use Rattle.std.proofs.Common.{OnOk, ap, subst, ◌∙◌}
use Rattle.live_session.specs.Answered.{Answered, after_record}
use Rattle.live_session.specs.Gathered.{Gathers}
use Rattle.live_session.proofs.ResponderLaws.{blank-answered, plain-answered}
use Rattle.live_session.proofs.responder.Responder.answer_plain.Goals as goal

pub returns-then-is_blank : goal.returns-then-is_blank
returns-then-is_blank c = λ terms so_far given committed h.
    subst (λ (a : Answered). Gathers c.args.self.now terms a given committed)
    (blank-answered terms so_far c.args.line.now (c.is_blank.ensures.blank c.if-is_blank.true)) h

pub returns : goal.returns
returns c = λ terms so_far given committed h.
    subst (λ (a : Answered). OnOk c.answer_row.result (Gathers c.answer_row.new.self terms a given committed))
    (ap (after_record terms so_far) c.in_ok-put_fields.ensures
    ∙ plain-answered terms so_far c.args.line.now (c.is_blank.ensures.text c.if-is_blank.false) c.requires)
    (c.answer_row.ensures terms so_far given committed h)
