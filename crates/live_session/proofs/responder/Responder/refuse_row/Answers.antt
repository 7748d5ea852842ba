-- Answers of `Responder::refuse_row` (src/responder.rt): what the prover left open; rt looks here.
-- Of `Responder::refuse_row`: the cause is that of the answers so far, in the form that `rt` wants.
use Rattle.std.proofs.Common.{◌∙◌, ap, refl}
use Rattle.input_hints.specs.declared.hint.Hint.{Hint}
use Rattle.std.specs.Prelude.{Option}
use Rattle.live_session.specs.Answered.{refused_with}
use Rattle.live_session.proofs.ResponderLaws.{adds-as}
use Rattle.live_session.proofs.responder.Responder.refuse_row.Goals as goal

pub returns : goal.returns
returns c =
    adds-as _ _ _ _ _ (λ terms so_far t a n.
    ap (λ (cause : Option Hint). refused_with so_far c.args.fault cause) (c.in_ok-cause.ensures ∙ rw (t, a, n) refl))
    c.refuse_with.ensures
