-- Answers of `Session::end` (src/session.rt): what the prover left open; rt looks here.
-- Of `Session::end`: a line that the input ends in is cut off, in the form that `rt` wants.
use Rattle.std.proofs.Common.{subst, sym, OnOk, ◌∙◌}
use Rattle.live_session.specs.Answered.{Answered}
use Rattle.live_session.specs.Gathered.{Gathers}
use Rattle.live_session.proofs.SessionLaws.{end-blank, end-open}
use Rattle.live_session.proofs.session.Session.end.Goals as goal

pub returns-then-is_blank : goal.returns-then-is_blank
returns-then-is_blank c = λ terms start lines given committed h.
    end-blank _ terms _ lines.at_hand _ given committed h.line
    (sym c.as_slice.ensures.value ∙ c.is_blank.ensures.blank c.if-is_blank.true) h.gathers

pub returns : goal.returns
returns c = λ terms start lines given committed h.
    subst (λ (a : Answered). OnOk c.refuse.result (Gathers c.refuse.new.self terms a given committed))
    (end-open _ lines.at_hand _ h.line
    (λ none. c.is_blank.ensures.text c.if-is_blank.false (c.as_slice.ensures.value ∙ none)))
    (c.refuse.ensures terms _ given committed h.gathers)
