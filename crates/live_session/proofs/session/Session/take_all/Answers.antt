-- Answers of `Session::take_all` (src/session.rt): what the prover left open; rt looks here.
-- Of `Session::take_all`: one more line, in the form that `rt` wants.
use Rattle.std.proofs.Common.{◌≡◌, [], refl, ap, subst, sym, rules, OnOk, ◌∙◌}
use Rattle.live_session.specs.Hearing.{HasHeard}
use Rattle.live_session.specs.InputLines.{Lines, lines_once_read}
use Rattle.live_session.proofs.InputLineLaws.{lines-longer, lines-none, no-bytes}
use Rattle.live_session.proofs.SessionLaws.{next-line}
use Rattle.live_session.proofs.session.Session.take_all.Goals as goal

pub lines-init : goal.lines-init
lines-init c = λ terms start lines given committed h. (lines, h, refl)

pub returns-in_default : goal.returns-in_default
returns-in_default c = λ terms start lines given committed h.
    let (now, at, same) = c.lines.invariant terms start lines given committed h in
    subst (λ (l : Lines). OnOk c.take_bytes.result (HasHeard c.take_bytes.new.self terms start l given committed))
    (sym (lines-longer now _ c.in_default.ensures) ∙ same) (c.take_bytes.ensures terms start now given committed at)

pub lines-preserved : goal.lines-preserved
lines-preserved c = λ terms start lines given committed h.
    let (now, at, same) = c.lines.invariant terms start lines given committed h in (
      _,
      c.in_ok-take_line.ensures terms start now given committed at,
      next-line now _ _ _ _ _ c.in-Some.ensures c.split_at.ensures.front c.split_at.ensures.back
          c.split_at-in-lines.ensures.back ∙ same,
    )

pub returns : goal.returns
returns c = λ terms start lines given committed h.
    let (now, at, same) = c.lines.invariant terms start lines given committed h in
    let none : c.lines.rest.now ≡ [] = no-bytes _ (search rules) in
    subst (λ (l : Lines). HasHeard c.lines.self terms start l given committed)
    (sym (lines-none now) ∙ ap (lines_once_read now) (sym none) ∙ same) at
