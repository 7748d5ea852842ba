-- Answers of `Session::refuse_line` (src/session.rt): what the prover left open; rt looks here.
-- Of `Session::refuse_line`: the line is answered after those that waited, in the form that `rt` wants.
use Rattle.std.proofs.Common.{ap, sym, rules, ◌∙◌}
use Rattle.live_session.specs.Answered.{line_fault}
use Rattle.live_session.proofs.InputLineLaws.{held-line}
use Rattle.live_session.proofs.SessionLaws.{refused-line}
use Rattle.live_session.proofs.session.Session.refuse_line.Goals as goal

pub returns : goal.returns
returns c = λ is terms start lines given committed h.
    let mid = c.in_ok-answer_waiting.ensures terms start lines given committed h in
    refused-line _ terms start lines given committed c.args.fault
    (sym (held-line lines.at_hand).fault ∙ ap line_fault (sym h.line) ∙ is)
    (c.in_ok-refuse.ensures terms _ given committed mid.gathers) mid.waiting (search rules)
