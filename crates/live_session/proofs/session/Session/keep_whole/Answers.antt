-- Answers of `Session::keep_whole` (src/session.rt): what the prover left open; rt looks here.
-- Of `Session::keep_whole`: one more line waits, in the form that `rt` wants.
use Rattle.std.proofs.Common.{refl, sym, ◌∙◌}
use Rattle.live_session.specs.InputLines.{line_longer}
use Rattle.live_session.proofs.SessionLaws.{kept-line, whole-line}
use Rattle.live_session.proofs.session.Session.keep_whole.Goals as goal

pub returns : goal.returns
returns c = λ empty fine terms start lines given committed h.
    kept-line c.args.self.now _ terms start lines (line_longer c.args.line.now lines) given committed _ h refl
    (whole-line lines.at_hand c.args.line.now (sym empty ∙ h.line) fine) fine refl c.in_ok-put_record.ensures empty
