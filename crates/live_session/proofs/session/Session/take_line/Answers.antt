-- Answers of `Session::take_line` (src/session.rt): what the prover left open; rt looks here.
-- Of `Session::take_line`: the line ends after its last bytes, in the form that `rt` wants.
use Rattle.live_session.proofs.session.Session.take_line.Goals as goal

pub returns : goal.returns
returns c = λ terms start lines given committed h.
    c.end_line.ensures terms start _ given committed (c.in_ok-take_bytes.ensures terms start lines given committed h)
