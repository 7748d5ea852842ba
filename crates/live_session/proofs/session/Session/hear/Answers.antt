-- Answers of `Session::hear` (src/session.rt): what the prover left open; rt looks here.
-- Of `Session::hear`: what has come is answered, in the form that `rt` wants.
use Rattle.live_session.proofs.session.Session.hear.Goals as goal

pub returns : goal.returns
returns c = λ terms start lines given committed h.
    c.answer_waiting.ensures terms start _ given committed
    (c.in_ok-take_all.ensures terms start lines given committed h)
