-- Answers of `first_line_end` (src/line.rt): what the prover left open; rt looks here.
-- Of `first_line_end`: the place of the first byte that is one of two, in the form that `rt` wants.
use Rattle.live_session.proofs.InputLineLaws.{first-line-end}
use Rattle.live_session.proofs.line.first_line_end.Goals as goal

pub returns : goal.returns
returns c = first-line-end _ _ c.memchr2.ensures
