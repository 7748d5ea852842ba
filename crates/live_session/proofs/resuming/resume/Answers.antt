-- Answers of `resume` (src/resuming.rt): what the prover left open; rt looks here.
use Rattle.live_session.proofs.ResumeLaws.{never_a_journal}
use Rattle.live_session.proofs.resuming.resume.Goals as goal

pub returns-in-Err-clause-read : goal.returns-in-Err-clause-read
returns-in-Err-clause-read c =
    λ some. never_a_journal c.args.day _ c.in-Err.fault c.in-Err.ensures.day c.in-Err.ensures.parsed
