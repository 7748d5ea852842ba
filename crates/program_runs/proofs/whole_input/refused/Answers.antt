-- Answers of `refused` (src/whole_input.rt): what the prover left open; rt looks here.
use Rattle.program_runs.proofs.ComingLaws.{coming-refused}
use Rattle.program_runs.proofs.whole_input.refused.Goals as goal

pub returns-in-Ok-clause-recorded : goal.returns-in-Ok-clause-recorded
returns-in-Ok-clause-recorded g c = λ form.
    coming-refused form c.args.day _ c.args.fault c.in-Ok.ensures.passed c.requires.fault
