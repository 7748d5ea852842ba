-- Answers of `run_program` (src/main.rt): what the prover left open; rt looks here.
use Rattle.callboard.proofs.run_program.Goals as goal

-- the arguments and the ends are those that `serve` had
pub returns : goal.returns
returns g c = (_, _, _, _, _, _, _, _, _, _, c.serve.ensures.answer)
