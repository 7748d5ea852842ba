-- Answers of `run_input_fits` (src/laws.rt): what the prover left open; rt looks here.
use Rattle.journal.proofs.RunInputFitLaws.{run_input-fits}
use Rattle.journal.proofs.laws.run_input_fits.Goals as goal

pub returns : goal.returns
returns c = run_input-fits
