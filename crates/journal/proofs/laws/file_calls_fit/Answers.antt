-- Answers of `file_calls_fit` (src/laws.rt): what the prover left open; rt looks here.
use Rattle.journal.proofs.FileFitLaws.{call-fits, recording-fits}
use Rattle.journal.proofs.laws.file_calls_fit.Goals as goal

pub returns : goal.returns
returns c = record { orders = call-fits; journals = recording-fits }
