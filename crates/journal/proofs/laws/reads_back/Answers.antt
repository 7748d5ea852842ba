-- Answers of `reads_back` (src/laws.rt): what the prover left open; rt looks here.
use Rattle.journal.proofs.JournalReadLaws.{reads-back}
use Rattle.journal.proofs.JournalSizeLaws.{reads-history}
use Rattle.journal.proofs.laws.reads_back.Goals as goal

pub returns : goal.returns
returns c = record { texts = reads-back; history = reads-history }
