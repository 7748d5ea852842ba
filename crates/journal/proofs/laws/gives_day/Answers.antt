-- Answers of `gives_day` (src/laws.rt): what the prover left open; rt looks here.
use Rattle.journal.proofs.JournalSizeLaws.{gives-day}
use Rattle.journal.proofs.laws.gives_day.Goals as goal

pub returns : goal.returns
returns c = gives-day
