-- Answers of `Entries::open` (src/entries.rt): what the prover left open; rt looks here.
use Rattle.journal.proofs.OverlongRowLaws.{journal-up_to}
use Rattle.journal.proofs.entries.Entries.open.Goals as goal

pub returns-clause-day : goal.returns-clause-day
returns-clause-day c = rw (journal-up_to _ _ c.up_to_overlong.ensures.alike) at c.of_text.ensures.day
