-- Answers of `Entries::of_text` (src/entries.rt): what the prover left open; rt looks here.
use Rattle.std.proofs.Common.{◌∙◌, ap, sym}
use Rattle.journal.specs.JournalFile.{journal_of, journal_of_rows, recorded_in}
use Rattle.journal.proofs.entries.Entries.of_text.Goals as goal

pub returns-clause-day : goal.returns-clause-day
unfolding journal_of recorded_in
returns-clause-day c = ap journal_of_rows (sym c.in_ok-records.ensures.1) ∙ c.in_ok-day.ensures.day.1
