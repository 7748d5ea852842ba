-- Answers of `printed_journals_are_lawful` (src/laws.rt): what the prover left open; rt looks here.
use Rattle.program_runs.proofs.PrintedJournalLaws.{auction-passes, board-passes, settings-fit}
use Rattle.program_runs.proofs.laws.printed_journals_are_lawful.Goals as goal

pub returns-clause-auction : goal.returns-clause-auction
returns-clause-auction c = auction-passes

pub returns-clause-board : goal.returns-clause-board
returns-clause-board c = board-passes

pub returns-clause-settings : goal.returns-clause-settings
returns-clause-settings c = settings-fit
