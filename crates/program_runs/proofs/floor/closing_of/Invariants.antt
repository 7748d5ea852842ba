-- Invariants of the loops of `closing_of` (src/floor.rt); rt looks here.
use Rattle.program_runs.proofs.floor.closing_of.Given as goal

-- the day is the one that was opened
abbrev pub ghosts-closing_of_day-K-BoardIdentity : goal.ghosts-closing_of_day-K-BoardIdentity
ghosts-closing_of_day-K-BoardIdentity g a = record { config = a.fresh.config; story = a.fresh.story }

abbrev pub ghosts-closing_of_day-K-Ledger : goal.ghosts-closing_of_day-K-Ledger
ghosts-closing_of_day-K-Ledger g a = record { name = a.fresh.ledger; parts = a.fresh.members }
