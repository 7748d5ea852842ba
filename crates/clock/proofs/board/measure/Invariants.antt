-- Invariants of the loops of `measure` (src/board.rt); rt looks here.
use Rattle.clock.proofs.board.measure.Given as goal

abbrev pub ghosts-day-K-BoardIdentity : goal.ghosts-day-K-BoardIdentity
ghosts-day-K-BoardIdentity g a = record { config = a.fresh.config; story = a.fresh.story }

abbrev pub ghosts-day-K-Ledger : goal.ghosts-day-K-Ledger
ghosts-day-K-Ledger g a = record { name = a.fresh.ledger; parts = a.fresh.members }
