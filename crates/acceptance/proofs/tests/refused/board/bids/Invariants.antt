-- Invariants of the loops of `bids` (src/tests/refused/board.rt); rt looks here.
use Rattle.acceptance.proofs.tests.refused.board.bids.Given as goal

-- the day is the one that was opened
abbrev pub ghosts-day_of_bids-K-BoardIdentity : goal.ghosts-day_of_bids-K-BoardIdentity
ghosts-day_of_bids-K-BoardIdentity g a = record { config = a.fresh.config; story = a.fresh.story }

abbrev pub ghosts-day_of_bids-K-Ledger : goal.ghosts-day_of_bids-K-Ledger
ghosts-day_of_bids-K-Ledger g a = record { name = a.fresh.ledger; parts = a.fresh.members }
