-- Invariants of the loops of `closing_of_four` (src/tests/board.rt); rt looks here.
use Rattle.acceptance.proofs.tests.board.closing_of_four.Given as goal

abbrev pub ghosts-one_is_missing-K-BoardIdentity : goal.ghosts-one_is_missing-K-BoardIdentity
ghosts-one_is_missing-K-BoardIdentity g a = record { config = a.fresh.config; story = a.fresh.story }

abbrev pub ghosts-one_is_missing-K-Ledger : goal.ghosts-one_is_missing-K-Ledger
ghosts-one_is_missing-K-Ledger g a = record { name = a.fresh.ledger; parts = a.fresh.members }
