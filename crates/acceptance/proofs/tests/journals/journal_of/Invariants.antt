-- Invariants of the loops of `journal_of` (src/tests/journals.rt); rt looks here.
use Rattle.acceptance.proofs.tests.journals.journal_of.Given as goal

-- the sink counts its failures in the ledger of the blank
abbrev pub ghosts-printed : goal.ghosts-printed
ghosts-printed a = record { name = a.blank.name; parts = a.blank.parts }
