-- Invariants of the loops of `text_of` (src/tests/printing.rt); rt looks here.
use Rattle.acceptance.proofs.tests.printing.text_of.Given as goal

-- the sink counts its failures in the ledger of the blank
abbrev pub ghosts-floor_text : goal.ghosts-floor_text
ghosts-floor_text a = record { name = a.blank.name; parts = a.blank.parts }
