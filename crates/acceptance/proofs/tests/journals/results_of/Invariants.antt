-- Invariants of the loops of `results_of` (src/tests/journals.rt); rt looks here.
use Rattle.acceptance.proofs.tests.journals.results_of.Given as goal

-- the sink counts its failures in the ledger of the blank
abbrev pub ghosts-audited : goal.ghosts-audited
ghosts-audited a = record { name = a.blank.name; parts = a.blank.parts }
