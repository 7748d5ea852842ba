-- Invariants of the loops of `kept_on` (src/tests/keeping.rt); rt looks here.
use Rattle.callboard.proofs.tests.keeping.kept_on.Given as goal

-- the output counts its failures in the ledger of its blank
abbrev pub ghosts-run_to_memory : goal.ghosts-run_to_memory
ghosts-run_to_memory g a = record { name = a.output.name; parts = a.output.parts }
