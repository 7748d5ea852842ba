-- Invariants of the loops of `run_to_memory` (src/tests.rt); rt looks here.
use Rattle.callboard.proofs.tests.run_to_memory.Given as goal

-- the error counts its failures in the ledger of its blank
abbrev pub ghosts-served : goal.ghosts-served
ghosts-served g a = record { name = a.errors.name; parts = a.errors.parts }
