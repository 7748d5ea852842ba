-- Invariants of the loops of `run_under` (src/tests.rt); rt looks here.
use Rattle.callboard.proofs.tests.run_under.Given as goal

-- the writer counts its failures in the ledger of its blank
abbrev pub ghosts-filed : goal.ghosts-filed
ghosts-filed g a = record { name = a.output.name; parts = a.output.parts }
