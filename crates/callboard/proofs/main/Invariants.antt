-- Invariants of the loops of `main` (src/main.rt); rt looks here.
use Rattle.callboard.proofs.main.Given as goal

-- each end counts its failures in the ledger of its blank
abbrev pub ghosts-run_program-I-Ledger : goal.ghosts-run_program-I-Ledger
ghosts-run_program-I-Ledger g a = record { name = a.input.name; parts = a.input.parts }

abbrev pub ghosts-run_program-O-Ledger : goal.ghosts-run_program-O-Ledger
ghosts-run_program-O-Ledger g a = record { name = a.output.name; parts = a.output.parts }

abbrev pub ghosts-run_program-E-Ledger : goal.ghosts-run_program-E-Ledger
ghosts-run_program-E-Ledger g a = record { name = a.errors.name; parts = a.errors.parts }
