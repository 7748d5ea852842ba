-- Invariants of the loops of `run_devices` (src/tests/devices.rt); rt looks here.
use Rattle.callboard.proofs.tests.devices.run_devices.Given as goal

-- each end counts its failures in the ledger of its blank
abbrev pub ghosts-printed_by-I-Ledger : goal.ghosts-printed_by-I-Ledger
ghosts-printed_by-I-Ledger g a = record { name = a.blanks.0.name; parts = a.blanks.0.parts }

abbrev pub ghosts-printed_by-O-Ledger : goal.ghosts-printed_by-O-Ledger
ghosts-printed_by-O-Ledger g a = record { name = a.blanks.1.name; parts = a.blanks.1.parts }
