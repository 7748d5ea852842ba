-- Invariants of the loops of `printed_by` (src/tests/devices.rt); rt looks here.
use Rattle.callboard.proofs.tests.devices.printed_by.Given as goal

-- the error counts its failures in the ledger of its blank
abbrev pub ghosts-served : goal.ghosts-served
ghosts-served g a = record { name = a.errors.name; parts = a.errors.parts }
