-- Invariants of the loops of `Patient`'s `read` (src/patient.rt); rt looks here.
use Rattle.std.specs.Io.KnownBytes.{Keeps}
use Rattle.byte_streams.proofs.patient.PatientRead.read.Given as goal

-- nothing was read
abbrev pub invariant-turns : goal.invariant-turns
invariant-turns g l = Keeps (g.R.Read.remaining l.fn.self.end) (g.R.Read.remaining l.self.end)
