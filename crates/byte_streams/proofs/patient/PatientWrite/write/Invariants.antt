-- Invariants of the loops of `Patient`'s `write` (src/patient.rt); rt looks here.
use Rattle.std.specs.Io.KnownBytes.{Keeps}
use Rattle.byte_streams.proofs.patient.PatientWrite.write.Given as goal

-- nothing was written
abbrev pub invariant-turns : goal.invariant-turns
invariant-turns g l = Keeps (g.W.Write.contents l.fn.self.end) (g.W.Write.contents l.self.end)
