-- Invariants of the loops of `write_all` (src/writing.rt); rt looks here.
use Rattle.std.proofs.Common.{◌≡◌, List, ℕ, ◌++◌, length}
use Rattle.std.specs.Io.KnownBytes.{Appends}
use Rattle.byte_streams.proofs.writing.write_all.Given as goal

-- what was written so far, and what is left, are all
abbrev pub invariant-writes : goal.invariant-writes
invariant-writes g l = (g.S.Sink.failures l.sink ≡ g.S.Sink.failures l.fn.sink)
    × (done : List ℕ) × (done ++ l.rest ≡ l.fn.bytes) × Appends (g.S.Sink.written l.fn.sink) (g.S.Sink.written l.sink)
    done

abbrev pub decreases-writes : goal.decreases-writes
decreases-writes g l = length l.rest
