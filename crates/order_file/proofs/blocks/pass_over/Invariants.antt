-- Invariants of the loops of `pass_over` (src/blocks.rt); rt looks here.
use Rattle.std.proofs.Common.{◌≡◌, ◌+◌, ℕ, List, length}
use Rattle.std.specs.Io.KnownBytes.{Consumes}
use Rattle.order_file.proofs.blocks.pass_over.Given as goal

-- as many bytes were passed over as the room fell by, and no read has failed
abbrev pub invariant-reads : goal.invariant-reads
invariant-reads g l =
    ((bytes : List ℕ) × Consumes (g.R.Source.left l.fn.reader) (g.R.Source.left l.reader) bytes
    × (length bytes + l.room ≡ l.most))
    × (g.R.Source.failures l.reader ≡ g.R.Source.failures l.fn.reader)

abbrev pub decreases-reads : goal.decreases-reads
decreases-reads g l = l.room
