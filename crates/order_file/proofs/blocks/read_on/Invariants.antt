-- Invariants of the loops of `read_on` (src/blocks.rt); rt looks here.
use Rattle.std.proofs.Common.{◌≡◌, ◌-◌, vec_len}
use Rattle.order_file.specs.Blocks.{ReadsBytes}
use Rattle.order_file.proofs.blocks.read_on.Given as goal

-- what was read so far went to the end of the bytes, and no read has failed
abbrev pub invariant-reads : goal.invariant-reads
invariant-reads g l =
    ReadsBytes (g.R.Source.left l.fn.reader) (g.R.Source.left l.reader) l.fn.bytes.items l.bytes.items l.fn.room l.room
    × (g.R.Source.failures l.reader ≡ g.R.Source.failures l.fn.reader)

abbrev pub decreases-reads : goal.decreases-reads
decreases-reads g l = l.enough - vec_len l.bytes
