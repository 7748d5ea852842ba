-- Invariants of the loops of `bytes_after` (src/reading.rt); rt looks here.
use Rattle.std.proofs.Common.{◌≡◌, ◌≤◌, ◌+◌, ◌-◌, ◌++◌, ℕ, List, vec_len}
use Rattle.std.specs.Io.KnownBytes.{Consumes}
use Rattle.order_file.proofs.reading.bytes_after.Given as goal

-- what was read so far comes after the start, and no read has failed
abbrev pub invariant-reads : goal.invariant-reads
invariant-reads g l = record {
  read : (more : List ℕ) × (l.bytes.items ≡ l.fn.start.items ++ more)
      × Consumes (g.R.Source.left l.fn.reader) (g.R.Source.left l.reader) more;
  steady : g.R.Source.failures l.reader ≡ g.R.Source.failures l.fn.reader;
  within : vec_len l.bytes ≤ l.most + 1;
}

abbrev pub decreases-reads : goal.decreases-reads
decreases-reads g l = (l.most + 1) - vec_len l.bytes
