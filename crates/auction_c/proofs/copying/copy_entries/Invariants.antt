-- Invariants of the loops of `copy_entries` (src/copying.rt); rt looks here.
use Rattle.std.proofs.Common.{◌≡◌, ◌++◌, map, take, drop}
use Rattle.auction_c.specs.Encoding.{entry_out}
use Rattle.auction_c.proofs.copying.copy_entries.Given as goal

abbrev pub invariant-loop-i : goal.invariant-loop-i
invariant-loop-i l = l.to ≡ map entry_out (take l.i l.history) ++ drop l.i l.fn.to
