-- Invariants of the loops of `copy_orders` (src/copying.rt); rt looks here.
use Rattle.std.proofs.Common.{◌≡◌, ◌++◌, map, take, drop}
use Rattle.auction_c.specs.Encoding.{order_out}
use Rattle.auction_c.proofs.copying.copy_orders.Given as goal

abbrev pub invariant-loop-i : goal.invariant-loop-i
invariant-loop-i l = l.to ≡ map order_out (take l.i l.listed) ++ drop l.i l.fn.to
