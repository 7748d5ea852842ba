-- Invariants of the loops of `copy_trades` (src/copying.rt); rt looks here.
use Rattle.std.proofs.Common.{◌≡◌, ◌++◌, map, take, drop}
use Rattle.auction_c.specs.Encoding.{trade_out}
use Rattle.auction_c.proofs.copying.copy_trades.Given as goal

abbrev pub invariant-loop-i : goal.invariant-loop-i
invariant-loop-i l = l.to ≡ map trade_out (take l.i l.trades) ++ drop l.i l.fn.to
