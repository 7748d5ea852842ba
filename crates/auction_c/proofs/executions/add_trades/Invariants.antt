-- Invariants of the loops of `add_trades` (src/executions.rt); rt looks here.
use Rattle.std.proofs.Common.{◌≡◌, length, take}
use Rattle.auction_c.specs.Executed.{shares_by_id}
use Rattle.auction_c.proofs.executions.add_trades.Given as goal

abbrev pub invariant-loop-trade : goal.invariant-loop-trade
invariant-loop-trade l =
    l.table ≡ shares_by_id (take l.trade-index l.trades) l.side (length l.fn.table)
