-- Invariants of the loops of `executed_by_id` (src/commands/listing.rt); rt looks here.
use Rattle.std.proofs.Common.{◌≡◌, take}
use Rattle.auction.specs.Executions as executions
use Rattle.auction.proofs.commands.listing.executed_by_id.Given as goal

abbrev pub invariant-loop-trade : goal.invariant-loop-trade
invariant-loop-trade l =
    l.executed.items ≡ executions.executed_by_id (take l.trade-index l.tape) l.side l.last
