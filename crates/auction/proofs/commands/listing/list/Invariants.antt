-- Invariants of the loops of `list` (src/commands/listing.rt); rt looks here.
use Rattle.std.proofs.Common.{◌≡◌, ◌++◌, map, take}
use Rattle.auction.specs.Executions.{with_executed}
use Rattle.auction.proofs.commands.listing.list.Given as goal

abbrev pub invariant-loop-one : goal.invariant-loop-one
invariant-loop-one l =
    l.listed.items ≡ l.fn.listed.items ++ map (with_executed l.executed) (take l.one-index l.ranked)
