-- Invariants of the loops of `last_id` (src/commands/listing.rt); rt looks here.
use Rattle.std.proofs.Common.{take}
use Rattle.auction.specs.Executions.{HaveIdsUpTo}
use Rattle.auction.proofs.commands.listing.last_id.Given as goal

abbrev pub invariant-loop-one : goal.invariant-loop-one
invariant-loop-one l = HaveIdsUpTo l.last (take l.one-index l.ranked)
