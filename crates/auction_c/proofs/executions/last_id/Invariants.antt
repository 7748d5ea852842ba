-- Invariants of the loops of `last_id` (src/executions.rt); rt looks here.
use Rattle.std.proofs.Common.{take}
use Rattle.auction_c.specs.Executed.{AreNumberedUpTo}
use Rattle.auction_c.proofs.executions.last_id.Given as goal

abbrev pub invariant-loop-one : goal.invariant-loop-one
invariant-loop-one l = AreNumberedUpTo l.last (take l.one-index l.listed)
