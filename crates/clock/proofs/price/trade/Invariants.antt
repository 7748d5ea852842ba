-- Invariants of the loops of `trade` (src/price.rt); rt looks here.
use Rattle.std.proofs.Common.{◌-◌}
use Rattle.clock.specs.Filling.{IsFilled}
use Rattle.clock.proofs.price.trade.Given as goal

abbrev pub invariant-rounds : goal.invariant-rounds
invariant-rounds l = IsFilled l.fn.ladder l.ladder l.total

abbrev pub decreases-rounds : goal.decreases-rounds
decreases-rounds l = 200000 - l.round
