-- Invariants of the loops of `fill` (src/price.rt); rt looks here.
use Rattle.std.proofs.Common.{◌-◌}
use Rattle.clock.specs.Filling.{IsFilled}
use Rattle.clock.proofs.price.fill.Given as goal

abbrev pub invariant-limits : goal.invariant-limits
invariant-limits l = IsFilled l.fn.ladder l.ladder l.total

abbrev pub decreases-limits : goal.decreases-limits
decreases-limits l = l.shape.count - l.limit
