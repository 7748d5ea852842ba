-- Answers of `BoundsHintDisplay::fmt` (src/day_bounds.rt): what the prover left open; rt looks here.
use Rattle.input_hints.proofs.day_bounds.BoundsHintDisplay.fmt.Goals as goal

pub returns-in-LowAboveHigh-clause-writes : goal.returns-in-LowAboveHigh-clause-writes
returns-in-LowAboveHigh-clause-writes g c = rw c.in-LowAboveHigh.is c.write.ensures.writes

pub returns-in-TooManyTicks-clause-writes : goal.returns-in-TooManyTicks-clause-writes
returns-in-TooManyTicks-clause-writes g c = rw c.in-TooManyTicks.is c.write-in-TooManyTicks.ensures.writes
