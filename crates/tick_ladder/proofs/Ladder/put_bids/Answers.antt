-- Answers of `Ladder::put_bids` (src/lib.rt): what the prover left open; rt looks here.
use Rattle.std.proofs.Common.{arith}
use Rattle.std.proofs.lemmas.List.{length-set}
use Rattle.std.proofs.lemmas.Grind.{common_steps}
use Rattle.tick_ladder.proofs.PresenceLaws.{sum-set}
use Rattle.tick_ladder.proofs.Ladder.put_bids.Goals as goal

pub invariant_of-self : goal.invariant_of-self
invariant_of-self c = grind (arith, common_steps, length-set, sum-set)
