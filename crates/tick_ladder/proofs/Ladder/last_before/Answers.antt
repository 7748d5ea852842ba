-- Answers of `Ladder::last_before` (src/lib.rt): what the prover left open; rt looks here.
use Rattle.std.proofs.Common.{arith}
use Rattle.std.proofs.lemmas.Grind.{common_steps}
use Rattle.tick_ladder.proofs.PresenceLaws.{last_found}
use Rattle.tick_ladder.proofs.Ladder.last_before.Goals as goal

pub returns : goal.returns
returns c = grind (arith, common_steps, last_found)
