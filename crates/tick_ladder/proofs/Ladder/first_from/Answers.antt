-- Answers of `Ladder::first_from` (src/lib.rt): what the prover left open; rt looks here.
use Rattle.std.proofs.Common.{arith}
use Rattle.std.proofs.lemmas.Grind.{common_steps}
use Rattle.tick_ladder.proofs.PresenceLaws.{first_found}
use Rattle.tick_ladder.proofs.Ladder.first_from.Goals as goal

pub returns : goal.returns
returns c = grind (arith, common_steps, first_found)
