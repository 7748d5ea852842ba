-- Answers of `Ladder::is_present` (src/lib.rt): what the prover left open; rt looks here.
use Rattle.std.proofs.Common.{arith}
use Rattle.std.proofs.lemmas.Grind.{common_steps}
use Rattle.tick_ladder.proofs.PresenceLaws.{flag_is}
use Rattle.tick_ladder.proofs.Ladder.is_present.Goals as goal

pub returns-then-at-gt0-clause-value : goal.returns-then-at-gt0-clause-value
returns-then-at-gt0-clause-value c = grind (arith, common_steps, flag_is)

pub returns-else-at-gt0-clause-value : goal.returns-else-at-gt0-clause-value
returns-else-at-gt0-clause-value c = grind (arith, common_steps, flag_is)
