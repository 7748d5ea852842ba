-- Answers of `greatest_or_zero` (src/choices.rt): what the prover left open; rt looks here.
use Rattle.std.proofs.Common.{arith}
use Rattle.lanes.proofs.GreatestLaws.{greatest-marked, greatest-zip2, greatest_more, greatest_one}
use Rattle.lanes.proofs.choices.greatest_or_zero.Goals as goal
use Rattle.std.proofs.lemmas.Grind.{common_steps}

pub eights-preserved : goal.eights-preserved
eights-preserved c = grind (arith, common_steps, greatest-marked, greatest-zip2, greatest_more)

pub rest-preserved : goal.rest-preserved
rest-preserved c = grind (arith, common_steps, greatest_one)
