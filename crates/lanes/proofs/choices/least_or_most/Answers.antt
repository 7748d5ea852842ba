-- Answers of `least_or_most` (src/choices.rt): what the prover left open; rt looks here.
use Rattle.std.proofs.Common.{arith}
use Rattle.lanes.proofs.LeastLaws.{least-marked, least-zip2, least_more, least_one}
use Rattle.lanes.proofs.choices.least_or_most.Goals as goal
use Rattle.std.proofs.lemmas.Grind.{common_steps}

pub eights-preserved : goal.eights-preserved
eights-preserved c = grind (arith, common_steps, least-marked, least-zip2, least_more)

pub rest-preserved : goal.rest-preserved
rest-preserved c = grind (arith, common_steps, least_one)
