-- Answers of `keep_above` (src/choices.rt): what the prover left open; rt looks here.
use Rattle.std.proofs.Common.{arith}
use Rattle.lanes.proofs.ChunkLaws.{keep_above_eights, ahead_eights, ahead_more, here_same, keep_above_one}
use Rattle.lanes.proofs.ChunkLaws.{drop-set, length-keep_above}
use Rattle.lanes.proofs.choices.keep_above.Goals as goal
use Rattle.std.proofs.lemmas.Grind.{common_steps}

pub eights-preserved : goal.eights-preserved
eights-preserved c = grind (arith, common_steps, keep_above_eights, ahead_eights, length-keep_above)

pub rest-preserved : goal.rest-preserved
rest-preserved c = grind (arith, common_steps, here_same, keep_above_one, drop-set, ahead_more)
