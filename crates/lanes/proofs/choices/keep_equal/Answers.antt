-- Answers of `keep_equal` (src/choices.rt): what the prover left open; rt looks here.
use Rattle.std.proofs.Common.{arith}
use Rattle.lanes.proofs.ChunkLaws.{keep_eights, ahead_eights, ahead_more, here_same, zip_one, drop-set}
use Rattle.lanes.proofs.ChunkLaws.{length-keep_equal}
use Rattle.lanes.proofs.choices.keep_equal.Goals as goal
use Rattle.std.proofs.lemmas.Grind.{common_steps}

pub eights-preserved : goal.eights-preserved
eights-preserved c = grind (arith, common_steps, keep_eights, ahead_eights, length-keep_equal)

pub rest-preserved : goal.rest-preserved
rest-preserved c = grind (arith, common_steps, here_same, zip_one, drop-set, ahead_more)
