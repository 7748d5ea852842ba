-- Answers of `gap_size` (src/choices.rt): what the prover left open; rt looks here.
use Rattle.std.proofs.Common.{arith}
use Rattle.lanes.proofs.ChunkLaws.{zip_eights, zip_one}
use Rattle.lanes.proofs.choices.gap_size.Goals as goal
use Rattle.std.proofs.lemmas.Grind.{common_steps}

pub eights-preserved : goal.eights-preserved
eights-preserved c = grind (arith, common_steps, zip_eights)

pub rest-preserved : goal.rest-preserved
rest-preserved c = grind (arith, common_steps, zip_one)
