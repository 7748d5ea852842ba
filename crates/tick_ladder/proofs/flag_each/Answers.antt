-- Answers of `flag_each` (src/lib.rt): what the prover left open; rt looks here.
use Rattle.std.proofs.Common.{arith}
use Rattle.std.proofs.lemmas.Grind.{common_steps}
use Rattle.lanes.proofs.ChunkLaws.{zip_one}
use Rattle.tick_ladder.proofs.flag_each.Goals as goal

pub places-preserved : goal.places-preserved
places-preserved c = grind (arith, common_steps, zip_one)
