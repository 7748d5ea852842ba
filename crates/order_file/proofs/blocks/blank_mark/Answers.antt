-- Answers of `blank_mark` (src/blocks.rt): what the prover left open; rt looks here.
use Rattle.std.proofs.Common.{arith}
use Rattle.std.proofs.lemmas.Grind.{common_steps}
use Rattle.order_file.specs.Blocks.{without_mark}
use Rattle.order_file.proofs.blocks.blank_mark.Goals as goal

pub returns-then-index-eq191-clause-marked : goal.returns-then-index-eq191-clause-marked
unfolding without_mark
returns-then-index-eq191-clause-marked c = grind (arith, common_steps)

pub returns-else-len-ge4-clause-marked : goal.returns-else-len-ge4-clause-marked
unfolding without_mark
returns-else-len-ge4-clause-marked c = grind (arith, common_steps)
