-- Answers of `Quantities::put` (src/quantities.rt): what the prover left open; rt looks here.
use Rattle.std.proofs.Common.{arith}
use Rattle.std.proofs.lemmas.List.{length-set}
use Rattle.std.proofs.lemmas.Grind.{common_steps, get_or_default_zero}
use Rattle.tick_ladder.proofs.BlockSumLaws.{in_block, coarse_set, coarse_sum}
use Rattle.tick_ladder.proofs.quantities.Quantities.put.Goals as goal

pub overflow_sub-block_sum : goal.overflow_sub-block_sum
overflow_sub-block_sum c = grind (arith, common_steps, in_block, get_or_default_zero)

pub overflow_sub-group_sum : goal.overflow_sub-group_sum
overflow_sub-group_sum c = grind (arith, common_steps, in_block, get_or_default_zero)

pub overflow_add-group_sum : goal.overflow_add-group_sum
overflow_add-group_sum c = grind (arith, common_steps, in_block, get_or_default_zero, coarse_sum)

pub invariant_of-self : goal.invariant_of-self
invariant_of-self c = grind (arith, common_steps, in_block, get_or_default_zero, length-set, coarse_set)
