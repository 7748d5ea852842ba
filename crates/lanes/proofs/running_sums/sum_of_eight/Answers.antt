-- Answers of `sum_of_eight` (src/running_sums.rt): what the prover left open; rt looks here.
use Rattle.std.proofs.Common.{arith}
use Rattle.std.proofs.lemmas.Simd.{length-chunk}
use Rattle.lanes.proofs.Eight.{eight}
use Rattle.lanes.proofs.RunningSumLaws.{sum_take_chunk}
use Rattle.lanes.proofs.running_sums.sum_of_eight.Goals as goal
use Rattle.std.proofs.lemmas.Grind.{common_steps}

pub overflow_add-result : goal.overflow_add-result
overflow_add-result c = grind (arith, common_steps, eight, length-chunk, sum_take_chunk)

pub returns : goal.returns
returns c = grind (arith, common_steps, eight, length-chunk, sum_take_chunk)
