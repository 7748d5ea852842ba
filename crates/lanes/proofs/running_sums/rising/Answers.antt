-- Answers of `rising` (src/running_sums.rt): what the prover left open; rt looks here.
use Rattle.std.proofs.Common.{◌+◌, arith}
use Rattle.std.proofs.lemmas.List.Sums.{sum_by_more}
use Rattle.lanes.proofs.RunningSumLaws.{sum_take_chunk, sum_take_le, rising_eights, rising_one}
use Rattle.lanes.proofs.running_sums.rising.Goals as goal
use Rattle.std.proofs.lemmas.Grind.{common_steps}

pub rising_eight-carry-requires-clause-fits : goal.rising_eight-carry-requires-clause-fits
rising_eight-carry-requires-clause-fits c =
    omega (arith, sum_take_chunk c.eights.at 8 c.args.src.now, sum_take_le (c.eights.at + 8) c.args.src.now)

pub eights-preserved : goal.eights-preserved
eights-preserved c = grind (arith, common_steps, sum_take_chunk, rising_eights)

pub rest-preserved : goal.rest-preserved
rest-preserved c = grind (arith, common_steps, sum_by_more, rising_one)
