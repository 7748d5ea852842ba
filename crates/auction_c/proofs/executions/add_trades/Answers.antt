-- Answers of `add_trades` (src/executions.rt): what the prover left open; rt looks here.
use Rattle.std.proofs.Common.{arith}
use Rattle.std.proofs.lemmas.List.{take_more}
use Rattle.std.proofs.lemmas.Grind.{common_steps}
use Rattle.auction_c.proofs.OutcomeLaws.{shares-more, shares-none}
use Rattle.auction_c.proofs.executions.add_trades.Goals as goal

pub loop-trade-init : goal.loop-trade-init
loop-trade-init c = grind (arith, common_steps, shares-none)

pub loop-trade-preserved : goal.loop-trade-preserved
loop-trade-preserved c = grind (arith, common_steps, take_more, shares-more)
