-- Answers of `each_trade_is_printed` (src/laws.rt): what the prover left open; rt looks here.
use Rattle.day_tables.proofs.TradeTableLaws.{trades-printed}
use Rattle.day_tables.proofs.laws.each_trade_is_printed.Goals as goal

pub returns : goal.returns
returns c = λ config entries legal. trades-printed config entries legal
