-- Answers of `TradesRecorder::new` (src/trades.rt): what the prover left open; rt looks here.
use Rattle.day_tables.proofs.TradeTableLaws.{trades-none}
use Rattle.day_tables.proofs.trades.TradesRecorder.new.Goals as goal

pub returns : goal.returns
returns c =
    λ auction fresh. trades-none _ auction fresh c.new.ensures.items c.new-2.ensures.items c.new-3.ensures.items
