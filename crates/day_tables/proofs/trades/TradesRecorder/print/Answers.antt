-- Answers of `TradesRecorder::print` (src/trades.rt): what the prover left open; rt looks here.
use Rattle.day_tables.proofs.TradeTableLaws.{table_of_trades}
use Rattle.day_tables.proofs.trades.TradesRecorder.print.Goals as goal

pub returns : goal.returns
returns g c = λ config entries has.
    rw (
      ← table_of_trades c.args.self.now config entries has,
      ← c.as_slice.ensures.value,
      ← c.as_slice-2.ensures.value,
      ← c.as_slice-3.ensures.value,
    ) c.print_trade_table.ensures
