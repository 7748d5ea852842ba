-- Answers of `print_tape` (src/trades.rt): what the prover left open; rt looks here.
use Rattle.std.proofs.Common.{Ok, subst, arith}
use Rattle.printed_lines.specs.Printing.{Prints}
use Rattle.printed_lines.proofs.PrinterLaws.{prints_among, prints_more}
use Rattle.day_tables.proofs.TradeTableLaws.{records-next, records-done, records-least}
use Rattle.day_tables.proofs.trades.print_tape.Goals as goal

pub returns-in_err-print_trade : goal.returns-in_err-print_trade
returns-in_err-print_trade g c =
    let inv = c.loop-place.invariant in
    prints_among _ c.from_residual.ensures.0 (records-next _ _ _ _ _ _ _ _ inv.1 (omega arith) (omega arith)) inv.2
    c.in_err-print_trade.ensures

pub loop-place-preserved : goal.loop-place-preserved
loop-place-preserved g c =
    let inv = c.loop-place.invariant in (
      _,
      records-done _ _ _ _ _ _ _ _ inv.1 (omega arith) (omega arith),
      prints_more {r =
          Ok tt} inv.2 c.in_ok-print_trade.ensures,
    )

pub returns : goal.returns
returns g c =
    let inv = c.loop-place.invariant in
    subst (λ text. Prints g.S.Sink c.args.printer.now c.loop-place.printer (Ok tt) text)
    (records-least _ _ _ _ _ _ inv.1 (omega (arith, c.min-count.ensures, c.loop-place-test.false))) inv.2
