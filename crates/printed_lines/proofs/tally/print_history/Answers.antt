-- Answers of `print_history` (src/tally.rt): what the prover left open; rt looks here.
use Rattle.std.proofs.Common.{Ok}
use Rattle.printed_lines.proofs.Lists.{text-done, text-end, text-next}
use Rattle.printed_lines.proofs.PageLaws.{entries-by-one}
use Rattle.printed_lines.proofs.PrinterLaws.{prints_among, prints_more}
use Rattle.printed_lines.proofs.tally.print_history.Goals as goal

pub returns-in_err-print_entry : goal.returns-in_err-print_entry
returns-in_err-print_entry g c =
    let inv = c.loop-before.invariant in
    prints_among _ c.from_residual.ensures.0 (text-next _ _ entries-by-one _ _ _ _ _ inv.1 c.loop-before-test.true)
    inv.2 c.in_err-print_entry.ensures

pub loop-before-preserved : goal.loop-before-preserved
loop-before-preserved g c =
    let inv = c.loop-before.invariant in (
      _,
      text-done _ _ entries-by-one _ _ _ _ _ inv.1 c.loop-before-test.true,
      prints_more {r =
          Ok tt} inv.2 c.in_ok-print_entry.ensures,
    )

pub returns : goal.returns
returns g c =
    let inv = c.loop-before.invariant in
    rw (← text-end _ _ entries-by-one _ _ _ _ inv.1 c.loop-before-test.false) inv.2
