-- Answers of `print_members` (src/tally.rt): what the prover left open; rt looks here.
use Rattle.std.proofs.Common.{Ok}
use Rattle.printed_lines.proofs.Lists.{text-done, text-end, text-next}
use Rattle.printed_lines.proofs.PageLaws.{members-by-one}
use Rattle.printed_lines.proofs.PrinterLaws.{prints_among, prints_more}
use Rattle.printed_lines.proofs.tally.print_members.Goals as goal

pub returns-in_err-print_member : goal.returns-in_err-print_member
returns-in_err-print_member g c =
    let inv = c.loop-before.invariant in
    let begun = rw c.from.ensures at c.in_err-print_member.ensures in
    prints_among _ c.from_residual.ensures.0 (text-next _ _ members-by-one _ _ _ _ _ inv.1 c.loop-before-test.true)
    inv.2 begun

pub loop-before-preserved : goal.loop-before-preserved
loop-before-preserved g c =
    let inv = c.loop-before.invariant in
    let printed = rw c.from.ensures at c.in_ok-print_member.ensures in
    (_, text-done _ _ members-by-one _ _ _ _ _ inv.1 c.loop-before-test.true, prints_more {r = Ok tt} inv.2 printed)

pub returns : goal.returns
returns g c =
    let inv = c.loop-before.invariant in
    rw (← text-end _ _ members-by-one _ _ _ _ inv.1 c.loop-before-test.false) inv.2
