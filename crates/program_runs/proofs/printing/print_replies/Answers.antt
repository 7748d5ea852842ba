-- Answers of `print_replies` (src/printing.rt): what the prover left open; rt looks here.
use Rattle.std.proofs.Common.{arith}
use Rattle.printed_lines.proofs.PrinterLaws.{prints_among, prints_more}
use Rattle.program_runs.proofs.ReplyLaws.{reply-count, reply-done, reply-end, reply-next}
use Rattle.program_runs.proofs.printing.print_replies.Goals as goal

pub returns-in_err-print_line : goal.returns-in_err-print_line
returns-in_err-print_line g c =
    let inv = c.loop-place.invariant in
    prints_among _ c.from_residual.ensures.0 (reply-next _ _ _ _ _ _ inv.1 c.next_reply.ensures) inv.3
    c.in_err-print_line.ensures

pub loop-place-preserved : goal.loop-place-preserved
loop-place-preserved g c =
    let inv = c.loop-place.invariant in (
      _,
      reply-done _ _ _ _ _ _ inv.1 c.next_reply.ensures,
      reply-count _ _ _ _ _ inv.2 c.next_reply.ensures,
      prints_more inv.3 c.in_ok-print_line.ensures,
    )

pub returns : goal.returns
returns g c =
    let inv = c.loop-place.invariant in
    rw (← reply-end _ _ _ _ inv.1 (omega (arith, inv.2, c.len-place-end.ensures, c.loop-place-test.false))) inv.3
