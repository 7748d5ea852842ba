-- Answers of `write_closing` (src/printing.rt): what the prover left open; rt looks here.
use Rattle.std.proofs.Common.{rules}
use Rattle.printed_lines.proofs.PrinterLaws.{writes_all, writes_begun}
use Rattle.program_runs.proofs.printing.write_closing.Goals as goal

pub returns-in_err-print_closing : goal.returns-in_err-print_closing
returns-in_err-print_closing g c =
    writes_begun c.from_residual.ensures.0 c.new-printer.ensures c.in_err-print_closing.ensures (search rules)

pub returns : goal.returns
returns g c =
    writes_all c.new-printer.ensures c.in_ok-print_closing.ensures c.flush.ensures.printed c.flush.ensures.page
    (search rules)
