-- Answers of `write_printed` (src/printing.rt): what the prover left open; rt looks here.
use Rattle.std.proofs.Common.{rules}
use Rattle.printed_lines.proofs.PrinterLaws.{writes_all, writes_begun}
use Rattle.program_runs.proofs.printing.write_printed.Goals as goal

pub returns-in_err-print_recorded : goal.returns-in_err-print_recorded
returns-in_err-print_recorded g c = λ entries holds.
    writes_begun c.from_residual.ensures.0 c.new-printer.ensures (c.in_err-print_recorded.ensures entries holds)
    (search rules)

pub returns : goal.returns
returns g c = λ entries holds.
    writes_all c.new-printer.ensures (c.in_ok-print_recorded.ensures entries holds) c.flush.ensures.printed
    c.flush.ensures.page (search rules)
