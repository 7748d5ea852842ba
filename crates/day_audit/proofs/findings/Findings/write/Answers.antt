-- Answers of `Findings::write` (src/findings.rt): what the prover left open; rt looks here.
use Rattle.std.proofs.Common.{rules}
use Rattle.printed_lines.proofs.PrinterLaws.{writes_all, writes_begun}
use Rattle.day_audit.proofs.findings.Findings.write.Goals as goal

pub returns-in_err-print_copy : goal.returns-in_err-print_copy
returns-in_err-print_copy g c =
    writes_begun c.from_residual.ensures.0 c.new-printer.ensures c.in_err-print_copy.ensures (search rules)

pub returns : goal.returns
returns g c =
    writes_all c.new-printer.ensures c.in_ok-print_copy.ensures c.flush.ensures.printed c.flush.ensures.page
    (search rules)
