-- Answers of `Findings::print_copy` (src/findings.rt): what the prover left open; rt looks here.
use Rattle.printed_lines.proofs.PrinterLaws.{prints_begun, prints_more}
use Rattle.day_audit.proofs.findings.Findings.print_copy.Goals as goal

pub returns-in_err-print : goal.returns-in_err-print
returns-in_err-print g c = prints_begun _ c.from_residual.ensures.0 c.in_err-print.ensures

pub returns : goal.returns
returns g c = prints_more c.in_ok-print.ensures c.print_behind.ensures
