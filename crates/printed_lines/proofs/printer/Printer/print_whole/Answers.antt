-- Answers of `Printer::print_whole` (src/printer.rt): what the prover left open; rt looks here.
use Rattle.std.proofs.Common.{refl}
use Rattle.printed_lines.proofs.PrinterLaws.{prints_begun, prints_whole}
use Rattle.printed_lines.proofs.printer.Printer.print_whole.Goals as goal

pub returns-in_err-flush : goal.returns-in_err-flush
returns-in_err-flush g c = prints_begun _ c.from_residual.ensures.0 c.in_err-flush.ensures.printed

pub returns : goal.returns
returns g c =
    prints_whole c.in_ok-flush.ensures.printed c.in_ok-flush.ensures.page c.in_ok-flush.ensures.page refl
    c.write_all.ensures
