-- Answers of `KeptText::print` (src/kept.rt): what the prover left open; rt looks here.
use Rattle.printed_lines.proofs.PrinterLaws.{prints_begun, prints_more}
use Rattle.printed_lines.proofs.kept.KeptText.print.Goals as goal

pub returns-in_err-print_whole : goal.returns-in_err-print_whole
returns-in_err-print_whole g c =
    rw (← c.as_slice.ensures.value) (prints_begun _ c.from_residual.ensures.0 c.in_err-print_whole.ensures)

pub returns : goal.returns
returns g c =
    rw (← c.as_slice.ensures.value, ← c.as_slice-2.ensures)
    (prints_more c.in_ok-print_whole.ensures c.print_whole-2.ensures)
