-- Answers of `print_counts` (src/printing.rt): what the prover left open; rt looks here.
use Rattle.std.proofs.Common.{refl}
use Rattle.printed_lines.proofs.PrinterLaws.{prints_among, prints_begun, prints_more}
use Rattle.day_audit.proofs.printing.print_counts.Goals as goal

pub returns-in_err-print_entries : goal.returns-in_err-print_entries
returns-in_err-print_entries g c = prints_begun _ c.from_residual.ensures.0 c.in_err-print_entries.ensures

pub returns-in_err-print_compared : goal.returns-in_err-print_compared
returns-in_err-print_compared g c =
    prints_among _ c.from_residual-in_err-print_compared.ensures.0 refl c.in_ok-print_entries.ensures
    c.in_err-print_compared.ensures

pub returns-in_err-print_unlawful : goal.returns-in_err-print_unlawful
returns-in_err-print_unlawful g c =
    prints_more c.in_ok-print_entries.ensures
    (prints_among _ c.from_residual-in_err-print_unlawful.ensures.0 refl c.in_ok-print_compared.ensures
    c.in_err-print_unlawful.ensures)

pub returns : goal.returns
returns g c =
    prints_more c.in_ok-print_entries.ensures
    (prints_more c.in_ok-print_compared.ensures (prints_more c.in_ok-print_unlawful.ensures c.print_audit.ensures))
