-- Answers of `print_rows` (src/book.rt): what the prover left open; rt looks here.
use Rattle.printed_lines.proofs.PrinterLaws.{prints_begun, prints_more}
use Rattle.day_tables.proofs.book.print_rows.Goals as goal

pub returns-in_err-print_market : goal.returns-in_err-print_market
returns-in_err-print_market g c = prints_begun _ c.from_residual.ensures.0 c.in_err-print_market.ensures

pub returns : goal.returns
returns g c = prints_more c.in_ok-print_market.ensures c.print_places.ensures
