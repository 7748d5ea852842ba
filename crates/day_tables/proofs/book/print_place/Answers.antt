-- Answers of `print_place` (src/book.rt): what the prover left open; rt looks here.
use Rattle.printed_lines.proofs.PrinterLaws.{prints_none}
use Rattle.day_tables.proofs.book.print_place.Goals as goal

pub returns-then-not-is_row-clause-printed : goal.returns-then-not-is_row-clause-printed
returns-then-not-is_row-clause-printed g c = rw (← c.if-not-is_row.ensures) (prints_none g.S.Sink c.args.printer.now)

pub returns-clause-printed : goal.returns-clause-printed
returns-clause-printed g c = rw (← c.if-not-is_row.ensures) c.print_row.ensures.printed
