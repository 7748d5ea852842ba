-- Answers of `BookRecorder::print` (src/recording.rt): what the prover left open; rt looks here.
use Rattle.printed_lines.proofs.PrinterLaws.{prints_begun, prints_more}
use Rattle.day_tables.specs.BookTable.{book_text}
use Rattle.day_tables.specs.BookRecorder.{tables_of}
use Rattle.day_tables.proofs.recording.BookRecorder.print.Goals as goal

pub returns-in_err-print_header : goal.returns-in_err-print_header
unfolding book_text
returns-in_err-print_header g c =
    λ config entries holds. prints_begun _ c.from_residual.ensures.0 c.in_err-print_header.ensures

pub print_tables-requires : goal.print_tables-requires
print_tables-requires g c =
    let (config, entries, holds) = c.requires in
    (config, tables_of config entries, holds.room, rw c.deref.ensures.value holds.tables)

pub returns : goal.returns
unfolding book_text
returns g c =
    λ config entries holds. prints_more c.in_ok-print_header.ensures
    (c.print_tables.ensures config (tables_of config entries) (rw c.deref.ensures.value holds.tables))
