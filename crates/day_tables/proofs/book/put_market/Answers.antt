-- Answers of `put_market` (src/book.rt): what the prover left open; rt looks here.
use Rattle.std.proofs.Common.{codes, decimal}
use Rattle.day_tables.specs.TableRows.{market_table_row}
use Rattle.printed_lines.proofs.CsvRecordLaws.{field-more}
use Rattle.day_tables.proofs.BookTableLaws.{field-rest}
use Rattle.day_tables.proofs.book.put_market.Goals as goal

pub returns : goal.returns
unfolding market_table_row
returns c =
    let table = c.args.table.now in
    field-more _ _ _ _ _ c.put_number.ensures.text
    (field-more _ _ _ _ _ (rw c.kind_word.ensures.word at c.put_word.ensures.text)
    (field-more _ _ _ (codes "market") _ c.put_word-2.ensures.text
    (field-more _ _ _ (decimal table.market_bids) _ c.put_number-2.ensures.text
    (field-rest _ _ _ (decimal table.market_asks) (codes ",,,,,,,\n") c.put_number-3.ensures.text c.put.ensures.text))))
