-- Answers of `put_order_line` (src/row.rt): what the prover left open; rt looks here.
use Rattle.auction_views.specs.TableLines.{order_line}
use Rattle.printed_lines.proofs.CsvRecordLaws.{field-last, field-more}
use Rattle.auction_views.proofs.row.put_order_line.Goals as goal

pub returns : goal.returns
unfolding order_line
returns c =
    field-more _ _ _ _ _ (rw c.from.ensures at c.put_number.ensures.text)
    (field-more _ _ _ _ _ (rw c.from-2.ensures at c.put_number-2.ensures.text)
    (field-more _ _ _ _ _ c.put_side.ensures.text
    (field-more _ _ _ _ _ c.put_limit.ensures.text
    (field-more _ _ _ _ _ c.put_number-3.ensures.text
    (field-more _ _ _ _ _ c.put_number-4.ensures.text
    (field-more _ _ _ _ _ c.put_number-5.ensures.text
    (field-last _ _ _ _ (rw c.restriction_word.ensures.word at c.put.ensures.text) c.put-2.ensures.text)))))))
