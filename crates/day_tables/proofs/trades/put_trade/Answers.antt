-- Answers of `put_trade` (src/trades.rt): what the prover left open; rt looks here.
use Rattle.day_tables.specs.TradeTable.{trade_record}
use Rattle.printed_lines.proofs.CsvRecordLaws.{field-more, field-last}
use Rattle.day_tables.proofs.trades.put_trade.Goals as goal

pub returns : goal.returns
unfolding trade_record
returns c =
    field-more _ _ _ _ _ c.put_number.ensures.text
    (field-more _ _ _ _ _ (rw c.kind_word.ensures.word at c.put_word.ensures.text)
    (field-more _ _ _ _ _ (rw c.from.ensures at c.put_number-2.ensures.text)
    (field-more _ _ _ _ _ (rw c.member_who_entered.ensures at c.put_member.ensures.text)
    (field-more _ _ _ _ _ (rw c.from-2.ensures at c.put_number-3.ensures.text)
    (field-more _ _ _ _ _ (rw c.member_who_entered-2.ensures at c.put_member-2.ensures.text)
    (field-more _ _ _ _ _ c.put_number-4.ensures.text
    (field-last _ _ _ _ (rw c.from-3.ensures at c.put_number-5.ensures.text) c.put.ensures.text)))))))
