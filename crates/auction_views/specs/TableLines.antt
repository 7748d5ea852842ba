-- The lines of tables.
use Rattle.std.specs.Prelude.{ℕ, ◌+◌, List, [], ◌∷◌, ◌++◌, Some, codes, decimal, length}
use Rattle.auction_terms.specs.declared.OpenOrder.{OpenOrder}
use Rattle.auction_terms.specs.declared.Restriction.{Restriction}
use Rattle.auction_terms.specs.declared.Restriction.TheVariants.{Unrestricted, OpeningOnly, ClosingOnly}
use Rattle.auction_terms.specs.declared.Trade.{Trade}
use Rattle.printed_lines.specs.CsvRecord.{csv_record, limit_field}
use Rattle.printed_lines.specs.ReplyWords.{side_word, words_text}
use Rattle.auction_views.specs.declared.row.LadderRow.{LadderRow}

-- the auctions that an order is for: none for every auction
abbrev pub restriction_word : Restriction → List ℕ
restriction_word Unrestricted = []
restriction_word OpeningOnly = codes "opening"
restriction_word ClosingOnly = codes "closing"

-- the shares with one limit
unfoldable pub ladder_line : LadderRow → List ℕ
ladder_line row = csv_record (limit_field row.limit ∷ decimal row.bid ∷ decimal row.ask ∷ [])

-- a trade, by its number from 1
unfoldable pub trade_line : ℕ → Trade → List ℕ
trade_line number trade =
    csv_record (decimal number ∷ decimal trade.bid ∷ decimal trade.ask ∷ decimal trade.quantity ∷ decimal trade.tick
    ∷ [])

-- an open order: what is open of it, what it shows, what was executed of it, and the auctions that it is for
unfoldable pub order_line : OpenOrder → List ℕ
order_line listed =
    csv_record (decimal listed.order.id ∷ decimal listed.order.member ∷ side_word (Some listed.order.side)
    ∷ limit_field listed.order.limit ∷ decimal listed.order.quantity ∷ decimal listed.visible ∷ decimal listed.filled
    ∷ restriction_word listed.order.restriction ∷ [])

-- the lines of trades after the first `before`
unfoldable pub trade_lines : ℕ → List Trade → List (List ℕ)
trade_lines before [] = []
trade_lines before (trade ∷ trades) = trade_line (before + 1) trade ∷ trade_lines (before + 1) trades

-- the line that says how many follow
unfoldable pub heading : List ℕ → ℕ → List ℕ
heading name lines = codes "show " ++ (name ++ (codes " " ++ (decimal lines ++ codes "\n")))

-- lines, and before them how many there are
abbrev pub table_text : List ℕ → List (List ℕ) → List ℕ
table_text name lines = heading name (length lines) ++ words_text lines
