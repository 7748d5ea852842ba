-- A table of the book, row by row, as the code has it.
use Rattle.std.specs.Prelude.{◌≡◌, ℕ, ◌+◌, ◌≤◌, zero, suc, ◌==◌, Bool, ◌||◌, false, List, [], ◌∷◌, ◌++◌, Option, Some}
use Rattle.std.specs.Prelude.{None, if◌then◌else◌, nat_lt, decimal, codes, length, slice_index}
use Rattle.std.specs.Option.{option_map_or}
use Rattle.std.specs.Simd.Lanes.{zip2}
use Rattle.auction_terms.specs.declared.limits.TheConstants.{MAX_TICK, MAX_TICKS}
use Rattle.auction_terms.specs.declared.Display.{Display}
use Rattle.auction_terms.specs.declared.Display.TheVariants.{Priced, Unpriced}
use Rattle.auction_terms.specs.declared.Side.{Side}
use Rattle.auction_terms.specs.declared.Side.TheVariants.{Bid, Ask}
use Rattle.auction_terms.specs.Ladder.{quantity_at, market_quantity, flag_of, limit_flag, tick_values}
use Rattle.auction_terms.specs.AuctionPrice.{price_tick}
use Rattle.printed_lines.specs.ReplyWords.{kind_word, side_word}
use Rattle.day_tables.specs.declared.book.Table.{Table}
use Rattle.day_tables.specs.declared.book.RowsSoFar.{RowsSoFar}
use Rattle.day_tables.specs.declared.front_text.TheConstants.{SHORT}
use Rattle.printed_lines.specs.CsvRecord.{csv_record}
use Rattle.day_tables.specs.BookTable.{ShownBook, rule_word, best_word}
use Rattle.day_tables.specs.TableCurves.{HasRoomForTicks, AreCurves, IsDecidingRule}

-- as many places in each list, which are ticks
pub record HasPlaces (table : Table) : Type 0 where
  pub asks : length table.asks.now ≡ length table.bids.now
  pub curves : HasRoomForTicks (length table.bids.now) table.curves.now
  pub few : length table.bids.now ≤ MAX_TICKS
  pub last : table.low + length table.bids.now ≤ MAX_TICK + 1

-- the tick of the price that is shown
abbrev pub tick_shown : Display → Option ℕ
tick_shown (Priced price) = Some price.tick
tick_shown (Unpriced best_bid best_ask) = None

abbrev pub is_at_price : Table → ℕ → Bool
is_at_price table tick = option_map_or (λ price. price == tick) table.price false

-- there are bids or asks at the place
abbrev pub has_shares : Table → ℕ → Bool
has_shares table place = nat_lt 0 (slice_index table.bids.now place) || nat_lt 0 (slice_index table.asks.now place)

-- an order has its limit at the place, or it is the price
abbrev pub is_row : Table → ℕ → Bool
is_row table place = has_shares table place || is_at_price table (table.low + place)

abbrev pub side_between : ℕ → ℕ → Option Side
side_between demands supplies =
    if nat_lt supplies demands then Some Bid else (if nat_lt demands supplies then Some Ask else None)

abbrev pub rule_at : Table → ℕ → List ℕ
rule_at table tick = if is_at_price table tick then rule_word table.rule else []

-- demand and supply at a place
abbrev pub demand_in : Table → ℕ → ℕ
demand_in table place = slice_index table.curves.now.demands.items place

abbrev pub supply_in : Table → ℕ → ℕ
supply_in table place = slice_index table.curves.now.supplies.items place

-- the fields that each row of a table begins with
abbrev pub row_head : Table → List ℕ
row_head table = decimal table.command ++ (codes "," ++ (kind_word table.kind ++ (codes "," ++ [])))

-- the fields that a row ends with: the side of the surplus, whether the limit is best, the rule at the price
abbrev pub row_end : Option Side → Bool → List ℕ → List ℕ
row_end side best rule = side_word side ++ (codes "," ++ (best_word best ++ (codes "," ++ (rule ++ codes "\n"))))

-- the rows begin with the fields of this table
pub record HasHead (table : Table) (rows : RowsSoFar) : Type 0 where
  pub head : rows.head ≡ row_head table
  pub short : length rows.head ≤ SHORT

unfoldable pub row : Table → ℕ → List ℕ
row table place =
    csv_record (decimal table.command ∷ kind_word table.kind ∷ decimal (table.low + place)
    ∷ decimal (slice_index table.bids.now place) ∷ decimal (slice_index table.asks.now place)
    ∷ decimal (demand_in table place) ∷ decimal (supply_in table place)
    ∷ decimal (slice_index table.curves.now.volumes.items place)
    ∷ decimal (slice_index table.curves.now.surpluses.items place)
    ∷ side_word (side_between (demand_in table place) (supply_in table place))
    ∷ best_word (slice_index table.curves.now.best.items place == 1)
    ∷ rule_at table (table.low + place) ∷ [])

abbrev pub row_if : Table → ℕ → List ℕ
row_if table place = if is_row table place then row table place else []

-- the rows of the places below one, the highest first
unfoldable pub table_rows_below : Table → ℕ → List ℕ
table_rows_below table zero = []
table_rows_below table (suc place) = row_if table place ++ table_rows_below table place

unfoldable pub market_table_row : Table → List ℕ
market_table_row table =
    csv_record (decimal table.command ∷ kind_word table.kind ∷ codes "market"
    ∷ decimal table.market_bids ∷ decimal table.market_asks ∷ [] ∷ [] ∷ [] ∷ [] ∷ [] ∷ [] ∷ [] ∷ [])

-- the table is that of a book
pub record IsTableOf (shown : ShownBook) (table : Table) : Type 0 where
  pub command : table.command ≡ shown.command
  pub kind : table.kind ≡ shown.auction
  pub market_bids : table.market_bids ≡ market_quantity Bid shown.book
  pub market_asks : table.market_asks ≡ market_quantity Ask shown.book
  pub bids : table.bids.now ≡ tick_values (quantity_at Bid shown.book) table.low (length table.bids.now)
  pub asks : table.asks.now ≡ tick_values (quantity_at Ask shown.book) table.low (length table.bids.now)
  pub present : zip2 flag_of table.bids.now table.asks.now
      ≡ tick_values (limit_flag shown.book) table.low (length table.bids.now)
  pub curves : AreCurves table.low (length table.bids.now) table.curves.now shown.book
  pub price : table.price ≡ price_tick shown.book shown.reference
  pub rule : IsDecidingRule shown.book table.rule
