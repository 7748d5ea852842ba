-- The book behind each price of the day.
use Rattle.std.specs.Prelude.{ℕ, ◌+◌, ◌-◌, ◌==◌, Bool, true, false, ◌||◌, if◌then◌else◌, List, [], ◌∷◌, ◌++◌}
use Rattle.std.specs.Prelude.{filter, codes, decimal}
use Rattle.std.specs.Option.{option_map_or}
use Rattle.std.specs.List.{list_any, flat_map}
use Rattle.auction_terms.specs.declared.Config.{Config}
use Rattle.auction_terms.specs.declared.Entry.{Entry}
use Rattle.auction_terms.specs.declared.AuctionKind.{AuctionKind}
use Rattle.auction_terms.specs.declared.Order.{Order}
use Rattle.auction_terms.specs.declared.Reply.{Reply}
use Rattle.auction_terms.specs.declared.Side.TheVariants.{Bid, Ask}
use Rattle.auction_terms.specs.Book.{demand, supply, volume, surplus, surplus_side, limits, auction_orders}
use Rattle.auction_terms.specs.AuctionPrice.{best_limits, price_tick}
use Rattle.auction_terms.specs.Ladder.{quantity_at, market_quantity}
use Rattle.auction_terms.specs.Day.{State, opening_state, step, call_of, is_uncross_reply}
use Rattle.tick_ladder.specs.FallingTicks.{falling_ticks}
use Rattle.printed_lines.specs.ReplyWords.{kind_word, side_word}
use Rattle.day_tables.specs.declared.rule.Rule.{Rule}
use Rattle.day_tables.specs.declared.rule.Rule.TheVariants.{Market, Single, Highest, Lowest, Reference}
use Rattle.day_tables.specs.DecidingRule.{rule_of}
use Rattle.printed_lines.specs.CsvRecord.{csv_record}

abbrev pub book_header : List ℕ
book_header = codes "command,auction,limit,bid,ask,demand,supply,volume,surplus,side,best,price\n"

-- ---- words

abbrev pub rule_word : Rule → List ℕ
rule_word Market = codes "market"
rule_word Single = codes "single"
rule_word Highest = codes "highest"
rule_word Lowest = codes "lowest"
rule_word Reference = codes "reference"

abbrev pub best_word : Bool → List ℕ
best_word true = codes "1"
best_word false = codes "0"

-- ---- one table

-- the orders that count when a command comes, in the call phase of an auction, with the reference
pub record ShownBook : Type 0 where
  pub command : ℕ
  pub auction : AuctionKind
  pub book : List Order
  pub reference : ℕ

abbrev pub is_among : ℕ → List ℕ → Bool
is_among tick ticks = list_any (λ other. other == tick) ticks

abbrev pub is_price : ShownBook → ℕ → Bool
is_price shown tick = option_map_or (λ price. price == tick) (price_tick shown.book shown.reference) false

-- the limit of an order, or the auction price
abbrev pub has_record : ShownBook → ℕ → Bool
has_record shown tick = is_among tick (limits shown.book) || is_price shown tick

-- the rule that decides, at the auction price
abbrev pub rule_field : ShownBook → ℕ → List ℕ
rule_field shown tick = if is_price shown tick then option_map_or rule_word (rule_of shown.book) [] else []

unfoldable pub tick_record : ShownBook → ℕ → List ℕ
tick_record shown tick =
    csv_record (decimal shown.command ∷ kind_word shown.auction ∷ decimal tick
    ∷ decimal (quantity_at Bid shown.book tick) ∷ decimal (quantity_at Ask shown.book tick)
    ∷ decimal (demand shown.book tick) ∷ decimal (supply shown.book tick)
    ∷ decimal (volume shown.book tick) ∷ decimal (surplus shown.book tick) ∷ side_word (surplus_side shown.book tick)
    ∷ best_word (is_among tick (best_limits shown.book)) ∷ rule_field shown tick ∷ [])

unfoldable pub market_record : ShownBook → List ℕ
market_record shown =
    csv_record (decimal shown.command ∷ kind_word shown.auction ∷ codes "market"
    ∷ decimal (market_quantity Bid shown.book) ∷ decimal (market_quantity Ask shown.book)
    ∷ [] ∷ [] ∷ [] ∷ [] ∷ [] ∷ [] ∷ [] ∷ [])

-- the records of n ticks from low on, the highest first
unfoldable pub tick_records : ShownBook → ℕ → ℕ → List ℕ
tick_records shown low n = flat_map (tick_record shown) (filter (has_record shown) (falling_ticks low n))

unfoldable pub book_table : Config → ShownBook → List ℕ
book_table config shown = market_record shown ++ tick_records shown config.low (config.high + 1 - config.low)

-- ---- the tables of a day

abbrev pub shown_book : ℕ → State → AuctionKind → ShownBook
shown_book command state kind = record {
  command = command;
  auction = kind;
  book = auction_orders state.book kind;
  reference = state.reference;
}

-- the table of the current auction when this command comes, until the day is over
unfoldable pub table_before : Config → ℕ → State → List ℕ
table_before config command state =
    option_map_or (λ kind. book_table config (shown_book command state kind)) state.auction []

-- the table before a command that was answered so
abbrev pub text_before : Config → ℕ → State → Reply → List ℕ
text_before config command state answer = if is_uncross_reply answer then table_before config command state else []

-- the tables before the uncrosses among entries after the first `before`, and the one at their end
unfoldable pub tables_after : Config → ℕ → State → List Entry → List ℕ
tables_after config before state [] = table_before config (before + 1) state
tables_after config before state (entry ∷ entries) =
    text_before config (before + 1) state entry.reply
    ++ tables_after config (before + 1) (step config state (call_of entry)).0 entries

unfoldable pub book_text : Config → List Entry → List ℕ
book_text config entries = book_header ++ tables_after config 0 (opening_state config) entries
