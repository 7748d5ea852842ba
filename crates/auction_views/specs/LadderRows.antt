-- The rows of the ladder: the shares with one limit.
use Rattle.std.specs.Prelude.{ℕ, zero, suc, ◌+◌, ◌-◌, ◌==◌, ◌&&◌, Bool, if◌then◌else◌, List, [], ◌∷◌, ◌++◌, filter, map}
use Rattle.std.specs.Prelude.{slice_index}
use Rattle.std.specs.List.{list_any}
use Rattle.auction_terms.specs.declared.Config.{Config}
use Rattle.auction_terms.specs.declared.Limit.TheVariants.{Market, At}
use Rattle.auction_terms.specs.declared.Order.{Order}
use Rattle.auction_terms.specs.declared.Side.TheVariants.{Bid, Ask}
use Rattle.auction_terms.specs.Ladder.{LadderView, is_at, market_quantity, quantity_at}
use Rattle.tick_ladder.specs.FallingTicks.{falling_ticks}
use Rattle.auction_views.specs.declared.row.LadderRow.{LadderRow}

-- the shares of the market orders
abbrev pub market_ladder_row : List Order → LadderRow
market_ladder_row book = record { limit = Market; bid = market_quantity Bid book; ask = market_quantity Ask book }

-- the shares with their limit at a tick
abbrev pub limit_row : List Order → ℕ → LadderRow
limit_row book tick = record { limit = At tick; bid = quantity_at Bid book tick; ask = quantity_at Ask book tick }

-- an order has its limit at a tick
abbrev pub has_orders_at : List Order → ℕ → Bool
has_orders_at book tick = list_any (λ order. is_at tick order.limit) book

abbrev pub market_rows : List Order → List LadderRow
market_rows book =
    if (market_quantity Bid book == 0) && (market_quantity Ask book == 0) then [] else market_ladder_row book ∷ []

-- the limits of the orders among n ticks from low on, the highest first
abbrev pub limit_rows : List Order → ℕ → ℕ → List LadderRow
limit_rows book low n = map (limit_row book) (filter (has_orders_at book) (falling_ticks low n))

-- the market orders first, if there are any, and then each limit from the highest tick down
unfoldable pub ladder_rows : Config → List Order → List LadderRow
ladder_rows config book = market_rows book ++ limit_rows book config.low (config.high + 1 - config.low)

-- ---- the same, as the code has it

abbrev pub market_rows_in : LadderView → List LadderRow
market_rows_in view =
    if (view.market_bids == 0) && (view.market_asks == 0) then []
    else record { limit = Market; bid = view.market_bids; ask = view.market_asks } ∷ []

-- what is at a place, counted from the lowest tick
abbrev pub rows_at : LadderView → ℕ → List LadderRow
rows_at view place =
    if slice_index view.present place == 1 then record {
      limit = At (view.low + place);
      bid = slice_index view.bids place;
      ask = slice_index view.asks place;
    } ∷ []
    else []

-- the rows of the places below one, the highest first
unfoldable pub ladder_rows_below : LadderView → ℕ → List LadderRow
ladder_rows_below view zero = []
ladder_rows_below view (suc place) = rows_at view place ++ ladder_rows_below view place
