-- Examples: each is a list of calls and what the day answers. They are checked by computing.
use Rattle.std.specs.Prelude.{◌≡◌, ℕ, true, false, List, [], ◌∷◌, Option, Some, None, refl}
use Rattle.auction_terms.specs.declared.Config.{Config}
use Rattle.auction_terms.specs.declared.Side.{Side}
use Rattle.auction_terms.specs.declared.Side.TheVariants.{Bid, Ask}
use Rattle.auction_terms.specs.declared.Limit.{Limit}
use Rattle.auction_terms.specs.declared.Limit.TheVariants.{Market, At}
use Rattle.auction_terms.specs.declared.Restriction.{Restriction}
use Rattle.auction_terms.specs.declared.Restriction.TheVariants.{Unrestricted, OpeningOnly, ClosingOnly}
use Rattle.auction_terms.specs.declared.AuctionKind.TheVariants.{Opening, Intraday, Closing}
use Rattle.auction_terms.specs.declared.Price.{Price}
use Rattle.auction_terms.specs.declared.Display.TheVariants.{Priced, Unpriced}
use Rattle.auction_terms.specs.declared.Call.{Call}
use Rattle.auction_terms.specs.declared.Command.{Command}
use Rattle.auction_terms.specs.declared.Command.TheVariants.{Enter, Change, Delete, OrderStatus, Indicate, ReadTrade}
use Rattle.auction_terms.specs.declared.Command.TheVariants.{Uncross}
use Rattle.auction_terms.specs.declared.Refusal.TheVariants.{BadQuantity, BadLimit, BadPeak, UnknownOrder, NotOperator}
use Rattle.auction_terms.specs.declared.Refusal.TheVariants.{DayOver, NoSuchTrade, PastAuction}
use Rattle.auction_terms.specs.declared.Reply.{Reply}
use Rattle.auction_terms.specs.declared.Reply.TheVariants.{Entered, Changed, Deleted, OpenOrder, Indicated, Traded}
use Rattle.auction_terms.specs.declared.Reply.TheVariants.{Uncrossed, Interrupted, Refused as IsRefused}
use Rattle.auction_terms.specs.Book.{demand, supply, volume, surplus, has_bid_surplus, has_ask_surplus, surplus_side}
use Rattle.auction_terms.specs.Book.{limits}
use Rattle.auction_terms.specs.AuctionPrice.{price, price_tick, priced, best_limits, is_best, is_no_better, lower_end}
use Rattle.auction_terms.specs.AuctionPrice.{upper_end}
use Rattle.auction_terms.specs.Allotment.{fills_of, trades, rest_in}
use Rattle.auction_terms.specs.Day.{
  display,
  enter,
  change,
  delete,
  order_status,
  indicate,
  read_trade,
  uncross,
  decide,
  step,
  replay,
}

abbrev pub config_with : Option ℕ → ℕ → Config
config_with range reference = record {
  low = 1;
  high = 1000;
  reference = reference;
  max_open = 4096;
  max_calls =
      65536;
  range = range;
}

-- what the day answers from its opening on, with this range and reference
unfoldable pub answers_with : Option ℕ → ℕ → List Call → List Reply
answers_with range reference calls = (replay (config_with range reference) calls).1

unfoldable pub answers_at : ℕ → List Call → List Reply
answers_at reference calls = (replay (config_with None reference) calls).1

abbrev pub call : ℕ → Command → Call
call member command = record { member = member; command = command }

abbrev pub enters : ℕ → Side → ℕ → Limit → Call
enters member side quantity limit = call member (Enter side Unrestricted limit quantity None)

abbrev pub enters_only : Restriction → ℕ → Side → ℕ → Limit → Call
enters_only restriction member side quantity limit = call member (Enter side restriction limit quantity None)

abbrev pub shows : ℕ → ℕ → ℕ → Option Side → Reply
shows tick volume surplus side =
    Indicated (Priced (record { tick = tick; volume = volume; surplus = surplus; side = side }))

abbrev pub at_price : ℕ → ℕ → ℕ → Option Side → Option Price
at_price tick volume surplus side = Some (record { tick = tick; volume = volume; surplus = surplus; side = side })

abbrev pub traded : ℕ → ℕ → ℕ → ℕ → Reply
traded bid ask quantity tick = Traded (record { bid = bid; ask = ask; tick = tick; quantity = quantity })

-- An empty book has no price and shows no limits, before and after an uncross.
pub empty_book : answers_at 200 (
    call 1 Indicate
    ∷ call 0 Uncross
    ∷ call 1 Indicate
    ∷ [])
    ≡ Indicated (Unpriced None None)
    ∷ Uncrossed Opening 0 None
    ∷ Indicated (Unpriced None None)
    ∷ []
unfolding demand supply volume surplus has_bid_surplus has_ask_surplus surplus_side limits price price_tick priced
    best_limits is_best is_no_better lower_end upper_end fills_of trades rest_in display enter change delete
    order_status indicate read_trade uncross decide step answers_at answers_with
empty_book = refl

-- The example that the program is tried with: the limit 200 has the most volume, and three trades follow.
pub the_stored_example : answers_at 200 (
    enters 1 Bid 200 (At 202)
    ∷ enters 1 Bid 200 (At 201)
    ∷ enters 1 Bid 300 (At 200)
    ∷ enters 2 Ask 100 (At 200)
    ∷ enters 2 Ask 200 (At 199)
    ∷ enters 2 Ask 200 (At 198)
    ∷ call 1 Indicate
    ∷ call 0 Uncross
    ∷ call 1 (ReadTrade 1)
    ∷ call 1 (ReadTrade 2)
    ∷ call 1 (ReadTrade 3)
    ∷ [])
    ≡ Entered 1
    ∷ Entered 2
    ∷ Entered 3
    ∷ Entered 4
    ∷ Entered 5
    ∷ Entered 6
    ∷ shows 200 500 200 (Some Bid)
    ∷ Uncrossed Opening 3 (at_price 200 500 200 (Some Bid))
    ∷ traded 1 6 200 200
    ∷ traded 2 5 200 200
    ∷ traded 3 4 100 200
    ∷ []
unfolding demand supply volume surplus has_bid_surplus has_ask_surplus surplus_side limits price price_tick priced
    best_limits is_best is_no_better lower_end upper_end fills_of trades rest_in display enter change delete
    order_status indicate read_trade uncross decide step answers_at answers_with
the_stored_example = refl

-- Two limits have the same volume and bid surplus: the higher is the price.
pub bid_surplus_takes_the_highest : answers_at 200 (
    enters 1 Bid 400 (At 202)
    ∷ enters 1 Bid 200 (At 201)
    ∷ enters 2 Ask 300 (At 199)
    ∷ enters 2 Ask 200 (At 198)
    ∷ call 1 Indicate
    ∷ [])
    ≡ Entered 1
    ∷ Entered 2
    ∷ Entered 3
    ∷ Entered 4
    ∷ shows 201 500 100 (Some Bid)
    ∷ []
unfolding demand supply volume surplus has_bid_surplus has_ask_surplus surplus_side limits price price_tick priced
    best_limits is_best is_no_better lower_end upper_end fills_of trades rest_in display enter change delete
    order_status indicate read_trade uncross decide step answers_at answers_with
bid_surplus_takes_the_highest = refl

-- Two limits have the same volume and ask surplus: the lower is the price.
pub ask_surplus_takes_the_lowest : answers_at 200 (
    enters 1 Bid 300 (At 202)
    ∷ enters 1 Bid 200 (At 201)
    ∷ enters 2 Ask 200 (At 199)
    ∷ enters 2 Ask 400 (At 198)
    ∷ call 1 Indicate
    ∷ [])
    ≡ Entered 1
    ∷ Entered 2
    ∷ Entered 3
    ∷ Entered 4
    ∷ shows 199 500 100 (Some Ask)
    ∷ []
unfolding demand supply volume surplus has_bid_surplus has_ask_surplus surplus_side limits price price_tick priced
    best_limits is_best is_no_better lower_end upper_end fills_of trades rest_in display enter change delete
    order_status indicate read_trade uncross decide step answers_at answers_with
ask_surplus_takes_the_lowest = refl

-- One limit has a bid surplus, one an ask surplus, and the reference is below both.
pub mixed_sides-reference_below : answers_at 185 (
    enters 1 Bid 100 Market
    ∷ enters 2 Ask 100 Market
    ∷ enters 1 Bid 50 (At 190)
    ∷ enters 2 Ask 50 (At 210)
    ∷ call 1 Indicate
    ∷ [])
    ≡ Entered 1
    ∷ Entered 2
    ∷ Entered 3
    ∷ Entered 4
    ∷ shows 190 100 50 (Some Bid)
    ∷ []
unfolding demand supply volume surplus has_bid_surplus has_ask_surplus surplus_side limits price price_tick priced
    best_limits is_best is_no_better lower_end upper_end fills_of trades rest_in display enter change delete
    order_status indicate read_trade uncross decide step answers_at answers_with
mixed_sides-reference_below = refl

-- The reference is between the kept limits, and is the price.
pub mixed_sides-reference_between : answers_at 200 (
    enters 1 Bid 100 Market
    ∷ enters 2 Ask 100 Market
    ∷ enters 1 Bid 50 (At 190)
    ∷ enters 2 Ask 50 (At 210)
    ∷ call 1 Indicate
    ∷ [])
    ≡ Entered 1
    ∷ Entered 2
    ∷ Entered 3
    ∷ Entered 4
    ∷ shows 200 100 0 None
    ∷ []
unfolding demand supply volume surplus has_bid_surplus has_ask_surplus surplus_side limits price price_tick priced
    best_limits is_best is_no_better lower_end upper_end fills_of trades rest_in display enter change delete
    order_status indicate read_trade uncross decide step answers_at answers_with
mixed_sides-reference_between = refl

-- The reference is above both.
pub mixed_sides-reference_above : answers_at 215 (
    enters 1 Bid 100 Market
    ∷ enters 2 Ask 100 Market
    ∷ enters 1 Bid 50 (At 190)
    ∷ enters 2 Ask 50 (At 210)
    ∷ call 1 Indicate
    ∷ [])
    ≡ Entered 1
    ∷ Entered 2
    ∷ Entered 3
    ∷ Entered 4
    ∷ shows 210 100 50 (Some Ask)
    ∷ []
unfolding demand supply volume surplus has_bid_surplus has_ask_surplus surplus_side limits price price_tick priced
    best_limits is_best is_no_better lower_end upper_end fills_of trades rest_in display enter change delete
    order_status indicate read_trade uncross decide step answers_at answers_with
mixed_sides-reference_above = refl

-- No best limit has a surplus, and the reference is at the lower kept limit.
pub no_surplus-reference_low : answers_at 190 (
    enters 1 Bid 100 (At 210)
    ∷ enters 2 Ask 100 (At 190)
    ∷ call 1 Indicate
    ∷ [])
    ≡ Entered 1
    ∷ Entered 2
    ∷ shows 190 100 0 None
    ∷ []
unfolding demand supply volume surplus has_bid_surplus has_ask_surplus surplus_side limits price price_tick priced
    best_limits is_best is_no_better lower_end upper_end fills_of trades rest_in display enter change delete
    order_status indicate read_trade uncross decide step answers_at answers_with
no_surplus-reference_low = refl

-- The reference is between the kept limits.
pub no_surplus-reference_between : answers_at 200 (
    enters 1 Bid 100 (At 210)
    ∷ enters 2 Ask 100 (At 190)
    ∷ call 1 Indicate
    ∷ [])
    ≡ Entered 1
    ∷ Entered 2
    ∷ shows 200 100 0 None
    ∷ []
unfolding demand supply volume surplus has_bid_surplus has_ask_surplus surplus_side limits price price_tick priced
    best_limits is_best is_no_better lower_end upper_end fills_of trades rest_in display enter change delete
    order_status indicate read_trade uncross decide step answers_at answers_with
no_surplus-reference_between = refl

-- The reference is above the higher kept limit.
pub no_surplus-reference_above : answers_at 250 (
    enters 1 Bid 100 (At 210)
    ∷ enters 2 Ask 100 (At 190)
    ∷ call 1 Indicate
    ∷ [])
    ≡ Entered 1
    ∷ Entered 2
    ∷ shows 210 100 0 None
    ∷ []
unfolding demand supply volume surplus has_bid_surplus has_ask_surplus surplus_side limits price price_tick priced
    best_limits is_best is_no_better lower_end upper_end fills_of trades rest_in display enter change delete
    order_status indicate read_trade uncross decide step answers_at answers_with
no_surplus-reference_above = refl

-- Market orders alone are matched at the reference.
pub market_orders_alone : answers_at 200 (
    enters 1 Bid 900 Market
    ∷ enters 2 Ask 800 Market
    ∷ call 1 Indicate
    ∷ [])
    ≡ Entered 1
    ∷ Entered 2
    ∷ shows 200 800 100 (Some Bid)
    ∷ []
unfolding demand supply volume surplus has_bid_surplus has_ask_surplus surplus_side limits price price_tick priced
    best_limits is_best is_no_better lower_end upper_end fills_of trades rest_in display enter change delete
    order_status indicate read_trade uncross decide step answers_at answers_with
market_orders_alone = refl

-- No order meets another: the best limits are shown, and the book stays.
pub no_cross : answers_at 200 (
    enters 1 Bid 80 (At 199)
    ∷ enters 2 Ask 80 (At 201)
    ∷ call 1 Indicate
    ∷ call 0 Uncross
    ∷ call 1 Indicate
    ∷ [])
    ≡ Entered 1
    ∷ Entered 2
    ∷ Indicated (Unpriced (Some 199) (Some 201))
    ∷ Uncrossed Opening 0 None
    ∷ Indicated (Unpriced (Some 199) (Some 201))
    ∷ []
unfolding demand supply volume surplus has_bid_surplus has_ask_surplus surplus_side limits price price_tick priced
    best_limits is_best is_no_better lower_end upper_end fills_of trades rest_in display enter change delete
    order_status indicate read_trade uncross decide step answers_at answers_with
no_cross = refl

-- Market orders are executed before limit orders, and a member sees its own orders alone.
pub market_before_limit : answers_at 200 (
    enters 1 Bid 100 (At 200)
    ∷ enters 2 Bid 100 Market
    ∷ enters 3 Ask 150 (At 200)
    ∷ call 0 Uncross
    ∷ call 0 (ReadTrade 1)
    ∷ call 0 (ReadTrade 2)
    ∷ call 0 (ReadTrade 3)
    ∷ call 1 (OrderStatus 1)
    ∷ call 2 (OrderStatus 2)
    ∷ [])
    ≡ Entered 1
    ∷ Entered 2
    ∷ Entered 3
    ∷ Uncrossed Opening 2 (at_price 200 150 50 (Some Bid))
    ∷ traded 2 3 100 200
    ∷ traded 1 3 50 200
    ∷ IsRefused NoSuchTrade
    ∷ OpenOrder Bid (At 200) 50 50
    ∷ IsRefused UnknownOrder
    ∷ []
unfolding demand supply volume surplus has_bid_surplus has_ask_surplus surplus_side limits price price_tick priced
    best_limits is_best is_no_better lower_end upper_end fills_of trades rest_in display enter change delete
    order_status indicate read_trade uncross decide step answers_at answers_with
market_before_limit = refl

-- A raised quantity gives a new time priority.
pub raised_quantity_moves : answers_at 200 (
    enters 1 Bid 100 (At 200)
    ∷ enters 2 Bid 100 (At 200)
    ∷ call 1 (Change 1 (At 200) 120)
    ∷ enters 3 Ask 100 (At 200)
    ∷ call 0 Uncross
    ∷ call 0 (ReadTrade 1)
    ∷ [])
    ≡ Entered 1
    ∷ Entered 2
    ∷ Changed false
    ∷ Entered 3
    ∷ Uncrossed Opening 1 (at_price 200 100 120 (Some Bid))
    ∷ traded 2 3 100 200
    ∷ []
unfolding demand supply volume surplus has_bid_surplus has_ask_surplus surplus_side limits price price_tick priced
    best_limits is_best is_no_better lower_end upper_end fills_of trades rest_in display enter change delete
    order_status indicate read_trade uncross decide step answers_at answers_with
raised_quantity_moves = refl

-- A lowered quantity keeps the old one.
pub lowered_quantity_keeps : answers_at 200 (
    enters 1 Bid 100 (At 200)
    ∷ enters 2 Bid 100 (At 200)
    ∷ call 1 (Change 1 (At 200) 60)
    ∷ enters 3 Ask 100 (At 200)
    ∷ call 0 Uncross
    ∷ call 0 (ReadTrade 1)
    ∷ call 0 (ReadTrade 2)
    ∷ [])
    ≡ Entered 1
    ∷ Entered 2
    ∷ Changed true
    ∷ Entered 3
    ∷ Uncrossed Opening 2 (at_price 200 100 60 (Some Bid))
    ∷ traded 1 3 60 200
    ∷ traded 2 3 40 200
    ∷ []
unfolding demand supply volume surplus has_bid_surplus has_ask_surplus surplus_side limits price price_tick priced
    best_limits is_best is_no_better lower_end upper_end fills_of trades rest_in display enter change delete
    order_status indicate read_trade uncross decide step answers_at answers_with
lowered_quantity_keeps = refl

-- An iceberg order takes part with its overall quantity, and shows at most its peak.
pub iceberg : answers_at 200 (
    call 1 (Enter Bid Unrestricted (At 200) 500 (Some 100))
    ∷ enters 2 Ask 300 (At 200)
    ∷ call 0 Uncross
    ∷ call 1 (OrderStatus 1)
    ∷ [])
    ≡ Entered 1
    ∷ Entered 2
    ∷ Uncrossed Opening 1 (at_price 200 300 200 (Some Bid))
    ∷ OpenOrder Bid (At 200) 200 100
    ∷ []
unfolding demand supply volume surplus has_bid_surplus has_ask_surplus surplus_side limits price price_tick priced
    best_limits is_best is_no_better lower_end upper_end fills_of trades rest_in display enter change delete
    order_status indicate read_trade uncross decide step answers_at answers_with
iceberg = refl

-- Each refusal, in the order of the checks, to the end of the day.
pub refusals : answers_at 200 (
    call 1 (Enter Bid Unrestricted (At 200) 0 None)
    ∷ call 1 (Enter Bid Unrestricted (At 1001) 5 None)
    ∷ call 1 (Enter Bid Unrestricted (At 200) 5 (Some 6))
    ∷ call 1 (Enter Bid Unrestricted Market 5 (Some 5))
    ∷ enters 1 Bid 5 (At 200)
    ∷ call 2 (Delete 1)
    ∷ call 1 Uncross
    ∷ call 0 (ReadTrade 1)
    ∷ call 0 Uncross
    ∷ call 0 Uncross
    ∷ call 0 Uncross
    ∷ call 1 (Enter Bid Unrestricted (At 200) 0 None)
    ∷ call 1 (OrderStatus 1)
    ∷ call 1 Indicate
    ∷ [])
    ≡ IsRefused BadQuantity
    ∷ IsRefused BadLimit
    ∷ IsRefused BadPeak
    ∷ IsRefused BadPeak
    ∷ Entered 1
    ∷ IsRefused UnknownOrder
    ∷ IsRefused NotOperator
    ∷ IsRefused NoSuchTrade
    ∷ Uncrossed Opening 0 None
    ∷ Uncrossed Intraday 0 None
    ∷ Uncrossed Closing 0 None
    ∷ IsRefused DayOver
    ∷ OpenOrder Bid (At 200) 5 5
    ∷ IsRefused DayOver
    ∷ []
unfolding demand supply volume surplus has_bid_surplus has_ask_surplus surplus_side limits price price_tick priced
    best_limits is_best is_no_better lower_end upper_end fills_of trades rest_in display enter change delete
    order_status indicate read_trade uncross decide step answers_at answers_with
refusals = refl

-- Changes, and what Status says after each.
pub changes : answers_at 200 (
    call 1 (Enter Bid Unrestricted (At 200) 500 (Some 100))
    ∷ call 1 (OrderStatus 1)
    ∷ call 1 (Change 1 (At 200) 60)
    ∷ call 1 (OrderStatus 1)
    ∷ call 1 (Change 1 (At 200) 60)
    ∷ call 1 (Change 1 (At 199) 60)
    ∷ call 1 (Change 1 Market 60)
    ∷ call 2 (Change 1 Market 60)
    ∷ call 1 (Delete 1)
    ∷ call 1 (Delete 1)
    ∷ enters 1 Ask 7 Market
    ∷ call 1 (OrderStatus 2)
    ∷ call 1 (Change 2 (At 150) 7)
    ∷ [])
    ≡ Entered 1
    ∷ OpenOrder Bid (At 200) 500 100
    ∷ Changed true
    ∷ OpenOrder Bid (At 200) 60 60
    ∷ Changed true
    ∷ Changed false
    ∷ IsRefused BadPeak
    ∷ IsRefused UnknownOrder
    ∷ Deleted
    ∷ IsRefused UnknownOrder
    ∷ Entered 2
    ∷ OpenOrder Ask Market 7 7
    ∷ Changed false
    ∷ []
unfolding demand supply volume surplus has_bid_surplus has_ask_surplus surplus_side limits price price_tick priced
    best_limits is_best is_no_better lower_end upper_end fills_of trades rest_in display enter change delete
    order_status indicate read_trade uncross decide step answers_at answers_with
changes = refl

-- Market orders of both sides, and one limit with a bid surplus.
pub bids_in_surplus : answers_at 200 (
    enters 1 Bid 100 Market
    ∷ enters 2 Ask 60 Market
    ∷ enters 1 Bid 40 (At 150)
    ∷ call 1 Indicate
    ∷ [])
    ≡ Entered 1
    ∷ Entered 2
    ∷ Entered 3
    ∷ shows 150 60 80 (Some Bid)
    ∷ []
unfolding demand supply volume surplus has_bid_surplus has_ask_surplus surplus_side limits price price_tick priced
    best_limits is_best is_no_better lower_end upper_end fills_of trades rest_in display enter change delete
    order_status indicate read_trade uncross decide step answers_at answers_with
bids_in_surplus = refl

-- Market orders of both sides, and one limit with an ask surplus.
pub asks_in_surplus : answers_at 200 (
    enters 1 Ask 100 Market
    ∷ enters 2 Bid 60 Market
    ∷ enters 1 Ask 40 (At 250)
    ∷ call 1 Indicate
    ∷ [])
    ≡ Entered 1
    ∷ Entered 2
    ∷ Entered 3
    ∷ shows 250 60 80 (Some Ask)
    ∷ []
unfolding demand supply volume surplus has_bid_surplus has_ask_surplus surplus_side limits price price_tick priced
    best_limits is_best is_no_better lower_end upper_end fills_of trades rest_in display enter change delete
    order_status indicate read_trade uncross decide step answers_at answers_with
asks_in_surplus = refl

-- The least surplus is picked before the side is looked at.
pub least_surplus_first : answers_at 200 (
    enters 1 Bid 100 (At 202)
    ∷ enters 1 Bid 50 (At 199)
    ∷ enters 2 Ask 100 (At 198)
    ∷ enters 2 Ask 20 (At 201)
    ∷ call 1 Indicate
    ∷ [])
    ≡ Entered 1
    ∷ Entered 2
    ∷ Entered 3
    ∷ Entered 4
    ∷ shows 201 100 20 (Some Ask)
    ∷ []
unfolding demand supply volume surplus has_bid_surplus has_ask_surplus surplus_side limits price price_tick priced
    best_limits is_best is_no_better lower_end upper_end fills_of trades rest_in display enter change delete
    order_status indicate read_trade uncross decide step answers_at answers_with
least_surplus_first = refl

-- The price of an auction is the reference of the next, and trades are numbered over the day.
pub three_auctions : answers_at 200 (
    enters 1 Bid 100 (At 210)
    ∷ enters 2 Ask 100 (At 206)
    ∷ call 0 Uncross
    ∷ enters 1 Bid 30 Market
    ∷ enters 2 Ask 20 Market
    ∷ call 0 Uncross
    ∷ call 3 (ReadTrade 2)
    ∷ call 1 (OrderStatus 3)
    ∷ call 0 Uncross
    ∷ call 1 (ReadTrade 1)
    ∷ call 1 (Delete 3)
    ∷ [])
    ≡ Entered 1
    ∷ Entered 2
    ∷ Uncrossed Opening 1 (at_price 206 100 0 None)
    ∷ Entered 3
    ∷ Entered 4
    ∷ Uncrossed Intraday 1 (at_price 206 20 10 (Some Bid))
    ∷ traded 3 4 20 206
    ∷ OpenOrder Bid Market 10 10
    ∷ Uncrossed Closing 0 None
    ∷ traded 1 2 100 206
    ∷ IsRefused DayOver
    ∷ []
unfolding demand supply volume surplus has_bid_surplus has_ask_surplus surplus_side limits price price_tick priced
    best_limits is_best is_no_better lower_end upper_end fills_of trades rest_in display enter change delete
    order_status indicate read_trade uncross decide step answers_at answers_with
three_auctions = refl

-- An order for the closing auction alone counts once the intraday auction has ended.
pub closing_order_waits : answers_at 200 (
    enters_only ClosingOnly 1 Bid 100 (At 200)
    ∷ enters 2 Ask 100 (At 200)
    ∷ call 1 Indicate
    ∷ call 0 Uncross
    ∷ call 0 Uncross
    ∷ call 1 Indicate
    ∷ call 0 Uncross
    ∷ [])
    ≡ Entered 1
    ∷ Entered 2
    ∷ Indicated (Unpriced None (Some 200))
    ∷ Uncrossed Opening 0 None
    ∷ Uncrossed Intraday 0 None
    ∷ shows 200 100 0 None
    ∷ Uncrossed Closing 1 (at_price 200 100 0 None)
    ∷ []
unfolding demand supply volume surplus has_bid_surplus has_ask_surplus surplus_side limits price price_tick priced
    best_limits is_best is_no_better lower_end upper_end fills_of trades rest_in display enter change delete
    order_status indicate read_trade uncross decide step answers_at answers_with
closing_order_waits = refl

-- An order for the opening auction alone leaves with it, and none is taken later.
pub opening_order_leaves : answers_at 200 (
    enters_only OpeningOnly 1 Bid 100 (At 200)
    ∷ call 0 Uncross
    ∷ call 1 (OrderStatus 1)
    ∷ enters_only OpeningOnly 1 Bid 5 (At 200)
    ∷ [])
    ≡ Entered 1
    ∷ Uncrossed Opening 0 None
    ∷ IsRefused UnknownOrder
    ∷ IsRefused PastAuction
    ∷ []
unfolding demand supply volume surplus has_bid_surplus has_ask_surplus surplus_side limits price price_tick priced
    best_limits is_best is_no_better lower_end upper_end fills_of trades rest_in display enter change delete
    order_status indicate read_trade uncross decide step answers_at answers_with
opening_order_leaves = refl

-- A price outside the range interrupts the first uncross, and not the second.
pub interruption : answers_with (Some 5) 200 (
    enters 1 Bid 100 (At 210)
    ∷ enters 2 Ask 100 (At 206)
    ∷ call 1 Indicate
    ∷ call 0 Uncross
    ∷ call 0 Uncross
    ∷ [])
    ≡ Entered 1
    ∷ Entered 2
    ∷ shows 206 100 0 None
    ∷ Interrupted (record { tick = 206; volume = 100; surplus = 0; side = None })
    ∷ Uncrossed Opening 1 (at_price 206 100 0 None)
    ∷ []
unfolding demand supply volume surplus has_bid_surplus has_ask_surplus surplus_side limits price price_tick priced
    best_limits is_best is_no_better lower_end upper_end fills_of trades rest_in display enter change delete
    order_status indicate read_trade uncross decide step answers_at answers_with
interruption = refl

-- A price within the range interrupts nothing.
pub no_interruption : answers_with (Some 6) 200 (
    enters 1 Bid 100 (At 210)
    ∷ enters 2 Ask 100 (At 206)
    ∷ call 1 Indicate
    ∷ call 0 Uncross
    ∷ [])
    ≡ Entered 1
    ∷ Entered 2
    ∷ shows 206 100 0 None
    ∷ Uncrossed Opening 1 (at_price 206 100 0 None)
    ∷ []
unfolding demand supply volume surplus has_bid_surplus has_ask_surplus surplus_side limits price price_tick priced
    best_limits is_best is_no_better lower_end upper_end fills_of trades rest_in display enter change delete
    order_status indicate read_trade uncross decide step answers_at answers_with
no_interruption = refl

-- An order for the closing auction alone keeps its place in time while it waits.
pub closing_order_keeps_its_time : answers_at 200 (
    enters_only ClosingOnly 1 Bid 150 (At 200)
    ∷ call 0 Uncross
    ∷ call 0 Uncross
    ∷ enters 2 Bid 100 (At 200)
    ∷ enters 3 Ask 100 (At 200)
    ∷ call 0 Uncross
    ∷ call 0 (ReadTrade 1)
    ∷ call 1 (OrderStatus 1)
    ∷ call 2 (OrderStatus 2)
    ∷ [])
    ≡ Entered 1
    ∷ Uncrossed Opening 0 None
    ∷ Uncrossed Intraday 0 None
    ∷ Entered 2
    ∷ Entered 3
    ∷ Uncrossed Closing 1 (at_price 200 100 150 (Some Bid))
    ∷ traded 1 3 100 200
    ∷ IsRefused UnknownOrder
    ∷ OpenOrder Bid (At 200) 100 100
    ∷ []
unfolding demand supply volume surplus has_bid_surplus has_ask_surplus surplus_side limits price price_tick priced
    best_limits is_best is_no_better lower_end upper_end fills_of trades rest_in display enter change delete
    order_status indicate read_trade uncross decide step answers_at answers_with
closing_order_keeps_its_time = refl

-- An uncross without a price clears the interruption, and the next auction can be interrupted.
pub interruption_of_two_auctions : answers_with (Some 5) 200 (
    enters 1 Bid 100 (At 210)
    ∷ enters 2 Ask 100 (At 206)
    ∷ call 0 Uncross
    ∷ call 1 (Delete 1)
    ∷ call 0 Uncross
    ∷ enters 1 Bid 100 (At 210)
    ∷ call 0 Uncross
    ∷ call 0 Uncross
    ∷ [])
    ≡ Entered 1
    ∷ Entered 2
    ∷ Interrupted (record { tick = 206; volume = 100; surplus = 0; side = None })
    ∷ Deleted
    ∷ Uncrossed Opening 0 None
    ∷ Entered 3
    ∷ Interrupted (record { tick = 206; volume = 100; surplus = 0; side = None })
    ∷ Uncrossed Intraday 1 (at_price 206 100 0 None)
    ∷ []
unfolding demand supply volume surplus has_bid_surplus has_ask_surplus surplus_side limits price price_tick priced
    best_limits is_best is_no_better lower_end upper_end fills_of trades rest_in display enter change delete
    order_status indicate read_trade uncross decide step answers_at answers_with
interruption_of_two_auctions = refl

-- The price after an interruption is the next reference.
pub
    interruption_keeps_the_reference : (replay (config_with (Some 5) 200)
    (enters 1 Bid 100 (At 210) ∷ enters 2 Ask 100 (At 206) ∷ call 1 Indicate ∷ call 0 Uncross ∷ call 0 Uncross
    ∷ [])).0.reference ≡ 206
unfolding demand supply volume surplus has_bid_surplus has_ask_surplus surplus_side limits price price_tick priced
    best_limits is_best is_no_better lower_end upper_end fills_of trades rest_in display enter change delete
    order_status indicate read_trade uncross decide step
interruption_keeps_the_reference = refl
