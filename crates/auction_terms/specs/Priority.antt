-- The open orders in priority, and what was executed of each.
use Rattle.std.specs.Prelude.{ℕ, ◌==◌, Bool, true, if◌then◌else◌, List, [], ◌++◌, Option, Some, None, filter, map}
use Rattle.std.specs.Prelude.{sum_by}
use Rattle.auction_terms.specs.declared.Side.{Side}
use Rattle.auction_terms.specs.declared.Side.TheVariants.{Bid, Ask}
use Rattle.auction_terms.specs.declared.Order.{Order}
use Rattle.auction_terms.specs.declared.OpenOrder.{OpenOrder}
use Rattle.auction_terms.specs.declared.Trade.{Trade}
use Rattle.auction_terms.specs.declared.AuctionKind.{AuctionKind}
use Rattle.auction_terms.specs.declared.Config.{Config}
use Rattle.auction_terms.specs.declared.Price.{Price}
use Rattle.auction_terms.specs.Book.{auction_orders, is_on, is_restricted_to}
use Rattle.auction_terms.specs.AuctionPrice.{price}
use Rattle.auction_terms.specs.Allotment.{by_limit, rest_in, trades}
use Rattle.auction_terms.specs.Day.{State, is_interrupted, visible_of}
use Rattle.auction_terms.specs.Auxiliary.Sort.{in_order}

-- the orders of a side by their limits; what ties keeps its order, which is that of time
abbrev pub side_in_priority : Side → List Order → List Order
side_in_priority side book = in_order (by_limit side) (filter (is_on side) book)

-- the orders of all members, or of one
abbrev pub is_by : Option ℕ → Order → Bool
is_by None order = true
is_by (Some member) order = order.member == member

abbrev pub orders_by : Option ℕ → List Order → List Order
orders_by member book = filter (is_by member) book

-- the order that the trade names on this side
abbrev pub traded_on : Side → Trade → ℕ
traded_on Bid trade = trade.bid
traded_on Ask trade = trade.ask

-- the shares that the trades executed of the order with this id on this side
abbrev pub executed_of : List Trade → Side → ℕ → ℕ
executed_of tape side id = sum_by (λ trade. trade.quantity) (filter (λ trade. traded_on side trade == id) tape)

abbrev pub with_executions : List Trade → Side → Order → OpenOrder
with_executions tape side order = record {
  order = order;
  visible = visible_of order;
  filled = executed_of tape side order.id;
}

-- the orders of a side in priority, of all members or of one
abbrev pub listed_on : Side → Option ℕ → List Order → List Trade → List OpenOrder
listed_on side member book tape = map (with_executions tape side) (side_in_priority side (orders_by member book))

-- the bids, and then the asks
abbrev pub listed : Option ℕ → List Order → List Trade → List OpenOrder
listed member book tape = listed_on Bid member book tape ++ listed_on Ask member book tape

-- the open orders, also those that wait for another auction
unfoldable pub orders_in_priority : Option ℕ → State → List OpenOrder
orders_in_priority member state = listed member state.book state.tape

-- ---- what an uncross takes out

-- those that are for this auction alone
abbrev pub restricted_to : AuctionKind → List OpenOrder → List OpenOrder
restricted_to kind orders = filter (λ listed. is_restricted_to kind listed.order.restriction) orders

-- the orders for this auction alone that are left after it, at this price or without one; none where it is interrupted
abbrev pub expiring_at : Config → State → AuctionKind → Option Price → List OpenOrder
expiring_at config state kind None = restricted_to kind (listed None state.book state.tape)
expiring_at config state kind (Some priced) =
    if is_interrupted config state priced.tick
    then []
    else restricted_to kind
    (listed None (rest_in kind state.book priced.tick)
    (state.tape ++ trades (auction_orders state.book kind) priced.tick))

abbrev pub expiring_in : Config → State → Option AuctionKind → List OpenOrder
expiring_in config state None = []
expiring_in config state (Some kind) =
    expiring_at config state kind (price (auction_orders state.book kind) state.reference)

-- the orders that an uncross would take out now, as they are for its auction alone, in priority
unfoldable pub orders_expiring : Config → State → List OpenOrder
orders_expiring config state = expiring_in config state state.auction
