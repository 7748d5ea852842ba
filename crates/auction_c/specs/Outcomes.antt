-- What an uncross does to the orders: what it executes of each, what it leaves, and which it takes out.
use Rattle.std.specs.Prelude.{ℕ, ◌-◌, ◌^◌, min, Bool, false, ◌&&◌, ◌||◌, nat_lt, List, length, map, filter, drop}
use Rattle.std.specs.Prelude.{Option, Some, None}
use Rattle.auction_terms.specs.declared.Call.{Call}
use Rattle.auction_terms.specs.declared.Command.TheVariants.{Uncross}
use Rattle.auction_terms.specs.declared.AuctionKind.{AuctionKind}
use Rattle.auction_terms.specs.declared.OpenOrder.{OpenOrder as Listed}
use Rattle.auction_terms.specs.declared.Order.{Order}
use Rattle.auction_terms.specs.declared.Price.{Price}
use Rattle.auction_terms.specs.declared.Reply.{Reply}
use Rattle.auction_terms.specs.declared.Reply.TheVariants.{Entered, Changed, Deleted, OpenOrder, Indicated, Traded}
use Rattle.auction_terms.specs.declared.Reply.TheVariants.{Uncrossed, Interrupted, Refused as IsRefused}
use Rattle.auction_terms.specs.declared.Side.{Side}
use Rattle.auction_terms.specs.declared.Trade.{Trade}
use Rattle.auction_terms.specs.Auxiliary.RunningAuction.{RunningAuction, auction_after_call}
use Rattle.auction_terms.specs.Book.{is_restricted_to}
use Rattle.auction_terms.specs.Day.{step}
use Rattle.auction_terms.specs.Priority.{executed_of, orders_in_priority}
use Rattle.auction.specs.AuctionState.{call_by}
use Rattle.auction_c.specs.declared.structs.AuctionOutcome.{AuctionOutcome}
use Rattle.auction_c.specs.Encoding.{flag_out, side_out}

-- ---- the uncross

-- the operator's
abbrev pub uncross_call : Call
uncross_call = call_by 0 Uncross

abbrev pub after_uncross : RunningAuction → RunningAuction
after_uncross a = auction_after_call a uncross_call

abbrev pub uncross_reply : RunningAuction → Reply
uncross_reply a = (step a.config a.state uncross_call).1

-- the trades that it makes
abbrev pub uncross_trades : RunningAuction → List Trade
uncross_trades a = drop (length a.state.tape) (after_uncross a).state.tape

-- the auction that it ended: none where it was interrupted or refused
abbrev pub ended_auction : Reply → Option AuctionKind
ended_auction (Entered id) = None
ended_auction (Changed kept) = None
ended_auction Deleted = None
ended_auction (OpenOrder side limit quantity visible) = None
ended_auction (Indicated shown) = None
ended_auction (Traded trade) = None
ended_auction (Uncrossed kind trades price) = Some kind
ended_auction (Interrupted price) = None
ended_auction (IsRefused reason) = None

abbrev pub tick_of_price : Option Price → ℕ
tick_of_price None = 0
tick_of_price (Some price) = price.tick

-- the price at which it executed, or 0
abbrev pub executed_tick : Reply → ℕ
executed_tick (Entered id) = 0
executed_tick (Changed kept) = 0
executed_tick Deleted = 0
executed_tick (OpenOrder side limit quantity visible) = 0
executed_tick (Indicated shown) = 0
executed_tick (Traded trade) = 0
executed_tick (Uncrossed kind trades price) = tick_of_price price
executed_tick (Interrupted price) = 0
executed_tick (IsRefused reason) = 0

-- ---- one order, of which this many shares were executed

-- the order is for the auction alone that ended
abbrev pub is_only_for : Option AuctionKind → Order → Bool
is_only_for None order = false
is_only_for (Some kind) order = is_restricted_to kind order.restriction

-- it is taken out with shares left
abbrev pub expires_with : Reply → ℕ → Order → Bool
expires_with reply filled order = is_only_for (ended_auction reply) order && nat_lt filled order.quantity

-- shares of it were executed, or it is taken out
abbrev pub is_touched_with : Reply → ℕ → Order → Bool
is_touched_with reply filled order = nat_lt 0 filled || expires_with reply filled order

abbrev pub outcome_with : Reply → ℕ → Order → AuctionOutcome
outcome_with reply filled order = record {
  filled = filled;
  left = order.quantity - filled;
  client = 0;
  id = order.id;
  tick = executed_tick reply;
  member = order.member;
  side = side_out order.side;
  expired = flag_out (expires_with reply filled order);
}

-- ---- the orders

-- what trades executed of the order with this id, as far as a number of 64 bits holds it
abbrev pub shares_of : List Trade → Side → ℕ → ℕ
shares_of trades side id = min (executed_of trades side id) (2 ^ 64 - 1)

-- the shares of the order that these trades executed, of those that it had, which are fewer than 2 ^ 64
abbrev pub uncrossed_of : List Trade → Order → ℕ
uncrossed_of trades order = min order.quantity (shares_of trades order.side order.id)

-- those of the orders that the uncross touched, by its reply and its trades
abbrev pub outcomes_of : Reply → List Trade → List Listed → List AuctionOutcome
outcomes_of reply trades orders =
    map (λ listed. outcome_with reply (uncrossed_of trades listed.order) listed.order)
    (filter (λ listed. is_touched_with reply (uncrossed_of trades listed.order) listed.order) orders)

-- what an uncross now does to the open orders, in priority
abbrev pub outcomes : RunningAuction → List AuctionOutcome
outcomes a = outcomes_of (uncross_reply a) (uncross_trades a) (orders_in_priority None a.state)
