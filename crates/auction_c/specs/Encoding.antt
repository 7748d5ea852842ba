-- How replies, displays, trades, ladders, states, configs, commands and entries are written for C.
use Rattle.std.specs.Prelude.{ℕ, ◌-◌, Bool, Option, Some, None, if◌then◌else◌, is_some, unwrap_or}
use Rattle.auction_terms.specs.declared.Command.{Command}
use Rattle.auction_terms.specs.declared.Command.TheVariants.{Enter, Change, Delete, OrderStatus, Indicate, ReadTrade}
use Rattle.auction_terms.specs.declared.Command.TheVariants.{Uncross}
use Rattle.auction_terms.specs.declared.Config.{Config}
use Rattle.auction_terms.specs.declared.Entry.{Entry}
use Rattle.auction_terms.specs.declared.Side.{Side}
use Rattle.auction_terms.specs.declared.Side.TheVariants.{Bid, Ask}
use Rattle.auction_terms.specs.declared.Limit.{Limit}
use Rattle.auction_terms.specs.declared.Limit.TheVariants.{Market, At}
use Rattle.auction_terms.specs.declared.AuctionKind.{AuctionKind}
use Rattle.auction_terms.specs.declared.AuctionKind.TheVariants.{Opening, Intraday, Closing}
use Rattle.auction_terms.specs.declared.Price.{Price}
use Rattle.auction_terms.specs.declared.Trade.{Trade}
use Rattle.auction_terms.specs.declared.Display.{Display}
use Rattle.auction_terms.specs.declared.Display.TheVariants.{Priced, Unpriced}
use Rattle.auction_terms.specs.declared.OpenOrder.{OpenOrder as Listed}
use Rattle.auction_terms.specs.declared.Restriction.{Restriction}
use Rattle.auction_terms.specs.declared.Restriction.TheVariants.{Unrestricted, OpeningOnly, ClosingOnly}
use Rattle.auction_terms.specs.declared.Reply.{Reply}
use Rattle.auction_terms.specs.declared.Reply.TheVariants.{Entered, Changed, Deleted, OpenOrder, Indicated, Traded}
use Rattle.auction_terms.specs.declared.Reply.TheVariants.{Uncrossed, Interrupted, Refused as IsRefused}
use Rattle.auction_terms.specs.Auxiliary.RunningAuction.{RunningAuction}
use Rattle.auction_terms.specs.Book.{tick_of}
use Rattle.auction_terms.specs.Ladder.{LadderView}
use Rattle.auction_terms.specs.Refusals.{refusal_number}
use Rattle.auction_c.specs.declared.structs.AuctionCommand.{AuctionCommand}
use Rattle.auction_c.specs.declared.structs.AuctionConfig.{AuctionConfig}
use Rattle.auction_c.specs.declared.structs.AuctionDayState.{AuctionDayState}
use Rattle.auction_c.specs.declared.structs.AuctionEntry.{AuctionEntry}
use Rattle.auction_c.specs.declared.structs.AuctionMarketOrders.{AuctionMarketOrders}
use Rattle.auction_c.specs.declared.structs.AuctionOrder.{AuctionOrder}
use Rattle.auction_c.specs.declared.structs.AuctionReply.{AuctionReply}
use Rattle.auction_c.specs.declared.structs.AuctionTrade.{AuctionTrade}

abbrev pub flag_out : Bool → ℕ
flag_out b = if b then 1 else 0

abbrev pub side_out : Side → ℕ
side_out Bid = 1
side_out Ask = 2

abbrev pub surplus_side_out : Option Side → ℕ
surplus_side_out None = 0
surplus_side_out (Some side) = side_out side

abbrev pub auction_kind_out : AuctionKind → ℕ
auction_kind_out Opening = 1
auction_kind_out Intraday = 2
auction_kind_out Closing = 3

-- a reply with this tag, and 0 in all else
abbrev pub tagged : ℕ → AuctionReply
tagged tag = record {
  quantity = 0;
  visible = 0;
  volume = 0;
  surplus = 0;
  id = 0;
  ask = 0;
  tick = 0;
  trades = 0;
  best_bid = 0;
  best_ask = 0;
  tag = tag;
  side = 0;
  auction = 0;
  kept = 0;
  refusal = 0;
  has_tick = 0;
  has_best_bid = 0;
  has_best_ask = 0;
}

abbrev pub price_out : ℕ → Price → AuctionReply
price_out tag price = record (tagged tag) {
  tick = price.tick;
  has_tick = 1;
  side = surplus_side_out price.side;
  volume = price.volume;
  surplus = price.surplus;
}

abbrev pub display_out : Display → AuctionReply
display_out (Priced price) = price_out 5 price
display_out (Unpriced best_bid best_ask) = record (tagged 6) {
  has_best_bid = flag_out (is_some best_bid);
  best_bid = unwrap_or best_bid 0;
  has_best_ask = flag_out (is_some best_ask);
  best_ask = unwrap_or best_ask 0;
}

abbrev pub open_order_out : Side → Limit → ℕ → ℕ → AuctionReply
open_order_out side Market quantity visible =
    record (tagged 4) { side = side_out side; quantity = quantity; visible = visible }
open_order_out side (At tick) quantity visible =
    record (tagged 4) { side = side_out side; has_tick = 1; tick = tick; quantity = quantity; visible = visible }

abbrev pub uncrossed_out : AuctionKind → ℕ → Option Price → AuctionReply
uncrossed_out kind trades None = record (tagged 8) { auction = auction_kind_out kind; trades = trades }
uncrossed_out kind trades (Some price) = record (price_out 8 price) { auction = auction_kind_out kind; trades = trades }

abbrev pub reply_out : Reply → AuctionReply
reply_out (Entered id) = record (tagged 1) { id = id }
reply_out (Changed kept) = record (tagged 2) { kept = flag_out kept }
reply_out Deleted = tagged 3
reply_out (OpenOrder side limit quantity visible) = open_order_out side limit quantity visible
reply_out (Indicated shown) = display_out shown
reply_out (Traded t) = record (tagged 7) { id = t.bid; ask = t.ask; tick = t.tick; quantity = t.quantity }
reply_out (Uncrossed kind trades price) = uncrossed_out kind trades price
reply_out (Interrupted price) = price_out 9 price
reply_out (IsRefused reason) = record (tagged 10) { refusal = refusal_number reason }

abbrev pub restriction_out : Restriction → ℕ
restriction_out Unrestricted = 0
restriction_out OpeningOnly = 1
restriction_out ClosingOnly = 2

abbrev pub order_out : Listed → AuctionOrder
order_out listed = record {
  quantity = listed.order.quantity;
  visible = listed.visible;
  filled = listed.filled;
  peak = unwrap_or listed.order.peak 0;
  client = 0;
  id = listed.order.id;
  limit = unwrap_or (tick_of listed.order.limit) 0;
  member = listed.order.member;
  side = side_out listed.order.side;
  restriction = restriction_out listed.order.restriction;
  has_limit = flag_out (is_some (tick_of listed.order.limit));
  has_peak = flag_out (is_some listed.order.peak);
}

abbrev pub trade_out : Trade → AuctionTrade
trade_out t = record { quantity = t.quantity; bid = t.bid; ask = t.ask; tick = t.tick }

-- the quantities of the market orders
abbrev pub market_out : LadderView → AuctionMarketOrders
market_out ladder = record { bids = ladder.market_bids; asks = ladder.market_asks }

-- the auction whose call phase it is, 0 after the day
abbrev pub current_auction_out : Option AuctionKind → ℕ
current_auction_out None = 0
current_auction_out (Some kind) = auction_kind_out kind

-- where the day is, of which these last calls are the operator's
abbrev pub state_out : ℕ → RunningAuction → AuctionDayState
state_out reserve a = record {
  reference = a.state.reference;
  calls = a.calls;
  calls_left = a.config.max_calls - a.calls;
  calls_left_to_members = a.config.max_calls - a.calls - reserve;
  auction = current_auction_out a.state.auction;
  in_call = flag_out (is_some a.state.auction);
  extended = flag_out a.state.extended;
}

abbrev pub config_out : Config → ℕ → AuctionConfig
config_out c reserve = record {
  low = c.low;
  high = c.high;
  reference = c.reference;
  max_open = c.max_open;
  max_calls = c.max_calls;
  has_range = flag_out (is_some c.range);
  range = unwrap_or c.range 0;
  has_reserve = 1;
  reserve = reserve;
}

-- a command of a member with this tag and id, and 0 in all else
abbrev pub command_tagged : ℕ → ℕ → ℕ → AuctionCommand
command_tagged member tag id = record {
  quantity = 0;
  peak = 0;
  client = 0;
  id = id;
  limit = 0;
  member = member;
  tag = tag;
  side = 0;
  restriction = 0;
  has_limit = 0;
  has_peak = 0;
}

-- an enter of a member as a struct
abbrev pub enter_out : ℕ → Side → Restriction → Limit → ℕ → Option ℕ → AuctionCommand
enter_out member side restriction limit quantity peak = record (command_tagged member 1 0) {
  side = side_out side;
  restriction = restriction_out restriction;
  has_limit = flag_out (is_some (tick_of limit));
  limit = unwrap_or (tick_of limit) 0;
  quantity = quantity;
  has_peak = flag_out (is_some peak);
  peak = unwrap_or peak 0;
}

-- a member's command as a struct
abbrev pub command_out : ℕ → Command → AuctionCommand
command_out member (Enter side restriction limit quantity peak) =
    enter_out member side restriction limit quantity peak
command_out member (Change id limit quantity) = record (command_tagged member 2 id) {
  has_limit = flag_out (is_some (tick_of limit));
  limit = unwrap_or (tick_of limit) 0;
  quantity = quantity;
}
command_out member (Delete id) = command_tagged member 3 id
command_out member (OrderStatus id) = command_tagged member 4 id
command_out member Indicate = command_tagged member 5 0
command_out member (ReadTrade number) = command_tagged member 6 number
command_out member Uncross = command_tagged member 7 0

abbrev pub entry_out : Entry → AuctionEntry
entry_out e = record { command = command_out e.member e.command; reply = reply_out e.reply }
