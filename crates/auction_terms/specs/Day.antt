-- The day: its state, what each command comes to, replay and lawful histories.
use Rattle.std.specs.Prelude.{◌≡◌, ℕ, ◌+◌, ◌-◌, ◌≤◌, ◌==◌, nat_le, nat_lt, min, Bool, true, false, not, ◌&&◌, ◌||◌}
use Rattle.std.specs.Prelude.{if◌then◌else◌, List, [], ◌∷◌, ◌++◌, filter, map, length, slice_get, Option, Some, None}
use Rattle.std.specs.Prelude.{is_some, Result, Ok, Err, ok_or}
use Rattle.std.specs.Int.{abs_diff}
use Rattle.std.specs.Option.{option_map_or}
use Rattle.auction_terms.specs.declared.limits.TheConstants.{MAX_QUANTITY}
use Rattle.auction_terms.specs.declared.Order.{Order}
use Rattle.auction_terms.specs.declared.NewOrder.{NewOrder}
use Rattle.auction_terms.specs.declared.Trade.{Trade}
use Rattle.auction_terms.specs.declared.Price.{Price}
use Rattle.auction_terms.specs.declared.Config.{Config}
use Rattle.auction_terms.specs.declared.Entry.{Entry}
use Rattle.auction_terms.specs.declared.Restriction.{Restriction}
use Rattle.auction_terms.specs.declared.Restriction.TheVariants as restriction
use Rattle.auction_terms.specs.declared.Limit.{Limit}
use Rattle.auction_terms.specs.declared.Limit.TheVariants.{Market, At}
use Rattle.auction_terms.specs.declared.AuctionKind.{AuctionKind}
use Rattle.auction_terms.specs.declared.AuctionKind.TheVariants.{Opening, Intraday, Closing}
use Rattle.auction_terms.specs.declared.Display.{Display}
use Rattle.auction_terms.specs.declared.Display.TheVariants.{Priced, Unpriced}
use Rattle.auction_terms.specs.declared.Call.{Call}
use Rattle.auction_terms.specs.declared.Command.{Command}
use Rattle.auction_terms.specs.declared.Command.TheVariants as command
use Rattle.auction_terms.specs.declared.Refusal.{Refusal}
use Rattle.auction_terms.specs.declared.Refusal.TheVariants as refused
use Rattle.auction_terms.specs.declared.Reply.{Reply}
use Rattle.auction_terms.specs.declared.Reply.TheVariants as reply
use Rattle.auction_terms.specs.Results.{◌>>=◌}
use Rattle.auction_terms.specs.Book.{limits, is_bid, is_ask, is_market, auction_orders, current_kind, order_of_new}
use Rattle.auction_terms.specs.AuctionPrice.{price, highest, lowest}
use Rattle.auction_terms.specs.Edits.{order_with, keeps_place, with_terms, changed_at, without_id, without_restricted}
use Rattle.auction_terms.specs.Allotment.{trades, rest_in}

-- no auction: the day is over; extended: the current call phase was extended by an interruption
pub record State : Type 0 where
  pub book : List Order
  pub reference : ℕ
  pub next_id : ℕ
  pub tape : List Trade
  pub auction : Option AuctionKind
  pub extended : Bool

abbrev pub opening_state : Config → State
opening_state config = record {
  book = [];
  reference = config.reference;
  next_id = 1;
  tape = [];
  auction = Some Opening;
  extended = false;
}

abbrev pub next_auction : AuctionKind → Option AuctionKind
next_auction Opening = Some Intraday
next_auction Intraday = Some Closing
next_auction Closing = None

-- what is shown of a book at this price
abbrev pub display_of : List Order → Option Price → Display
display_of book (Some priced) = Priced priced
display_of book None = Unpriced (highest (limits (filter is_bid book))) (lowest (limits (filter is_ask book)))

-- what is shown of the orders that count, at the reference
abbrev pub display_at : List Order → ℕ → Display
display_at book reference = display_of book (price book reference)

unfoldable pub display : State → Display
display state = display_at (auction_orders state.book (current_kind state.auction)) state.reference

-- ---- what a command comes to: why it is refused, or the new state with the reply

abbrev pub Outcome : Type 0
Outcome = Result (State × Reply) Refusal

-- refused for this reason, where the check holds
abbrev pub refuse_if : Bool → Refusal → Result (Unit {0}) Refusal
refuse_if check reason = if check then Err reason else Ok tt

-- the current auction, until the day is over
abbrev pub current_auction : State → Result AuctionKind Refusal
current_auction state = ok_or state.auction refused.DayOver

-- the order, if it is this member's
abbrev pub owned_by : ℕ → Option Order → Option Order
owned_by member None = None
owned_by member (Some order) = if order.member == member then Some order else None

-- the member's own open order with this id
abbrev pub own_order : State → ℕ → ℕ → Result Order Refusal
own_order state member id = ok_or (owned_by member (order_with id state.book)) refused.UnknownOrder

abbrev pub is_bad_quantity : ℕ → Bool
is_bad_quantity quantity = (quantity == 0) || nat_lt MAX_QUANTITY quantity

abbrev pub is_bad_limit : Config → Limit → Bool
is_bad_limit config Market = false
is_bad_limit config (At tick) = nat_lt tick config.low || nat_lt config.high tick

-- the peak of a new order: an iceberg order shows something, no more than it has, and has a limit
abbrev pub is_bad_peak : Limit → ℕ → Option ℕ → Bool
is_bad_peak limit quantity None = false
is_bad_peak limit quantity (Some peak) = (peak == 0) || nat_lt quantity peak || is_market limit

-- an order for the opening auction alone, when that has been
abbrev pub is_past : AuctionKind → Restriction → Bool
is_past kind restriction.Unrestricted = false
is_past Opening restriction.OpeningOnly = false
is_past Intraday restriction.OpeningOnly = true
is_past Closing restriction.OpeningOnly = true
is_past kind restriction.ClosingOnly = false

-- a new order goes last in time, under the next id
unfoldable pub enter : Config → State → NewOrder → Outcome
enter config state new = do
  kind ← current_auction state
  _ ← refuse_if (is_bad_quantity new.quantity) refused.BadQuantity
  _ ← refuse_if (is_bad_limit config new.limit) refused.BadLimit
  _ ← refuse_if (is_bad_peak new.limit new.quantity new.peak) refused.BadPeak
  _ ← refuse_if (is_past kind new.restriction) refused.PastAuction
  _ ← refuse_if (nat_le config.max_open (length state.book)) refused.BookFull
  Ok (
    record state { book = state.book ++ order_of_new state.next_id new ∷ []; next_id = state.next_id + 1 },
    reply.Entered state.next_id,
  )

-- an iceberg order that would lose its limit
abbrev pub loses_limit : Order → Limit → Bool
loses_limit order limit = is_some order.peak && is_market limit

-- the order at its place, or at the end of the list: there where it has another limit or more quantity
abbrev pub book_with_change : List Order → Order → Limit → ℕ → List Order
book_with_change book order limit quantity =
    if keeps_place order limit quantity
    then changed_at order.id (with_terms limit quantity) book
    else without_id order.id book ++ with_terms limit quantity order ∷ []

-- the order gets this limit and open quantity; only a member's own order can have lost its limit
unfoldable pub change : Config → State → ℕ → ℕ → Limit → ℕ → Outcome
change config state member id limit quantity = do
  _ ← current_auction state
  _ ← refuse_if (is_bad_quantity quantity) refused.BadQuantity
  _ ← refuse_if (is_bad_limit config limit) refused.BadLimit
  order ← own_order state member id
  _ ← refuse_if (loses_limit order limit) refused.BadPeak
  Ok (
    record state { book = book_with_change state.book order limit quantity },
    reply.Changed (keeps_place order limit quantity),
  )

-- the order leaves the book
unfoldable pub delete : State → ℕ → ℕ → Outcome
delete state member id = do
  _ ← current_auction state
  _ ← own_order state member id
  Ok (record state { book = without_id id state.book }, reply.Deleted)

-- the lesser of peak and open quantity
abbrev pub visible_of : Order → ℕ
visible_of order = option_map_or (min order.quantity) order.peak order.quantity

-- what is open of the order, also after the day
unfoldable pub order_status : State → ℕ → ℕ → Outcome
order_status state member id = do
  order ← own_order state member id
  Ok (state, reply.OpenOrder order.side order.limit order.quantity (visible_of order))

unfoldable pub indicate : State → Outcome
indicate state = do
  _ ← current_auction state
  Ok (state, reply.Indicated (display state))

-- the trade of the day with this number, from 1 on
abbrev pub trade_at : List Trade → ℕ → Option Trade
trade_at tape number = if number == 0 then None else slice_get tape (number - 1)

unfoldable pub read_trade : State → ℕ → Outcome
read_trade state number = do
  found ← ok_or (trade_at state.tape number) refused.NoSuchTrade
  Ok (state, reply.Traded found)

-- a tick more than the range away from the reference
abbrev pub is_outside : Option ℕ → ℕ → ℕ → Bool
is_outside None reference tick = false
is_outside (Some range) reference tick = nat_lt range (abs_diff tick reference)

-- the first price of a call phase that lies outside the range
abbrev pub is_interrupted : Config → State → ℕ → Bool
is_interrupted config state tick = not state.extended && is_outside config.range state.reference tick

-- the auction ends without a price
abbrev pub end_without_price : State → AuctionKind → State × Reply
end_without_price state kind = (
  record state { book = without_restricted kind state.book; auction = next_auction kind; extended = false },
  reply.Uncrossed kind 0 None,
)

-- the auction ends at this price: trades, what is left, and the new reference
abbrev pub end_at_price : State → AuctionKind → Price → State × Reply
end_at_price state kind priced = (
  record state {
    book = without_restricted kind (rest_in kind state.book priced.tick);
    reference = priced.tick;
    tape = state.tape ++ trades (auction_orders state.book kind) priced.tick;
    auction = next_auction kind;
    extended = false;
  },
  reply.Uncrossed kind (length (trades (auction_orders state.book kind) priced.tick)) (Some priced),
)

-- the end of a call phase, with this price or none; an interruption executes nothing, and the phase goes on
abbrev pub end_call_phase : Config → State → AuctionKind → Option Price → State × Reply
end_call_phase config state kind None = end_without_price state kind
end_call_phase config state kind (Some priced) =
    if is_interrupted config state priced.tick
    then (record state { extended = true }, reply.Interrupted priced)
    else end_at_price state kind priced

-- the operator alone ends a call phase
unfoldable pub uncross : Config → State → ℕ → Outcome
uncross config state member = do
  kind ← current_auction state
  _ ← refuse_if (not (member == 0)) refused.NotOperator
  Ok (end_call_phase config state kind (price (auction_orders state.book kind) state.reference))

-- ---- a call

-- what the member's command comes to
unfoldable pub decide : Config → State → ℕ → Command → Outcome
decide config state member (command.Enter side restriction limit quantity peak) =
    enter config state (record {
      member = member;
      side = side;
      restriction = restriction;
      limit = limit;
      quantity = quantity;
      peak = peak;
    })
decide config state member (command.Change id limit quantity) = change config state member id limit quantity
decide config state member (command.Delete id) = delete state member id
decide config state member (command.OrderStatus id) = order_status state member id
decide config state member command.Indicate = indicate state
decide config state member (command.ReadTrade number) = read_trade state number
decide config state member command.Uncross = uncross config state member

-- a refused command leaves the state as it was
abbrev pub state_with_reply : State → Outcome → State × Reply
state_with_reply state (Ok done) = done
state_with_reply state (Err reason) = (state, reply.Refused reason)

-- the new state and the reply
unfoldable pub step : Config → State → Call → State × Reply
step config state call = state_with_reply state (decide config state call.member call.command)

-- an uncross that was accepted, an interrupted one too
abbrev pub is_uncross_reply : Reply → Bool
is_uncross_reply (reply.Entered id) = false
is_uncross_reply (reply.Changed kept) = false
is_uncross_reply reply.Deleted = false
is_uncross_reply (reply.OpenOrder side limit quantity visible) = false
is_uncross_reply (reply.Indicated display) = false
is_uncross_reply (reply.Traded trade) = false
is_uncross_reply (reply.Uncrossed kind trades price) = true
is_uncross_reply (reply.Interrupted price) = true
is_uncross_reply (reply.Refused reason) = false

-- ---- whole runs

abbrev pub state_after : Config → State → List Call → State
state_after config state [] = state
state_after config state (call ∷ calls) = state_after config (step config state call).0 calls

abbrev pub replies_from : Config → State → List Call → List Reply
replies_from config state [] = []
replies_from config state (call ∷ calls) =
    (step config state call).1 ∷ replies_from config (step config state call).0 calls

-- the state and the replies from the opening on
abbrev pub replay : Config → List Call → State × List Reply
replay config calls =
    (state_after config (opening_state config) calls, replies_from config (opening_state config) calls)

abbrev pub call_of : Entry → Call
call_of entry = record { member = entry.member; command = entry.command }

abbrev pub calls_of : List Entry → List Call
calls_of entries = map call_of entries

-- at most as many entries as may be recorded, with the replies of the replay
pub record IsLegal (config : Config) (entries : List Entry) : Type 0 where
  pub few : length entries ≤ config.max_calls
  pub replies : map (λ entry. entry.reply) entries ≡ (replay config (calls_of entries)).1
