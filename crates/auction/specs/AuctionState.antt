-- The state of an auction that answers commands, what it keeps, and what an answer comes to.
use Rattle.std.specs.Prelude.{◌≡◌, ℕ, ◌+◌, ◌-◌, ◌*◌, ◌≤◌, List, length, vec_capacity, Option, Some, None}
use Rattle.std.specs.Prelude.{Result, Ok, Err}
use Rattle.std.specs.Global.{Vec}
use Rattle.auction_terms.specs.declared.limits.TheConstants.{MAX_CALLS}
use Rattle.auction_terms.specs.declared.AuctionKind.{AuctionKind}
use Rattle.auction_terms.specs.declared.AuctionKind.TheVariants.{Opening, Intraday, Closing}
use Rattle.auction_terms.specs.declared.Config.{Config}
use Rattle.auction_terms.specs.declared.Order.{Order}
use Rattle.auction_terms.specs.declared.Call.{Call}
use Rattle.auction_terms.specs.declared.Command.{Command}
use Rattle.auction_terms.specs.declared.Refusal.{Refusal}
use Rattle.auction_terms.specs.declared.Reply.{Reply}
use Rattle.auction_terms.specs.declared.Trade.{Trade}
use Rattle.auction_terms.specs.Book.{auction_orders, current_kind}
use Rattle.auction_terms.specs.Day.{State, opening_state, Outcome}
use Rattle.auction_terms.specs.Ladder.{LadderView, ladder_of}
use Rattle.auction.specs.Executions.{AreSmall}
use Rattle.auction.specs.OpenOrders.{OpenOrders}

-- with how many places in time were given out
pub record AuctionState : Type 0 where
  pub config : Config
  pub state : State
  pub stamps : ℕ

abbrev pub opening : Config → AuctionState
opening config = record { config = config; state = opening_state config; stamps = 0 }

abbrev pub with_state : AuctionState → State → AuctionState
with_state auction state = record auction { state = state }

-- the orders that count in the current auction
abbrev pub current_orders : State → List Order
current_orders state = auction_orders state.book (current_kind state.auction)

-- the ladder of a book over the bounds
abbrev pub ladder_over : Config → List Order → LadderView
ladder_over config book = ladder_of config.low (config.high + 1 - config.low) book

-- the tick is one of the bounds
abbrev pub IsBoundedBy : Config → ℕ → Type 0
IsBoundedBy config tick = (config.low ≤ tick) × (tick ≤ config.high)

-- ---- what is kept

-- how many auctions have ended
abbrev pub auctions_ended : Option AuctionKind → ℕ
auctions_ended None = 3
auctions_ended (Some Opening) = 0
auctions_ended (Some Intraday) = 1
auctions_ended (Some Closing) = 2

-- the book has the bounds and the limits of the config, and is of the current auction
pub record IsBookOf (config : Config) (auction : Option AuctionKind) (book : OpenOrders) : Type 0 where
  pub low : book.low ≡ config.low
  pub ticks : book.ticks ≡ config.high + 1 - config.low
  pub max_open : book.max_open ≡ config.max_open
  pub max_calls : book.max_calls ≡ config.max_calls
  pub kind : book.kind ≡ current_kind auction
  pub few : length book.orders ≤ config.max_open

-- the reference lies within the bounds, and the tape has room for the trades of the day
pub record IsSoundDay (config : Config) (auction : Option AuctionKind) (book : OpenOrders) (at : ℕ) (tape : Vec Trade)
    : Type 0 where
  pub same : IsBookOf config auction book
  pub reference : IsBoundedBy config at
  -- no auction makes more trades than there were open orders
  pub trades : length tape.items ≤ auctions_ended auction * config.max_open
  pub room : 3 * config.max_open ≤ vec_capacity tape
  pub small : AreSmall tape.items

-- no place in time was given out but by a call, and no more calls were had than may be
pub record HasCallCount (auction : AuctionState) (calls : ℕ) : Type 0 where
  pub stamps : auction.stamps ≤ calls
  pub within : calls ≤ auction.config.max_calls
  pub few : auction.config.max_calls ≤ MAX_CALLS

-- ---- what an answer comes to

abbrev pub call_by : ℕ → Command → Call
call_by member command = record { member = member; command = command }

-- the reply with the state that it left, or why there is none
abbrev pub outcome : AuctionState → Reply → Result (Unit {0}) Refusal → Outcome
outcome auction reply (Ok done) = Ok (auction.state, reply)
outcome auction reply (Err reason) = Err reason

-- a command leaves the config, and gives out one place in time at most
pub record IsOneCommand (old new : AuctionState) : Type 0 where
  pub config : new.config ≡ old.config
  pub stamps : new.stamps ≤ old.stamps + 1
