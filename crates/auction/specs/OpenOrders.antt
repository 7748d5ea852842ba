-- The open orders, and the auction whose orders count.
use Rattle.std.specs.Prelude.{◌≡◌, ℕ, ◌+◌, ◌-◌, ◌==◌, Bool, ◌&&◌, if◌then◌else◌, List, [], ◌∷◌, ◌++◌, Some}
use Rattle.auction_terms.specs.declared.Config.{Config}
use Rattle.auction_terms.specs.declared.AuctionKind.{AuctionKind}
use Rattle.auction_terms.specs.declared.AuctionKind.TheVariants.{Opening}
use Rattle.auction_terms.specs.declared.Limit.{Limit}
use Rattle.auction_terms.specs.declared.Limit.TheVariants.{At}
use Rattle.auction_terms.specs.declared.Order.{Order}
use Rattle.auction_terms.specs.Allotment.{rest_in}
use Rattle.auction_terms.specs.Book.{auction_orders, current_kind}
use Rattle.auction_terms.specs.Day.{book_with_change, next_auction}
use Rattle.auction_terms.specs.Edits.{order_with, without_id, without_restricted, keeps_place}
use Rattle.auction_terms.specs.Ladder.{IsTickOf}

pub record OpenOrders : Type 0 where
  pub orders : List Order
  -- the auction that the ladder is of
  pub kind : AuctionKind
  pub low : ℕ
  pub ticks : ℕ
  -- how many orders were entered, and how many places in time were given out
  pub entered : ℕ
  pub stamps : ℕ
  pub max_open : ℕ
  pub max_calls : ℕ

abbrev pub no_orders : Config → OpenOrders
no_orders config = record {
  orders = [];
  kind = Opening;
  low = config.low;
  ticks = config.high + 1 - config.low;
  entered = 0;
  stamps = 0;
  max_open = config.max_open;
  max_calls = config.max_calls;
}

-- the same room with no orders and none entered, in the opening auction
abbrev pub without_orders : OpenOrders → OpenOrders
without_orders book = record book { orders = []; kind = Opening; entered = 0; stamps = 0 }

-- as many orders may be open and as many calls be had, and the ticks are the same
abbrev pub HasSameTicksAndRoom : OpenOrders → OpenOrders → Type 0
HasSameTicksAndRoom book other =
    (other.low ≡ book.low) × (other.ticks ≡ book.ticks)
    × (other.max_open ≡ book.max_open) × (other.max_calls ≡ book.max_calls)

-- the same bounds, and room for as many orders and calls
abbrev pub has_same_limits : Config → Config → Bool
has_same_limits config other =
    (config.low == other.low) && (config.high == other.high)
    && (config.max_open == other.max_open) && (config.max_calls == other.max_calls)

-- the orders that count
abbrev pub counted_orders : OpenOrders → List Order
counted_orders book = auction_orders book.orders book.kind

-- the limit is none, or one of the ticks
abbrev pub IsLimitIn : OpenOrders → Limit → Type 0
IsLimitIn book limit = IsTickOf book.low book.ticks limit

abbrev pub IsTickIn : OpenOrders → ℕ → Type 0
IsTickIn book tick = IsLimitIn book (At tick)

-- the order is open, as it is
abbrev pub IsOpenIn : List Order → Order → Type 0
IsOpenIn orders order = order_with order.id orders ≡ Some order

-- ---- after each edit

-- an order entered, last in time
abbrev pub with_order : Order → OpenOrders → OpenOrders
with_order order book = record book {
  orders = book.orders ++ order ∷ [];
  entered = book.entered + 1;
  stamps = book.stamps + 1;
}

-- an order changed: it has a stamp of its own where it goes last in time
abbrev pub with_change : Order → Limit → ℕ → OpenOrders → OpenOrders
with_change order limit quantity book = record book {
  orders = book_with_change book.orders order limit quantity;
  stamps = if keeps_place order limit quantity then book.stamps else book.stamps + 1;
}

abbrev pub without_order : Order → OpenOrders → OpenOrders
without_order order book = record book { orders = without_id order.id book.orders }

-- the orders that count executed at a price
abbrev pub with_execution_at : ℕ → OpenOrders → OpenOrders
with_execution_at price book = record book { orders = rest_in book.kind book.orders price }

-- without the orders for this auction alone
abbrev pub without_restricted_orders : OpenOrders → OpenOrders
without_restricted_orders book = record book { orders = without_restricted book.kind book.orders }

-- the auction ended, and the next begun
abbrev pub in_next_auction : OpenOrders → OpenOrders
in_next_auction book = record (without_restricted_orders book) { kind = current_kind (next_auction book.kind) }
