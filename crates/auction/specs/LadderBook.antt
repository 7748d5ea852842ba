-- The open orders with the ladder of those that count, and what they keep.
use Rattle.std.specs.Prelude.{◌≡◌, ◌≢◌, ℕ, ◌+◌, ◌≤◌, false, if◌then◌else◌, List, All, length}
use Rattle.std.specs.Prelude.{Option, Some, None, IfSome}
use Rattle.auction_terms.specs.declared.limits.TheConstants.{MAX_OPEN_ORDERS, MAX_TOTAL}
use Rattle.auction_terms.specs.declared.Order.{Order}
use Rattle.auction_terms.specs.declared.Stamped.{Stamped}
use Rattle.auction_terms.specs.declared.AuctionKind.{AuctionKind}
use Rattle.auction_terms.specs.declared.AuctionKind.TheVariants.{Closing}
use Rattle.auction_terms.specs.Book.{participates_in, auction_orders, is_restricted_to}
use Rattle.auction_terms.specs.Edits.{without_restricted}
use Rattle.auction_terms.specs.Auxiliary.OrderLists.{IsOrderly}
use Rattle.auction_terms.specs.Auxiliary.StampedOrders.{orders_of, IsLineOf}
use Rattle.auction_terms.specs.Ladder.{LadderView, ladder_of, with_added, with_removed, IsTickOf}
use Rattle.tick_ladder.specs.TickLadder.{total_quantity}
use Rattle.order_book.specs.Orders.{OrdersView as Orders, present, slot_at}
use Rattle.auction.specs.OpenOrders.{OpenOrders}

-- the open orders, in time order with their stamps too, and the places of a walk through them
pub record LadderBookView : Type 0 where
  pub book : OpenOrders
  pub line : List Stamped
  pub slots : List (Option Stamped)

abbrev pub open_orders : Orders → LadderView → AuctionKind → OpenOrders
open_orders orders ladder kind = record {
  orders = orders_of orders.line;
  kind = kind;
  low = ladder.low;
  ticks = length ladder.bids;
  entered = orders.entered;
  stamps = orders.stamps;
  max_open = orders.max_open;
  max_calls = orders.max_calls;
}

abbrev pub ladder_book_view : Orders → LadderView → AuctionKind → LadderBookView
ladder_book_view orders ladder kind = record {
  book = open_orders orders ladder kind;
  line = orders.line;
  slots = orders.slots;
}

-- ---- what is kept

-- the orders are in order, with all limits among the ticks, and the ladder is that of those that count
pub record HasLadder (low ticks : ℕ) (kind : AuctionKind) (book : List Order) (ladder : LadderView) : Type 0 where
  pub orderly : IsOrderly book
  pub within : All (λ order. IsTickOf low ticks order.limit) book
  pub same : ladder ≡ ladder_of low ticks (auction_orders book kind)

-- no more orders than there is room for
pub record IsLadderBook (orders : Orders) (ladder : LadderView) (kind : AuctionKind) : Type 0 where
  pub kept : HasLadder ladder.low (length ladder.bids) kind (orders_of orders.line) ladder
  pub few : length (orders_of orders.line) ≤ orders.max_open
  pub small : orders.max_open ≤ MAX_OPEN_ORDERS

-- ---- the ladder, order by order

-- the ladder with an order more, if that counts
abbrev pub ladder_with : AuctionKind → Order → LadderView → LadderView
ladder_with kind order ladder =
    if participates_in kind order then with_added ladder order.side order.limit order.quantity else ladder

-- the ladder with `quantity` less of an order, if that counts
abbrev pub ladder_less : AuctionKind → Order → ℕ → LadderView → LadderView
ladder_less kind order quantity ladder =
    if participates_in kind order then with_removed ladder order.side order.limit quantity else ladder

-- the ladder with an order more, if there is one and it is for the closing auction alone
abbrev pub with_closing : Option Stamped → LadderView → LadderView
with_closing None ladder = ladder
with_closing (Some s) ladder =
    if is_restricted_to Closing s.order.restriction then with_added ladder s.order.side s.order.limit s.order.quantity
    else ladder

-- `quantity` more shares are no more than a ladder holds
abbrev pub FitsIn : LadderView → ℕ → Type 0
FitsIn ladder quantity = total_quantity ladder + quantity ≤ MAX_TOTAL

-- ---- a walk through the orders

-- the places have the open orders
pub record HasAllOrders (book : LadderBookView) : Type 0 where
  pub orders : orders_of book.line ≡ book.book.orders
  pub places : IsLineOf (present book.slots) book.line

-- what is at a place was there before
abbrev pub AddsNoOrder : LadderBookView → LadderBookView → Type 0
AddsNoOrder old new = (place : ℕ) → IfSome (slot_at new.slots place) (λ s. slot_at old.slots place ≡ Some s)

-- no order with this id is at a place
abbrev pub HasNoOrderWith : ℕ → LadderBookView → Type 0
HasNoOrderWith id book = (place : ℕ) → IfSome (slot_at book.slots place) (λ s. s.order.id ≢ id)

-- no order for this auction alone is at the place
abbrev pub HasNoRestrictedAt : LadderBookView → ℕ → Type 0
HasNoRestrictedAt book place =
    IfSome (slot_at book.slots place) (λ s. is_restricted_to book.book.kind s.order.restriction ≡ false)

-- the same orders stay after the auction, and nothing but orders has changed
pub record HasSameStaying (old new : OpenOrders) : Type 0 where
  pub stay : without_restricted old.kind new.orders ≡ without_restricted old.kind old.orders
  pub rest : new ≡ record old { orders = new.orders }
