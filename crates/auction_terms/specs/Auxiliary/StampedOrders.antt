-- Orders with stamps, by rising stamps.
use Rattle.std.specs.Prelude.{ℕ, List, map, filter, sum_by}
use Rattle.auction_terms.specs.declared.Order.{Order}
use Rattle.auction_terms.specs.declared.Stamped.{Stamped}
use Rattle.auction_terms.specs.declared.AuctionKind.{AuctionKind}
use Rattle.auction_terms.specs.Book.{participates_in}
use Rattle.auction_terms.specs.Auxiliary.Sort.{SameItems}
use Rattle.auction_terms.specs.Allotment.{PlacedOrder}
use Rattle.auction_terms.specs.Auxiliary.Sort.{PlacesRise}

abbrev pub order_of : Stamped → Order
order_of s = s.order

-- a change of the order alone
abbrev pub on_order : (Order → Order) → Stamped → Stamped
on_order change s = record s { order = change s.order }

-- a change of the order, which gets this stamp
abbrev pub under_stamp : ℕ → (Order → Order) → Stamped → Stamped
under_stamp stamp change s = record { order = change s.order; stamp = stamp }

-- an order with its stamp as its place
abbrev pub placed_by_stamp : Stamped → PlacedOrder
placed_by_stamp s = (s.stamp, s.order)

-- the line has the orders of the walk, by rising stamps
pub record IsLineOf (walk line : List Stamped) : Type 0 where
  pub rising : PlacesRise (map placed_by_stamp line)
  pub same : SameItems line walk

-- what is open of all of them, in shares
abbrev pub open_quantity_of : List Stamped → ℕ
open_quantity_of line = sum_by (λ s. s.order.quantity) line

abbrev pub orders_of : List Stamped → List Order
orders_of line = map order_of line

-- those that count in the auction
abbrev pub auction_line : List Stamped → AuctionKind → List Stamped
auction_line line kind = filter (λ s. participates_in kind s.order) line
