-- What a contract sees of the open orders, and what each call makes of it.
use Rattle.std.specs.Prelude.{◌≡◌, ◌≢◌, ℕ, ◌+◌, ◌-◌, ◌<◌, ◌≤◌, Bool, List, [], ◌∷◌, ◌++◌, length, if◌then◌else◌}
use Rattle.std.specs.Prelude.{Option, Some, None, IfSome, slice_index, slice_index_or, vec_capacity}
use Rattle.std.specs.Global.{Vec}
use Rattle.std.specs.List.{filter_map}
use Rattle.std.specs.Ordering.{nat_cmp}
use Rattle.std.specs.declared.cmp.Ordering.{Ordering}
use Rattle.slab.specs.Slab.{Slab, slab_len}
use Rattle.auction_terms.specs.declared.limits.TheConstants.{MAX_CALLS, MAX_OPEN_ORDERS, MAX_QUANTITY, MAX_TOTAL}
use Rattle.order_book.specs.declared.slots.TheConstants.{MAX_KEY}
use Rattle.auction_terms.specs.declared.Order.{Order}
use Rattle.auction_terms.specs.declared.Limit.{Limit}
use Rattle.auction_terms.specs.declared.Stamped.{Stamped}
use Rattle.auction_terms.specs.Edits.{find_by, changed_by, with_terms, less_quantity}
use Rattle.auction_terms.specs.Auxiliary.OrderLists.{moved_by, left_by, IsOrderly}
use Rattle.auction_terms.specs.Auxiliary.Sort.{in_order}
use Rattle.auction_terms.specs.Auxiliary.StampedOrders.{order_of, orders_of, on_order, under_stamp, open_quantity_of}
use Rattle.auction_terms.specs.Auxiliary.StampedOrders.{IsLineOf}
use Rattle.order_book.specs.Packing.{HasShortPeak}

-- the open orders in time order, with their stamps; the places that a walk goes through; how many
-- stamps and ids were given out
pub record OrdersView : Type 0 where
  pub line : List Stamped
  pub slots : List (Option Stamped)
  pub stamps : ℕ
  pub entered : ℕ
  pub max_open : ℕ
  pub max_calls : ℕ

abbrev pub by_stamp : Stamped → Stamped → Ordering
by_stamp x y = nat_cmp x.stamp y.stamp

abbrev pub slot_at : List (Option Stamped) → ℕ → Option Stamped
slot_at slots key = slice_index_or slots key None

-- the orders at the places
abbrev pub present : List (Option Stamped) → List Stamped
present slots = filter_map (λ slot. slot) slots

-- by rising stamps
unfoldable pub line_of : List (Option Stamped) → List Stamped
line_of slots = in_order by_stamp (present slots)

-- the open order with this id
abbrev pub open_order : List Stamped → ℕ → Option Stamped
open_order line id = find_by order_of id line

-- ---- what the calls make of it

-- the line with an order more, under the next stamp
abbrev pub with_last : OrdersView → Order → List Stamped
with_last orders order = orders.line ++ record { order = order; stamp = orders.stamps } ∷ []

-- the line after a change: the order with the id keeps its place, or goes last, under the next stamp
abbrev pub with_changed_order : OrdersView → ℕ → Limit → ℕ → Bool → List Stamped
with_changed_order orders id limit quantity kept =
    if kept
    then changed_by order_of id (on_order (with_terms limit quantity)) orders.line
    else moved_by order_of id (under_stamp orders.stamps (with_terms limit quantity)) orders.line

-- the line after an execution of the order with the id
abbrev pub with_less : OrdersView → ℕ → ℕ → List Stamped
with_less orders id quantity = left_by order_of (changed_by order_of id (on_order (less_quantity quantity)) orders.line)

-- no orders, and none entered
abbrev pub cleared_orders : OrdersView → OrdersView
cleared_orders orders = record orders { line = []; slots = []; stamps = 0; entered = 0 }

-- as many orders may be open, and as many calls be had
abbrev pub HasSameRoom : OrdersView → OrdersView → Type 0
HasSameRoom orders other = (other.max_open ≡ orders.max_open) × (other.max_calls ≡ orders.max_calls)

-- they differ in the places of the walk at most
abbrev pub IsSameButWalk : OrdersView → OrdersView → Type 0
IsSameButWalk orders other = other ≡ record orders { slots = other.slots }

-- nothing has changed but the line, and the places of the walk
abbrev pub OnlyLineChanges : OrdersView → OrdersView → Type 0
OnlyLineChanges old new = new ≡ record old { line = new.line; slots = new.slots }

-- an id was given out too, with a stamp
abbrev pub GivesId : OrdersView → OrdersView → Type 0
GivesId old new =
    new ≡ record old { line = new.line; slots = new.slots; stamps = old.stamps + 1; entered = old.entered + 1 }

-- a stamp was given out too, but where the place was kept
abbrev pub GivesStampUnless : Bool → OrdersView → OrdersView → Type 0
GivesStampUnless kept old new =
    new ≡ record old { line = new.line; slots = new.slots; stamps = (if kept then old.stamps else old.stamps + 1) }

-- what is at a place was there before, and has another id
abbrev pub HasOnlyOthers : ℕ → OrdersView → OrdersView → Type 0
HasOnlyOthers id old new =
    (place : ℕ) → IfSome (slot_at new.slots place) (λ s. (slot_at old.slots place ≡ Some s) × (s.order.id ≢ id))

-- a walk through `places` places passes the orders of the line, each with an id of its own and something open
pub record PassesAllOrders (places : ℕ) (orders : OrdersView) : Type 0 where
  pub all : length orders.slots ≤ places
  pub line : IsLineOf (present orders.slots) orders.line
  pub bounded : open_quantity_of orders.line ≤ MAX_TOTAL
  pub orderly : IsOrderly (orders_of orders.line)

-- ---- what is kept of the fields

-- it is at this key, which is the key of its id, and its stamp was given out
pub record IsStoredAt (keys : List ℕ) (stamps key : ℕ) (s : Stamped) : Type 0 where
  pub id_above : 0 < s.order.id
  pub id_within : s.order.id ≤ length keys
  pub key_is : slice_index keys (s.order.id - 1) ≡ key
  pub stamp : s.stamp < stamps
  pub positive : 0 < s.order.quantity
  pub bounded : s.order.quantity ≤ MAX_QUANTITY

-- each order is held, and no two have one stamp
pub record HasSoundSlots (slots : List (Option Stamped)) (keys : List ℕ) (stamps : ℕ) : Type 0 where
  pub held : (key : ℕ) (s : Stamped) → slot_at slots key ≡ Some s → IsStoredAt keys stamps key s
  pub apart :
      (i j : ℕ) (s t : Stamped) →
      slot_at slots i ≡ Some s →
      slot_at slots j ≡ Some t →
      s.stamp ≡ t.stamp →
      i ≡ j

-- each of its keys can be kept
abbrev pub HasKeys : Slab Stamped → Type 0
HasKeys orders = orders.capacity ≤ MAX_KEY

-- the room that was made, and how much of it is used
pub record HasRoomForOrders (orders : Slab Stamped) (keys : Vec ℕ) (stamps max_open max_calls : ℕ) : Type 0 where
  pub few : slab_len orders ≤ max_open
  pub small : max_open ≤ MAX_OPEN_ORDERS
  pub capacity : max_open ≤ orders.capacity
  pub keyed : HasKeys orders
  pub ids : length keys.items ≤ stamps
  pub calls : stamps ≤ max_calls
  pub keys_room : max_calls ≤ vec_capacity keys
  pub few_calls : max_calls ≤ MAX_CALLS

-- ---- an order by its id

-- the order with this id is at the key
pub record IsOrderAt (slots : List (Option Stamped)) (id key : ℕ) (s : Stamped) : Type 0 where
  pub stands : slot_at slots key ≡ Some s
  pub same_id : s.order.id ≡ id
  pub short : HasShortPeak s.order.peak

-- some order with this id is at the key
pub record HasIdAt (slots : List (Option Stamped)) (key id : ℕ) : Type 0 where
  pub stamped : Stamped
  pub stands : slot_at slots key ≡ Some stamped
  pub same_id : stamped.order.id ≡ id

-- the id was given out, and the order at its key has another one; or it was not
abbrev pub IsNotAtKey : List (Option Stamped) → List ℕ → ℕ → Type 0
IsNotAtKey slots keys id =
    0 < id →
    id ≤ length keys →
    (s : Stamped) →
    slot_at slots (slice_index keys (id - 1)) ≡ Some s →
    s.order.id ≡ id →
    ⊥

-- the order with this id is at the key of the id
pub record IsOpenId (slots : List (Option Stamped)) (keys : List ℕ) (id : ℕ) : Type 0 where
  pub stamped : Stamped
  pub above : 0 < id
  pub within : id ≤ length keys
  pub stands : slot_at slots (slice_index keys (id - 1)) ≡ Some stamped
  pub same_id : stamped.order.id ≡ id
