-- Lists of orders as inner contracts speak of them: moved, executed, in order.
use Rattle.std.specs.Prelude.{◌≡◌, ◌≢◌, ℕ, ◌<◌, ◌≤◌, Bool, List, [], ◌∷◌, ◌++◌, Some, All, filter, map, nat_lt}
use Rattle.auction_terms.specs.declared.limits.TheConstants.{MAX_QUANTITY}
use Rattle.auction_terms.specs.declared.Order.{Order}
use Rattle.auction_terms.specs.declared.Fill.{Fill}
use Rattle.auction_terms.specs.Edits.{has_id, without_by, order_with, changed_at, less_quantity}

abbrev pub is_open : Order → Bool
is_open order = nat_lt 0 order.quantity

-- ---- edits of a list of what has an order

module _ {X : Type 0} (order_of : X → Order) where
  -- the list with this made of the one with the id, at its end
  abbrev pub moved_by : ℕ → (X → X) → List X → List X
  moved_by id change xs = without_by order_of id xs ++ map change (filter (λ x. has_id id (order_of x)) xs)

  -- without what has nothing left
  abbrev pub left_by : List X → List X
  left_by xs = filter (λ x. is_open (order_of x)) xs

-- ---- the same of a list of orders

abbrev pub moved_to_end : ℕ → (Order → Order) → List Order → List Order
moved_to_end id change book = moved_by (λ order. order) id change book

abbrev pub left_over : List Order → List Order
left_over book = left_by (λ order. order) book

-- an execution of the order with the id
abbrev pub book_after_fill : Fill → List Order → List Order
book_after_fill fill book = left_over (changed_at fill.id (less_quantity fill.quantity) book)

-- executions one after the other
abbrev pub book_after_fills : List Fill → List Order → List Order
book_after_fills [] book = book
book_after_fills (fill ∷ fills) book = book_after_fills fills (book_after_fill fill book)

-- ---- orders as they are in a book

abbrev pub NoneHas : ℕ → List Order → Type 0
NoneHas id [] = Unit {0}
NoneHas id (x ∷ xs) = (x.id ≢ id) × NoneHas id xs

-- no two have one id
abbrev pub IdsDiffer : List Order → Type 0
IdsDiffer [] = Unit {0}
IdsDiffer (x ∷ xs) = NoneHas x.id xs × IdsDiffer xs

-- each has an id of its own and something open
pub record IsOrderly (book : List Order) : Type 0 where
  pub ids : IdsDiffer book
  pub positive : All (λ order. 0 < order.quantity) book
  pub bounded : All (λ order. order.quantity ≤ MAX_QUANTITY) book

-- the order of a fill is open, with at least that much left
pub record IsExecutable (fill : Fill) (book : List Order) : Type 0 where
  pub order : Order
  pub found : order_with fill.id book ≡ Some order
  pub positive : 0 < fill.quantity
  pub within : fill.quantity ≤ order.quantity

-- each fill can be executed when its turn comes
abbrev pub AreExecutable : List Fill → List Order → Type 0
AreExecutable fills book =
    (done more : List Fill) (fill : Fill) → fills ≡ done ++ fill ∷ more → IsExecutable fill (book_after_fills done book)
