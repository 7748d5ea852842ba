-- An open order that was found, in the line and in the list of orders.
use Rattle.std.proofs.Common.{◌≡◌, ℕ, List, [], ◌∷◌, All, Option, Some, None, IsSome, IfSome, sym, ap, subst, ◌∙◌}
use Rattle.std.proofs.Common.{arith}
use Rattle.std.proofs.lemmas.List.Elements.{All-head, All-tail}
use Rattle.std.specs.Option.{option_map}
use Rattle.std.proofs.lemmas.Grind.{common_steps}
use Rattle.auction_terms.specs.declared.Order.{Order}
use Rattle.auction_terms.specs.declared.Stamped.{Stamped}
use Rattle.auction_terms.specs.Auxiliary.StampedOrders.{orders_of}
use Rattle.auction_terms.specs.Edits.{order_with}
use Rattle.order_book.specs.Orders.{OrdersView as Orders, open_order}
use Rattle.order_book.proofs.OrderLaws.{order_of_open}
use Rattle.auction_terms.specs.declared.AuctionKind.{AuctionKind}
use Rattle.auction_terms.specs.Ladder.{LadderView}
use Rattle.auction.specs.OpenOrders.{IsOpenIn}
use Rattle.auction.specs.LadderBook.{LadderBookView, ladder_book_view}

-- the line has it too
pub some_open : (id : ℕ) (line : List Stamped) (o : Order) → order_with id (orders_of line) ≡ Some o
    → IsSome (open_order line id)
some_open id line o found = grind (arith, common_steps, (order_of_open id line))

-- as it was given
pub found_given : (id : ℕ) (line : List Stamped) (given o : Order) → order_with id (orders_of line) ≡ Some o
    → IfSome (open_order line id) (λ s. given ≡ s.order) → order_with id (orders_of line) ≡ Some given
found_given id line given o found is = grind (arith, common_steps, (order_of_open id line))

-- an open order that is seen so
pub seen_open : (orders : Orders) (ladder : LadderView) (kind : AuctionKind) (now : LadderBookView) (o : Order)
    → ladder_book_view orders ladder kind ≡ now → IsOpenIn now.book.orders o → IsOpenIn (orders_of orders.line) o
seen_open orders ladder kind now o e is = subst (λ (b : LadderBookView). IsOpenIn b.book.orders o) (sym e) is

-- an open order is in the line
pub open_in_line : (o : Order) (line : List Stamped) → IsOpenIn (orders_of line) o → IsSome (open_order line o.id)
open_in_line o line is = grind (arith, common_steps, (order_of_open o.id line))

-- what holds of it in the list holds of it in the line
pub open_with : (P : Order → Type 0) (id : ℕ) (line : List Stamped) → IfSome (order_with id (orders_of line)) P
    → IfSome (open_order line id) (λ s. P s.order)
open_with P id line h = grind (arith, common_steps, (order_of_open id line))

pub open_is : (P : Order → Type 0) (o : Order) (line : List Stamped) → IsOpenIn (orders_of line) o
    → IfSome (open_order line o.id) (λ s. P s.order) → P o
open_is P o line is h = grind (arith, common_steps, (order_of_open o.id line))

-- an order at a place of a walk is open
pub found_is_open : (s : Stamped) (line : List Stamped) → open_order line s.order.id ≡ Some s
    → IsOpenIn (orders_of line) s.order
found_is_open s line e = sym (order_of_open s.order.id line) ∙ ap (option_map (λ (s : Stamped). s.order)) e

-- what holds of all orders holds of the one that is found
pub all_found : (P : Order → Type 0) (id : ℕ) (book : List Order) (o : Order) → All P book → order_with id book ≡ Some o
    → P o
all_found P id [] o all e = absurd (cc)
all_found P id (x ∷ xs) o all e =
    grind (arith, common_steps, All-tail, All-head, (all_found P id xs o (All-tail P x xs all)))

pub some_found : (P : Order → Type 0) (line : List Stamped) (found : Option Stamped) → All P (orders_of line)
    → IfSome found (λ s. open_order line s.order.id ≡ Some s) → IfSome found (λ s. P s.order)
some_found P line None all stands = tt
some_found P line (Some s) all stands =
    all_found P s.order.id (orders_of line) s.order all (found_is_open s line stands)
