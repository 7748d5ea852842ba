-- No edit but an entry makes the list of open orders longer.
use Rattle.std.proofs.Common.{◌≡◌, ℕ, suc, ◌+◌, ◌≤◌, Bool, cond, not, List, [], ◌∷◌, Option, Some, filter, length, refl}
use Rattle.std.proofs.Common.{ap, arith, length-append}
use Rattle.std.specs.List.{filter_map}
use Rattle.std.proofs.lemmas.List.{length-map}
use Rattle.std.proofs.lemmas.List.Filters.{length-filter_both}
use Rattle.std.proofs.lemmas.Grind.{common_steps}
use Rattle.auction_terms.specs.declared.Order.{Order}
use Rattle.auction_terms.specs.declared.Fill.{Fill}
use Rattle.auction_terms.specs.declared.AuctionKind.{AuctionKind}
use Rattle.auction_terms.specs.declared.Limit.{Limit}
use Rattle.auction_terms.specs.Book.{participates_in, is_restricted_to}
use Rattle.auction_terms.specs.Edits.{order_with, has_id, without_id, changed_at, less_quantity, without_restricted}
use Rattle.auction_terms.specs.Auxiliary.OrderLists.{is_open, book_after_fill}
use Rattle.auction_terms.specs.Allotment.{placed_among, left_of, rest_in}
use Rattle.auction_terms.specs.Day.{book_with_change}
use Rattle.auction_terms.proofs.EditLaws.{found_id}

pub length-filter_le : {X : Type 0} (p : X → Bool) (xs : List X) → length (filter p xs) ≤ length xs
length-filter_le p xs = omega (arith, length-filter_both p (λ x. not (p x)) (λ _. refl) xs)

pub length-without_id : (id : ℕ) (book : List Order) → length (without_id id book) ≤ length book
length-without_id id book = length-filter_le (λ o. not (has_id id o)) book

pub length-without_restricted : (kind : AuctionKind) (book : List Order) → length (without_restricted kind book)
    ≤ length book
length-without_restricted kind book = length-filter_le (λ o. not (is_restricted_to kind o.restriction)) book

pub length-book_after_fill : (fill : Fill) (book : List Order) → length (book_after_fill fill book) ≤ length book
length-book_after_fill fill book =
    omega (
      arith,
      length-filter_le is_open (changed_at fill.id (less_quantity fill.quantity) book),
      length-map book (λ o. cond (has_id fill.id o) (less_quantity fill.quantity o) o),
    )

-- without an open order there is one less
pub one_less : (id : ℕ) (book : List Order) (o : Order) → order_with id book ≡ Some o
    → length (without_id id book) + 1 ≤ length book
one_less id [] o e = absurd (cc)
one_less id (x ∷ xs) o e = grind (arith, common_steps, length-without_id, (one_less id xs o))

pub length-change : (id : ℕ) (limit : Limit) (quantity : ℕ) (book : List Order) (o : Order)
    → order_with id book ≡ Some o → length (book_with_change book o limit quantity) ≤ length book
length-change id limit quantity book o found = search (arith, found_id, length-map, one_less, length-append)

length-filter_map_le : {X Y : Type 0} (h : X → Option Y) (xs : List X) → length (filter_map h xs) ≤ length xs
length-filter_map_le h [] = omega arith
length-filter_map_le h (x ∷ xs) = grind (arith, common_steps, (length-filter_map_le h xs))

length-placed_among : (kind : AuctionKind) (place : ℕ) (book : List Order) → length (placed_among kind place book)
    ≡ length book
length-placed_among kind place [] = refl
length-placed_among kind place (x ∷ xs) =
    ap suc (length-placed_among kind (cond (participates_in kind x) (place + 1) place) xs)

pub length-rest_in : (kind : AuctionKind) (book : List Order) (price : ℕ)
    → length (rest_in kind book price) ≤ length book
unfolding rest_in
length-rest_in kind book price =
    omega (
      arith,
      length-filter_map_le (left_of kind book price) (placed_among kind 0 book),
      length-placed_among kind 0 book,
    )
