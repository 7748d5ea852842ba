-- The next fill of a list.
use Rattle.std.proofs.Common.{◌≡◌, ℕ, ◌+◌, ◌<◌, ◌≤◌, List, [], ◌∷◌, ◌++◌, Some, length, take, drop, get_or, refl, ap}
use Rattle.std.proofs.Common.{zero, suc, arith}
use Rattle.std.proofs.Math.Numerals.{add-one}
use Rattle.std.proofs.lemmas.Grind.{common_steps}
use Rattle.auction_terms.specs.declared.Order.{Order}
use Rattle.auction_terms.specs.declared.Fill.{Fill}
use Rattle.auction_terms.specs.Edits.{order_with}
use Rattle.auction_terms.specs.Auxiliary.OrderLists.{book_after_fill, book_after_fills, IsExecutable, AreExecutable}
use Rattle.auction_terms.proofs.ReduceLaws.{book_after_fills-push}

take-get-drop : (fs : List Fill) (i : ℕ) (d : Fill) → i < length fs → fs ≡ take i fs ++ get_or fs i d ∷ drop (suc i) fs
take-get-drop [] i d l = absurd (omega arith)
take-get-drop (f ∷ fs) zero d l = refl
take-get-drop (f ∷ fs) (suc i) d l = ap (λ t. f ∷ t) (take-get-drop fs i d (omega arith))

one_more : (fs : List Fill) (i : ℕ) (d : Fill) → i < length fs → take (suc i) fs ≡ take i fs ++ get_or fs i d ∷ []
one_more [] i d l = absurd (omega arith)
one_more (f ∷ fs) zero d l = refl
one_more (f ∷ fs) (suc i) d l = ap (λ t. f ∷ t) (one_more fs i d (omega arith))

pub next_fill : (fs : List Fill) (i : ℕ) (d : Fill) (book now : List Order) → i < length fs → AreExecutable fs book
    → now ≡ book_after_fills (take i fs) book → IsExecutable (get_or fs i d) now
next_fill fs i d book now l all is = grind (arith, common_steps, (take-get-drop fs i d l))

-- the order that was found has that much left
pub next_within : (f : Fill) (o : Order) (book : List Order) → IsExecutable f book → order_with f.id book ≡ Some o
    → f.quantity ≤ o.quantity
next_within f o book next e = grind (arith, common_steps)

pub reduced_more : (fs : List Fill) (i : ℕ) (d : Fill) (book : List Order) (old new : List Order) → i < length fs
    → old ≡ book_after_fills (take i fs) book → new ≡ book_after_fill (get_or fs i d) old
    → new ≡ book_after_fills (take (i + 1) fs) book
reduced_more fs i d book old new l was is =
    grind (
      arith,
      common_steps,
      (book_after_fills-push (take i fs) (get_or fs i d) book),
      (one_more fs i d l),
      (add-one i),
    )
