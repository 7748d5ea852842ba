-- A walk through the places, one place after the other.
use Rattle.std.proofs.Common.{◌≡◌, ℕ, zero, suc, ◌+◌, ◌≤◌, List, [], ◌∷◌, ◌++◌, Option, Some, None, length, take}
use Rattle.std.proofs.Common.{sum_by, refl, sym, ap, ◌∙◌, arith}
use Rattle.std.proofs.lemmas.List.{take_all}
use Rattle.std.proofs.lemmas.List.Sums.{sum_by-cons}
use Rattle.std.proofs.Math.Numerals.{add-one}
use Rattle.std.specs.Option.{option_to_list}
use Rattle.auction_terms.specs.declared.Stamped.{Stamped}
use Rattle.auction_terms.specs.Auxiliary.StampedOrders.{IsLineOf}
use Rattle.order_book.specs.Orders.{present, slot_at}

-- the orders at the first places, and the one at the next
present-take : (slots : List (Option Stamped)) (i : ℕ) → present (take (suc i) slots) ≡ present (take i slots)
    ++ option_to_list (slot_at slots i)
present-take [] zero = refl
present-take [] (suc i) = refl
present-take (None ∷ slots) zero = refl
present-take (Some s ∷ slots) zero = refl
present-take (None ∷ slots) (suc i) = present-take slots i
present-take (Some s ∷ slots) (suc i) = ap (λ l. s ∷ l) (present-take slots i)

pub present_more : (slots : List (Option Stamped)) (i : ℕ) → present (take (i + 1) slots) ≡ present (take i slots)
    ++ option_to_list (slot_at slots i)
present_more slots i = rw add-one (present-take slots i)

pub present_few : (slots : List (Option Stamped)) (i : ℕ) → length (present (take i slots)) ≤ length (present slots)
present_few [] zero = omega arith
present_few [] (suc i) = omega arith
present_few (slot ∷ slots) zero = omega arith
present_few (None ∷ slots) (suc i) = present_few slots i
present_few (Some s ∷ slots) (suc i) = let h = present_few slots i in omega arith

pub present_all : (slots : List (Option Stamped)) (n : ℕ) → length slots ≤ n → present (take n slots) ≡ present slots
present_all slots n h = ap present (take_all n slots h)

pub length-ones : {X : Type 0} (xs : List X) → length xs ≡ sum_by (λ _. 1) xs
length-ones [] = refl
length-ones (x ∷ xs) = omega (arith, length-ones xs, sum_by-cons (λ _. 1) x xs)

-- the walk passes as many orders as are open
pub length-walk : (walk line : List Stamped) → IsLineOf walk line → length walk ≡ length line
length-walk walk line is = length-ones walk ∙ sym (is.same (λ _. 1)) ∙ sym (length-ones line)
