-- Words of six and of seven bytes.
use Rattle.std.proofs.Common.{◌≡◌, ℕ, List, [], ◌∷◌, length, slice_index_or, arith}

-- six bytes, each known
pub six : (v : List ℕ) (a b c d e f : ℕ) → length v ≡ 6
    → slice_index_or v 0 0 ≡ a → slice_index_or v 1 0 ≡ b → slice_index_or v 2 0 ≡ c → slice_index_or v 3 0 ≡ d
    → slice_index_or v 4 0 ≡ e → slice_index_or v 5 0 ≡ f
    → v ≡ a ∷ b ∷ c ∷ d ∷ e ∷ f ∷ []
six [] a b c d e f count is_a is_b is_c is_d is_e is_f = absurd (omega (arith, count))
six (x0 ∷ []) a b c d e f count is_a is_b is_c is_d is_e is_f = absurd (omega (arith, count))
six (x0 ∷ x1 ∷ []) a b c d e f count is_a is_b is_c is_d is_e is_f = absurd (omega (arith, count))
six (x0 ∷ x1 ∷ x2 ∷ []) a b c d e f count is_a is_b is_c is_d is_e is_f = absurd (omega (arith, count))
six (x0 ∷ x1 ∷ x2 ∷ x3 ∷ []) a b c d e f count is_a is_b is_c is_d is_e is_f = absurd (omega (arith, count))
six (x0 ∷ x1 ∷ x2 ∷ x3 ∷ x4 ∷ []) a b c d e f count is_a is_b is_c is_d is_e is_f = absurd (omega (arith, count))
six (x0 ∷ x1 ∷ x2 ∷ x3 ∷ x4 ∷ x5 ∷ []) a b c d e f count is_a is_b is_c is_d is_e is_f = cc
six (x0 ∷ x1 ∷ x2 ∷ x3 ∷ x4 ∷ x5 ∷ y ∷ ys) a b c d e f count is_a is_b is_c is_d is_e is_f =
    absurd (omega (arith, count))

-- seven bytes, each known
pub seven : (v : List ℕ) (a b c d e f g : ℕ) → length v ≡ 7
    → slice_index_or v 0 0 ≡ a → slice_index_or v 1 0 ≡ b → slice_index_or v 2 0 ≡ c → slice_index_or v 3 0 ≡ d
    → slice_index_or v 4 0 ≡ e → slice_index_or v 5 0 ≡ f → slice_index_or v 6 0 ≡ g
    → v ≡ a ∷ b ∷ c ∷ d ∷ e ∷ f ∷ g ∷ []
seven [] a b c d e f g count is_a is_b is_c is_d is_e is_f is_g = absurd (omega (arith, count))
seven (x0 ∷ []) a b c d e f g count is_a is_b is_c is_d is_e is_f is_g = absurd (omega (arith, count))
seven (x0 ∷ x1 ∷ []) a b c d e f g count is_a is_b is_c is_d is_e is_f is_g = absurd (omega (arith, count))
seven (x0 ∷ x1 ∷ x2 ∷ []) a b c d e f g count is_a is_b is_c is_d is_e is_f is_g = absurd (omega (arith, count))
seven (x0 ∷ x1 ∷ x2 ∷ x3 ∷ []) a b c d e f g count is_a is_b is_c is_d is_e is_f is_g = absurd (omega (arith, count))
seven (x0 ∷ x1 ∷ x2 ∷ x3 ∷ x4 ∷ []) a b c d e f g count is_a is_b is_c is_d is_e is_f is_g =
    absurd (omega (arith, count))
seven (x0 ∷ x1 ∷ x2 ∷ x3 ∷ x4 ∷ x5 ∷ []) a b c d e f g count is_a is_b is_c is_d is_e is_f is_g =
    absurd (omega (arith, count))
seven (x0 ∷ x1 ∷ x2 ∷ x3 ∷ x4 ∷ x5 ∷ x6 ∷ []) a b c d e f g count is_a is_b is_c is_d is_e is_f is_g = cc
seven (x0 ∷ x1 ∷ x2 ∷ x3 ∷ x4 ∷ x5 ∷ x6 ∷ y ∷ ys) a b c d e f g count is_a is_b is_c is_d is_e is_f is_g =
    absurd (omega (arith, count))
