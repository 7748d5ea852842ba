-- The texts of a list's elements, one by one.
use Rattle.std.proofs.Common.{◌≡◌, ◌<◌, ◌≤◌, ◌+◌, ℕ, List, [], ◌∷◌, ◌++◌, length, drop, get_or, append_assoc, ◌∙◌}
use Rattle.std.proofs.Common.{arith}
use Rattle.std.proofs.lemmas.List.{append-nil, drop_all}
use Rattle.std.proofs.lemmas.Grind.{common_steps}

-- the texts of elements are that of the first, which comes after `before` others, and then those of the rest
pub record IsListText {X : Type 0} (one : ℕ → X → List ℕ) (texts : ℕ → List X → List ℕ) : Type 0 where
  pub none : (before : ℕ) → texts before [] ≡ []
  pub more : (before : ℕ) (x : X) (xs : List X) → texts before (x ∷ xs) ≡ one before x ++ texts (before + 1) xs

-- the next text comes first of those that are left
pub text-next : {X : Type 0} (one : ℕ → X → List ℕ) (texts : ℕ → List X → List ℕ) → IsListText one texts
    → (xs : List X) (front all : List ℕ) (i : ℕ) (d : X)
    → front ++ texts i (drop i xs) ≡ all → i < length xs
    → front ++ (one i (get_or xs i d) ++ texts (i + 1) (drop (i + 1) xs)) ≡ all
text-next one texts is xs front all i d e h = grind (arith, common_steps)

-- the next text was done
pub text-done : {X : Type 0} (one : ℕ → X → List ℕ) (texts : ℕ → List X → List ℕ) → IsListText one texts
    → (xs : List X) (front all : List ℕ) (i : ℕ) (d : X)
    → front ++ texts i (drop i xs) ≡ all → i < length xs
    → (front ++ one i (get_or xs i d)) ++ texts (i + 1) (drop (i + 1) xs) ≡ all
text-done one texts is xs front all i d e h = append_assoc front _ _ ∙ text-next one texts is xs front all i d e h

-- no text is left
pub text-end : {X : Type 0} (one : ℕ → X → List ℕ) (texts : ℕ → List X → List ℕ) → IsListText one texts
    → (xs : List X) (front all : List ℕ) (i : ℕ)
    → front ++ texts i (drop i xs) ≡ all → length xs ≤ i → front ≡ all
text-end one texts is xs front all i e h = grind (arith, common_steps, drop_all, append-nil)
