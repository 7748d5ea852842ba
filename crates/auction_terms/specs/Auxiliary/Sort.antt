-- Lists in the order of a comparison.
use Rattle.std.specs.Prelude.{◌≡◌, ℕ, ◌<◌, sum_by, List, [], ◌∷◌, if◌then◌else◌}
use Rattle.std.specs.Ordering.{is_lt}
use Rattle.std.specs.declared.cmp.Ordering.{Ordering}

-- the list with one more element, in front of the first one that comes after it
abbrev pub place_in : {X : Type 0} → (X → X → Ordering) → X → List X → List X
place_in cmp x [] = x ∷ []
place_in cmp x (y ∷ ys) = if is_lt (cmp y x) then y ∷ place_in cmp x ys else (x ∷ y ∷ ys)

-- the list in order; what ties keeps its order
abbrev pub in_order : {X : Type 0} → (X → X → Ordering) → List X → List X
in_order cmp [] = []
in_order cmp (x ∷ xs) = place_in cmp x (in_order cmp xs)

-- the same elements, as often
abbrev pub SameItems : {X : Type 0} → List X → List X → Type 0
SameItems {X} xs ys = (f : X → ℕ) → sum_by f xs ≡ sum_by f ys

-- ---- places that rise

-- the place of each is below those of the later ones
abbrev pub PlaceBelow : {X : Type 0} → ℕ → List (ℕ × X) → Type 0
PlaceBelow n [] = Unit {0}
PlaceBelow n (y ∷ ys) = (n < y.0) × PlaceBelow n ys

abbrev pub PlacesRise : {X : Type 0} → List (ℕ × X) → Type 0
PlacesRise [] = Unit {0}
PlacesRise (x ∷ xs) = PlaceBelow x.0 xs × PlacesRise xs
