-- Lists in the order of a comparison: `in_order` gives one, and it is the only one with those elements.
use Rattle.std.proofs.Common.{◌≡◌, ◌≢◌, ℕ, ◌+◌, ◌<◌, Bool, true, false, List, [], ◌∷◌, length, get_or, map, refl, sym}
use Rattle.std.proofs.Common.{ap, ◌∙◌, arith, sum_by, suc}
use Rattle.std.proofs.lemmas.List.Sums.{sum_by-cons}
use Rattle.std.proofs.lemmas.List.Sorted.{sorted_far, ranks_by}
use Rattle.std.proofs.lemmas.Cmp.{upto, tied_itself, tied_back}
use Rattle.std.specs.Cmp.{IsTotalOrder}
use Rattle.std.specs.List.Sorted.{IsSorted}
use Rattle.std.specs.Ordering.{is_lt, is_gt, ordering_reverse}
use Rattle.std.specs.declared.cmp.Ordering.{Ordering}
use Rattle.std.specs.declared.cmp.Ordering.TheVariants.{Less, Equal, Greater}
use Rattle.std.proofs.lemmas.Grind.{common_steps}
use Rattle.auction_terms.specs.Auxiliary.Sort.{place_in, in_order, SameItems}

-- it comes before each of them
abbrev pub Before : {X : Type 0} → (X → X → Ordering) → X → List X → Type 0
Before R x [] = Unit {0}
Before R x (y ∷ ys) = (R x y ≡ Less) × Before R x ys

-- each element comes before all later ones
abbrev pub Rising : {X : Type 0} → (X → X → Ordering) → List X → Type 0
Rising R [] = Unit {0}
Rising R (x ∷ xs) = Before R x xs × Rising R xs

-- it ties with none of them
abbrev pub Apart : {X : Type 0} → (X → X → Ordering) → X → List X → Type 0
Apart R x [] = Unit {0}
Apart R x (y ∷ ys) = (R x y ≢ Equal) × Apart R x ys

abbrev pub AllApart : {X : Type 0} → (X → X → Ordering) → List X → Type 0
AllApart R [] = Unit {0}
AllApart R (x ∷ xs) = Apart R x xs × AllApart R xs

-- it comes after none of them
abbrev pub Upto : {X : Type 0} → (X → X → Ordering) → X → List X → Type 0
Upto R x [] = Unit {0}
Upto R x (y ∷ ys) = (is_gt (R x y) ≡ false) × Upto R x ys

abbrev pub Up : {X : Type 0} → (X → X → Ordering) → List X → Type 0
Up R [] = Unit {0}
Up R (x ∷ xs) = Upto R x xs × Up R xs

pub sum_by-place_in : {X : Type 0} (R : X → X → Ordering) (f : X → ℕ) (x : X) (ys : List X)
    → sum_by f (place_in R x ys) ≡ f x + sum_by f ys
sum_by-place_in R f x [] = sum_by-cons f x []
sum_by-place_in R f x (y ∷ ys) = grind (arith, common_steps, sum_by-cons, (sum_by-place_in R f x ys))

pub sum_by-in_order : {X : Type 0} (R : X → X → Ordering) (f : X → ℕ) (xs : List X)
    → sum_by f (in_order R xs) ≡ sum_by f xs
sum_by-in_order R f [] = refl
sum_by-in_order R f (x ∷ xs) = search (arith, sum_by-place_in, sum_by-cons, (sum_by-in_order R f xs))

apart_place : {X : Type 0} (R : X → X → Ordering) (z x : X) (ys : List X) → (R z x ≢ Equal) → Apart R z ys
    → Apart R z (place_in R x ys)
apart_place R z x [] h b = (h, tt)
apart_place R z x (y ∷ ys) h b = grind (arith, common_steps, (apart_place R z x ys h b.1))

apart_in_order : {X : Type 0} (R : X → X → Ordering) (z : X) (xs : List X) → Apart R z xs → Apart R z (in_order R xs)
apart_in_order R z [] a = tt
apart_in_order R z (x ∷ xs) a = apart_place R z x (in_order R xs) a.0 (apart_in_order R z xs a.1)

before_place : {X : Type 0} (R : X → X → Ordering) (z x : X) (ys : List X) → R z x ≡ Less → Before R z ys
    → Before R z (place_in R x ys)
before_place R z x [] h b = (h, tt)
before_place R z x (y ∷ ys) h b = grind (arith, common_steps, (before_place R z x ys h b.1))

abbrev zero_if : Bool → ℕ
zero_if true = 0
zero_if false = 1

module _ {X : Type 0} (R : X → X → Ordering) (o : IsTotalOrder R) where
  pub turned : (x y : X) → R y x ≡ Greater → R x y ≡ Less
  turned x y h = o.antisymm x y ∙ ap ordering_reverse h

  before_far : (x y : X) (zs : List X) → R x y ≡ Less → Before R y zs → Before R x zs
  before_far x y [] h b = tt
  before_far x y (z ∷ zs) h b = (o.trans x y z h b.0, before_far x y zs h b.1)

  rising_place : (x : X) (ys : List X) → Apart R x ys → Rising R ys → Rising R (place_in R x ys)
  rising_place x [] a r = (tt, tt)
  rising_place x (y ∷ ys) a r =
      grind (arith, common_steps, before_place, tied_back, turned, before_far, (rising_place x ys a.1 r.1))

  pub rising_in_order : (xs : List X) → AllApart R xs → Rising R (in_order R xs)
  rising_in_order [] a = tt
  rising_in_order (x ∷ xs) a = rising_place x (in_order R xs) (apart_in_order R x xs a.0) (rising_in_order xs a.1)

  not_after : (x y : X) → is_lt (R y x) ≡ false → is_gt (R x y) ≡ false
  not_after x y h = grind (arith, common_steps)

  upto_by_index : (x : X) (ys : List X) → ((k : ℕ) → k < length ys → is_lt (R (get_or ys k x) x) ≡ false) → Upto R x ys
  upto_by_index x [] h = tt
  upto_by_index x (y ∷ ys) h = (not_after x y (h 0 (omega arith)), upto_by_index x ys (λ k l. h (suc k) (omega arith)))

  -- what a sort ensures
  pub up_from_sorted : (xs : List X) → IsSorted R xs → Up R xs
  up_from_sorted [] s = tt
  up_from_sorted (x ∷ xs) s = (
    upto_by_index x xs (λ k l. sorted_far (λ a b. is_lt (R a b)) (ranks_by o (λ a. a)) (x ∷ xs) s 0 (suc k) x
        (omega arith) (omega arith)),
    up_from_sorted xs (λ k d l h. let e : suc k + 1 ≡ suc (k + 1) =
        omega arith in rw e at (s (suc k) d (omega arith) (omega arith))),
  )

  -- how many are not after y
  not_above : X → X → ℕ
  not_above y z = zero_if (is_gt (R z y))

  none_upto : (x y : X) (zs : List X) → is_gt (R x y) ≡ true → Upto R x zs → sum_by (not_above y) zs ≡ 0
  unfolding not_above
  none_upto x y [] g u = refl
  none_upto x y (z ∷ zs) g u = search (arith, upto, sum_by-cons, (none_upto x y zs g u.1))

  head_upto : (x y : X) (xs ys : List X) → Upto R x xs → SameItems (x ∷ xs) (y ∷ ys) → is_gt (R x y) ≡ false
  unfolding not_above
  head_upto x y xs ys u same =
      grind (
        arith,
        common_steps,
        none_upto,
        (tied_itself o y),
        (sum_by-cons (not_above y) x xs),
        (sum_by-cons (not_above y) y ys),
      )

  tied : (x y : X) → is_gt (R x y) ≡ false → is_gt (R y x) ≡ false → R x y ≡ Equal
  tied x y f g = grind (arith, common_steps)

  -- two lists in order with the same elements are one, where what ties is one
  pub same_in_order : ((x y : X) → R x y ≡ Equal → x ≡ y) → (xs ys : List X) → Up R xs → Up R ys → SameItems xs ys
      → xs ≡ ys
  same_in_order exact [] [] u v same = refl
  same_in_order exact [] (y ∷ ys) u v same = absurd (omega (arith, same (λ _. 1), sum_by-cons (λ _. 1) y ys))
  same_in_order exact (x ∷ xs) [] u v same = absurd (omega (arith, same (λ _. 1), sum_by-cons (λ _. 1) x xs))
  same_in_order exact (x ∷ xs) (y ∷ ys) u v same =
      let heads : x ≡ y =
      exact x y (tied x y (head_upto x y xs ys u.0 same) (head_upto y x ys xs v.0 (λ f. sym (same f)))) in
      let rest : SameItems xs ys = λ f. omega (arith, same f, sum_by-cons f x xs, sum_by-cons f y ys, ap f heads) in
      grind (arith, common_steps, (same_in_order exact xs ys u.1 v.1 rest))

-- the order of the images, where the later elements agree on it
abbrev pub Agree : {X Y : Type 0} → (X → X → Ordering) → (Y → Y → Ordering) → (X → Y) → X → List X → Type 0
Agree R Q h x [] = Unit {0}
Agree R Q h x (y ∷ ys) = (is_lt (R y x) ≡ is_lt (Q (h y) (h x))) × Agree R Q h x ys

abbrev pub AllAgree : {X Y : Type 0} → (X → X → Ordering) → (Y → Y → Ordering) → (X → Y) → List X → Type 0
AllAgree R Q h [] = Unit {0}
AllAgree R Q h (x ∷ xs) = Agree R Q h x xs × AllAgree R Q h xs

module _ {X Y : Type 0} (R : X → X → Ordering) (Q : Y → Y → Ordering) (h : X → Y) where
  agree_place : (z x : X) (ys : List X) → (is_lt (R x z) ≡ is_lt (Q (h x) (h z))) → Agree R Q h z ys
      → Agree R Q h z (place_in R x ys)
  agree_place z x [] e b = (e, tt)
  agree_place z x (y ∷ ys) e b = grind (arith, common_steps, (agree_place z x ys e b.1))

  agree_in_order : (z : X) (xs : List X) → Agree R Q h z xs → Agree R Q h z (in_order R xs)
  agree_in_order z [] a = tt
  agree_in_order z (x ∷ xs) a = agree_place z x (in_order R xs) a.0 (agree_in_order z xs a.1)

  map-place_in : (x : X) (ys : List X) → Agree R Q h x ys → map h (place_in R x ys) ≡ place_in Q (h x) (map h ys)
  map-place_in x [] a = refl
  map-place_in x (y ∷ ys) a = grind (arith, common_steps, (map-place_in x ys a.1))

  pub map-in_order : (xs : List X) → AllAgree R Q h xs → map h (in_order R xs) ≡ in_order Q (map h xs)
  map-in_order [] a = refl
  map-in_order (x ∷ xs) a = grind (arith, common_steps, map-place_in, agree_in_order, (map-in_order xs a.1))
