-- What the lanes of a selection are.
use Rattle.std.specs.Int.{abs_diff}
use Rattle.std.proofs.Common.{◌≡◌, ℕ, ◌-◌, ◌≤◌, cond, ltb, eqb, List, [], ◌∷◌, length, min, max, replicate, refl, arith}
use Rattle.std.specs.Simd.Lanes.{zip2, sel_l, Each2}
use Rattle.std.proofs.lemmas.Bool.Decides.{nat_tests}
use Rattle.lanes.specs.Selection.{kept_if_equal, kept_if_above, value_or_zero, value_or_most}
use Rattle.lanes.proofs.Eight.{eight}

lesser_one : (x y : ℕ) → cond (ltb x y) x y ≡ min x y
lesser_one x y = grind (arith, nat_tests)

greater_one : (x y : ℕ) → cond (ltb x y) y x ≡ max x y
greater_one x y = grind (arith, nat_tests)

pub sel_lesser : (xs ys : List ℕ) → sel_l (zip2 ltb xs ys) xs ys ≡ zip2 min xs ys
sel_lesser [] ys = refl
sel_lesser (x ∷ xs) [] = refl
sel_lesser (x ∷ xs) (y ∷ ys) =
    let e : cond (ltb x y) x y ≡ min x y = lesser_one x y in
    let r : sel_l (zip2 ltb xs ys) xs ys ≡ zip2 min xs ys = sel_lesser xs ys in
    rw (e, r)

pub sel_greater : (xs ys : List ℕ) → sel_l (zip2 ltb xs ys) ys xs ≡ zip2 max xs ys
sel_greater [] ys = refl
sel_greater (x ∷ xs) [] = refl
sel_greater (x ∷ xs) (y ∷ ys) =
    let e : cond (ltb x y) y x ≡ max x y = greater_one x y in
    let r : sel_l (zip2 ltb xs ys) ys xs ≡ zip2 max xs ys = sel_greater xs ys in
    rw (e, r)

pub sel_equal : (vs fs : List ℕ) (w : ℕ) → length vs ≡ 8 → length fs ≡ 8
    → sel_l (zip2 eqb vs (replicate 8 w)) fs (replicate 8 0) ≡ zip2 (kept_if_equal w) vs fs
sel_equal vs fs w p q =
    let v = eight vs p in
    let f = eight fs q in
    rw (v.is, f.is)

pub sel_above : (xs bs fs : List ℕ) → length xs ≡ 8 → length bs ≡ 8 → length fs ≡ 8
    → sel_l (zip2 ltb bs xs) fs (replicate 8 0) ≡ kept_if_above xs bs fs
sel_above xs bs fs p q r =
    let a = eight xs p in
    let b = eight bs q in
    let f = eight fs r in
    rw (a.is, b.is, f.is)

pub sel_marked : (vs fs : List ℕ) → length vs ≡ 8 → length fs ≡ 8
    → sel_l (zip2 eqb fs (replicate 8 1)) vs (replicate 8 0) ≡ zip2 value_or_zero vs fs
sel_marked vs fs p q =
    let v = eight vs p in
    let f = eight fs q in
    rw (v.is, f.is)

pub zip2-abs_diff : (xs ys : List ℕ) → zip2 (λ a b. a - b) (zip2 max xs ys) (zip2 min xs ys) ≡ zip2 abs_diff xs ys
zip2-abs_diff [] ys = refl
zip2-abs_diff (x ∷ xs) [] = refl
zip2-abs_diff (x ∷ xs) (y ∷ ys) =
    let e : max x y - min x y ≡ abs_diff x y = omega arith in
    let r : zip2 (λ a b. a - b) (zip2 max xs ys) (zip2 min xs ys) ≡ zip2 abs_diff xs ys = zip2-abs_diff xs ys in
    rw (e, r)

pub zip2-max_min : (xs ys : List ℕ) → Each2 (λ a b. b ≤ a) (zip2 max xs ys) (zip2 min xs ys)
zip2-max_min [] ys = tt
zip2-max_min (x ∷ xs) [] = tt
zip2-max_min (x ∷ xs) (y ∷ ys) = (omega arith, zip2-max_min xs ys)

pub sel_most : (vs fs : List ℕ) → length vs ≡ 8 → length fs ≡ 8
    → sel_l (zip2 eqb fs (replicate 8 1)) vs (replicate 8 18446744073709551615) ≡ zip2 value_or_most vs fs
sel_most vs fs p q =
    let v = eight vs p in
    let f = eight fs q in
    rw (v.is, f.is)
