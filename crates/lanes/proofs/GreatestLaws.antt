-- The greatest of the flagged values.
use Rattle.std.proofs.Common.{◌≡◌, ℕ, suc, zero, ◌+◌, ◌≤◌, ◌<◌, inl, inr, List, [], ◌∷◌, ◌++◌, length, take, get_or}
use Rattle.std.proofs.Common.{refl, arith, cond, eqb, max, Bool, true, false}
use Rattle.std.specs.Simd.Lanes.{chunk, zip2}
use Rattle.std.proofs.Math.Seq.{take-add}
use Rattle.std.proofs.lemmas.List.{length-take-le}
use Rattle.std.proofs.lemmas.Bool.Decides.{nat_tests}
use Rattle.lanes.proofs.ChunkLaws.{chunk_one}
use Rattle.lanes.proofs.FlaggedLaws.{flagged-append, FlaggedPlace, next, le_or_gt}
use Rattle.lanes.specs.Selection.{flagged, greatest, value_or_zero, IsGreatestFlagged}
use Rattle.std.proofs.lemmas.Grind.{common_steps}

pub greatest-append : (xs ys : List ℕ) → greatest (xs ++ ys) ≡ max (greatest xs) (greatest ys)
greatest-append [] ys = omega arith
greatest-append (x ∷ xs) ys = omega (arith, greatest-append xs ys)

pub greatest-zip2 : (xs ys : List ℕ) → length xs ≡ length ys
    → greatest (zip2 max xs ys) ≡ max (greatest xs) (greatest ys)
greatest-zip2 [] [] e = refl
greatest-zip2 [] (y ∷ ys) e = absurd (omega (arith, e))
greatest-zip2 (x ∷ xs) [] e = absurd (omega (arith, e))
greatest-zip2 (x ∷ xs) (y ∷ ys) e = omega (arith, greatest-zip2 xs ys (omega (arith, e)))

pub greatest-marked : (vs fs : List ℕ) → greatest (zip2 value_or_zero vs fs) ≡ greatest (flagged vs fs)
greatest-marked [] fs = refl
greatest-marked (v ∷ vs) [] = refl
greatest-marked (v ∷ vs) (f ∷ fs) =
    let e : greatest (zip2 value_or_zero vs fs) ≡ greatest (flagged vs fs) = greatest-marked vs fs in
    elim (eqb f 1) as (λ b. max (cond b v 0) (greatest (zip2 value_or_zero vs fs))
    ≡ greatest (cond b (v ∷ flagged vs fs) (flagged vs fs))) [ true ↦ omega arith | false ↦ omega arith ]

pub greatest_more : (at n : ℕ) (vs fs : List ℕ) → at + n ≤ length vs → length fs ≡ length vs
    → greatest (flagged (take (at + n) vs) (take (at + n) fs)) ≡ max (greatest (flagged (take at vs) (take at fs)))
    (greatest (flagged (chunk at n vs) (chunk at n fs)))
greatest_more at n vs fs room same =
    grind (arith, common_steps, take-add, flagged-append, length-take-le, greatest-append)

pub greatest_one : (at : ℕ) (vs fs : List ℕ) → at < length vs → length fs ≡ length vs
    → greatest (flagged (take (at + 1) vs) (take (at + 1) fs)) ≡ max (greatest (flagged (take at vs) (take at fs)))
    (cond (eqb (get_or fs at 0) 1) (get_or vs at 0) 0)
greatest_one at vs fs lt same = grind (arith, common_steps, greatest_more, chunk_one)

pub greatest_bound : (vs fs : List ℕ) → length vs ≡ length fs → (k : ℕ) → k < length fs → get_or fs k 0 ≡ 1
    → get_or vs k 0 ≤ greatest (flagged vs fs)
greatest_bound [] [] e k lt is = absurd (omega (arith, lt))
greatest_bound [] (f ∷ fs) e k lt is = absurd (omega (arith, e))
greatest_bound (v ∷ vs) [] e k lt is = absurd (omega (arith, e))
greatest_bound (v ∷ vs) (f ∷ fs) e zero lt is = grind (arith, common_steps)
greatest_bound (v ∷ vs) (f ∷ fs) e (suc k) lt is =
    let h : get_or vs k 0 ≤ greatest (flagged vs fs) =
    greatest_bound vs fs (omega (arith, e)) k (omega (arith, lt)) is in
    elim (eqb f 1) as (λ b. get_or vs k 0 ≤ greatest (cond b (v ∷ flagged vs fs) (flagged vs fs))) [
      | true ↦
          omega arith
      | false ↦ h
    ]

place_of_greater : (v f : ℕ) (vs fs : List ℕ) → eqb f 1 ≡ true
    → (0 < greatest (flagged vs fs) → FlaggedPlace vs fs (greatest (flagged vs fs)))
    → FlaggedPlace (v ∷ vs) (f ∷ fs) (max v (greatest (flagged vs fs)))
place_of_greater v f vs fs t ih =
    let m = greatest (flagged vs fs) in
    let one : f ≡ 1 = grind (arith, nat_tests) in
    elim (le_or_gt m v) [
      | inl h ↦ record { place = 0; within = omega arith; here = one; value = omega (arith, h) }
      | inr h ↦ let e : m ≡ max v m = omega (arith, h) in rw (← e) (next v f m vs fs (ih (omega (arith, h))))
    ]

place_either : (v f : ℕ) (vs fs : List ℕ)
    → (0 < greatest (flagged vs fs) → FlaggedPlace vs fs (greatest (flagged vs fs)))
    → (b : Bool) → eqb f 1 ≡ b → 0 < greatest (cond b (v ∷ flagged vs fs) (flagged vs fs))
    → FlaggedPlace (v ∷ vs) (f ∷ fs) (greatest (cond b (v ∷ flagged vs fs) (flagged vs fs)))
place_either v f vs fs ih true t p = place_of_greater v f vs fs t ih
place_either v f vs fs ih false t p = next v f (greatest (flagged vs fs)) vs fs (ih p)

pub place_positive : (vs fs : List ℕ) → 0 < greatest (flagged vs fs) → FlaggedPlace vs fs (greatest (flagged vs fs))
place_positive [] fs p = absurd (omega (arith, p))
place_positive (v ∷ vs) [] p = absurd (omega (arith, p))
place_positive (v ∷ vs) (f ∷ fs) p = place_either v f vs fs (place_positive vs fs) (eqb f 1) refl p

pub greatest_is : (vs fs : List ℕ) → length vs ≡ length fs → (k : ℕ) → k < length fs → get_or fs k 0 ≡ 1
    → IsGreatestFlagged vs fs (greatest (flagged vs fs))
greatest_is vs fs e k lt is =
    let m = greatest (flagged vs fs) in
    let p : FlaggedPlace vs fs m = elim (le_or_gt m 0) [
      | inl h ↦ record { place = k; within = lt; here = is; value = omega (arith, h, greatest_bound vs fs e k lt is) }
      | inr h ↦ place_positive vs fs h
    ] in
    record { place = p.place; within = p.within; here = p.here; value = p.value; bound = greatest_bound vs fs e }
