-- The least of the flagged values.
use Rattle.std.proofs.Common.{◌≡◌, ℕ, suc, zero, ◌+◌, ◌≤◌, ◌<◌, inl, inr, List, [], ◌∷◌, ◌++◌, length, take, get_or}
use Rattle.std.proofs.Common.{refl, arith, cond, eqb, min, Bool, true, false}
use Rattle.std.specs.Simd.Lanes.{chunk, zip2}
use Rattle.std.proofs.Math.Seq.{take-add}
use Rattle.std.proofs.lemmas.List.{length-take-le}
use Rattle.std.proofs.lemmas.Bool.Decides.{nat_tests}
use Rattle.lanes.proofs.ChunkLaws.{chunk_one}
use Rattle.lanes.proofs.FlaggedLaws.{flagged-append, FlaggedPlace, next, le_or_gt}
use Rattle.lanes.specs.Selection.{flagged, least, value_or_most, IsLeastFlagged}
use Rattle.std.proofs.lemmas.Grind.{common_steps}

pub least_small : (xs : List ℕ) → least xs ≤ 18446744073709551615
least_small [] = omega arith
least_small (x ∷ xs) = omega (arith, least_small xs)

pub least-append : (xs ys : List ℕ) → least (xs ++ ys) ≡ min (least xs) (least ys)
least-append [] ys = omega (arith, least_small ys)
least-append (x ∷ xs) ys = omega (arith, least-append xs ys)

pub least-zip2 : (xs ys : List ℕ) → length xs ≡ length ys → least (zip2 min xs ys) ≡ min (least xs) (least ys)
least-zip2 [] [] e = refl
least-zip2 [] (y ∷ ys) e = absurd (omega (arith, e))
least-zip2 (x ∷ xs) [] e = absurd (omega (arith, e))
least-zip2 (x ∷ xs) (y ∷ ys) e = omega (arith, least-zip2 xs ys (omega (arith, e)))

pub least-marked : (vs fs : List ℕ) → least (zip2 value_or_most vs fs) ≡ least (flagged vs fs)
least-marked [] fs = refl
least-marked (v ∷ vs) [] = refl
least-marked (v ∷ vs) (f ∷ fs) =
    let e : least (zip2 value_or_most vs fs) ≡ least (flagged vs fs) = least-marked vs fs in
    let small : least (flagged vs fs) ≤ 18446744073709551615 = least_small (flagged vs fs) in
    elim (eqb f 1) as (λ b. min (cond b v 18446744073709551615) (least (zip2 value_or_most vs fs))
    ≡ least (cond b (v ∷ flagged vs fs) (flagged vs fs))) [ true ↦ omega arith | false ↦ omega arith ]

pub least_more : (at n : ℕ) (vs fs : List ℕ) → at + n ≤ length vs → length fs ≡ length vs
    → least (flagged (take (at + n) vs) (take (at + n) fs)) ≡ min (least (flagged (take at vs) (take at fs)))
    (least (flagged (chunk at n vs) (chunk at n fs)))
least_more at n vs fs room same = grind (arith, common_steps, take-add, flagged-append, length-take-le, least-append)

pub least_one : (at : ℕ) (vs fs : List ℕ) → get_or vs at 0 ≤ 18446744073709551615 → at < length vs
    → length fs ≡ length vs → least (flagged (take (at + 1) vs) (take (at + 1) fs))
    ≡ min (least (flagged (take at vs) (take at fs)))
    (cond (eqb (get_or fs at 0) 1) (get_or vs at 0) 18446744073709551615)
least_one at vs fs small lt same = grind (arith, common_steps, least_more, chunk_one)

pub least_bound : (vs fs : List ℕ) → length vs ≡ length fs → (k : ℕ) → k < length fs → get_or fs k 0 ≡ 1
    → least (flagged vs fs) ≤ get_or vs k 0
least_bound [] [] e k lt is = absurd (omega (arith, lt))
least_bound [] (f ∷ fs) e k lt is = absurd (omega (arith, e))
least_bound (v ∷ vs) [] e k lt is = absurd (omega (arith, e))
least_bound (v ∷ vs) (f ∷ fs) e zero lt is = grind (arith, common_steps)
least_bound (v ∷ vs) (f ∷ fs) e (suc k) lt is =
    let h : least (flagged vs fs) ≤ get_or vs k 0 = least_bound vs fs (omega (arith, e)) k (omega (arith, lt)) is in
    elim (eqb f 1) as (λ b. least (cond b (v ∷ flagged vs fs) (flagged vs fs)) ≤ get_or vs k 0) [
      | true ↦
          omega arith
      | false ↦ h
    ]

place_of_less : (v f : ℕ) (vs fs : List ℕ) → eqb f 1 ≡ true
    → (least (flagged vs fs) < 18446744073709551615 → FlaggedPlace vs fs (least (flagged vs fs)))
    → min v (least (flagged vs fs)) < 18446744073709551615
    → FlaggedPlace (v ∷ vs) (f ∷ fs) (min v (least (flagged vs fs)))
place_of_less v f vs fs t ih p =
    let m = least (flagged vs fs) in
    let one : f ≡ 1 = grind (arith, nat_tests) in
    elim (le_or_gt v m) [
      | inl h ↦ record { place = 0; within = omega arith; here = one; value = omega (arith, h) }
      | inr h ↦ let e : m ≡ min v m = omega (arith, h) in rw (← e) (next v f m vs fs (ih (omega (arith, h))))
    ]

place_either : (v f : ℕ) (vs fs : List ℕ)
    → (least (flagged vs fs) < 18446744073709551615 → FlaggedPlace vs fs (least (flagged vs fs))) → (b : Bool)
    → eqb f 1 ≡ b
    → least (cond b (v ∷ flagged vs fs) (flagged vs fs)) < 18446744073709551615
    → FlaggedPlace (v ∷ vs) (f ∷ fs) (least (cond b (v ∷ flagged vs fs) (flagged vs fs)))
place_either v f vs fs ih true t p = place_of_less v f vs fs t ih p
place_either v f vs fs ih false t p = next v f (least (flagged vs fs)) vs fs (ih p)

pub place_below_most : (vs fs : List ℕ) → least (flagged vs fs) < 18446744073709551615
    → FlaggedPlace vs fs (least (flagged vs fs))
place_below_most [] fs p = absurd (omega (arith, p))
place_below_most (v ∷ vs) [] p = absurd (omega (arith, p))
place_below_most (v ∷ vs) (f ∷ fs) p = place_either v f vs fs (place_below_most vs fs) (eqb f 1) refl p

pub least_is : (vs fs : List ℕ) → ((i : ℕ) → get_or vs i 0 ≤ 18446744073709551615) → length vs ≡ length fs → (k : ℕ)
    → k < length fs → get_or fs k 0 ≡ 1 → IsLeastFlagged vs fs (least (flagged vs fs))
least_is vs fs small e k lt is =
    let m = least (flagged vs fs) in
    let p : FlaggedPlace vs fs m = elim (le_or_gt 18446744073709551615 m) [
      | inl h ↦ record {
        place = k;
        within = lt;
        here = is;
        value =
            omega (arith, h, small k, least_bound vs fs e k lt is);
      }
      | inr h ↦ place_below_most vs fs h
    ] in
    record { place = p.place; within = p.within; here = p.here; value = p.value; bound = least_bound vs fs e }
