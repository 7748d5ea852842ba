-- The flagged values of two lists.
use Rattle.std.proofs.Common.{◌≡◌, ℕ, suc, zero, ◌≤◌, ◌<◌, ◌⊎◌, inl, inr, List, [], ◌∷◌, ◌++◌, length, get_or, refl, ap}
use Rattle.std.proofs.Common.{arith, cond, eqb, true, false}
use Rattle.lanes.specs.Selection.{flagged}

pub flagged-append : (xs ys us vs : List ℕ) → length xs ≡ length us → flagged (xs ++ ys) (us ++ vs) ≡ flagged xs us
    ++ flagged ys vs
flagged-append [] ys [] vs e = refl
flagged-append [] ys (u ∷ us) vs e = absurd (omega (arith, e))
flagged-append (x ∷ xs) ys [] vs e = absurd (omega (arith, e))
flagged-append (x ∷ xs) ys (u ∷ us) vs e =
    let r : flagged (xs ++ ys) (us ++ vs) ≡ flagged xs us ++ flagged ys vs =
    flagged-append xs ys us vs (omega (arith, e)) in
    elim (eqb u 1) as (λ b. cond b (x ∷ flagged (xs ++ ys) (us ++ vs)) (flagged (xs ++ ys) (us ++ vs))
    ≡ cond b (x ∷ flagged xs us) (flagged xs us) ++ flagged ys vs) [ true ↦ ap (λ l. x ∷ l) r | false ↦ r ]

-- a flagged place with this value
pub record FlaggedPlace (vs fs : List ℕ) (m : ℕ) : Type 0 where
  pub place : ℕ
  pub within : place < length fs
  pub here : get_or fs place 0 ≡ 1
  pub value : get_or vs place 0 ≡ m

pub next : (v f m : ℕ) (vs fs : List ℕ) → FlaggedPlace vs fs m → FlaggedPlace (v ∷ vs) (f ∷ fs) m
next v f m vs fs p = record { place = suc p.place; within = omega arith; here = p.here; value = p.value }

pub le_or_gt : (a b : ℕ) → (a ≤ b) ⊎ (b < a)
le_or_gt zero b = inl (omega arith)
le_or_gt (suc a) zero = inr (omega arith)
le_or_gt (suc a) (suc b) = elim (le_or_gt a b) [ inl h ↦ inl (omega (arith, h)) | inr h ↦ inr (omega (arith, h)) ]
