-- Flags that mark the ticks of a list.
use Rattle.std.proofs.Common.{◌≡◌, ℕ, zero, suc, ◌≤◌, ◌<◌, inl, inr, Bool, true, cond, ltb, List, [], ◌∷◌, filter}
use Rattle.std.proofs.Common.{Option, Some, None, option_map, length, get_or, refl, sym, ap, arith}
use Rattle.std.specs.Prelude.{MatchOption}
use Rattle.std.specs.Simd.Lanes.{zip2}
use Rattle.std.proofs.lemmas.Bool.{cases_eq, cases_lt, cases_order, eq-eqb, ne_eqb, lt-ltb, le-ltb}
use Rattle.std.proofs.lemmas.Grind.{common_steps}
use Rattle.auction_terms.specs.AuctionPrice.{highest, lowest}
use Rattle.auction_terms.proofs.TickListLaws.{has-head, has-cases, no_tick, none_empty, has-filter, filter-has}
use Rattle.auction_terms.proofs.TickListLaws.{highest_agree, lowest_agree}
use Rattle.lanes.specs.Selection.{kept_if_equal, kept_if_above, NoFlagIn, IsFirstFlag, IsLastFlag}
use Rattle.price_rules.specs.Candidates.{AreMarked}

get_or-nil : (k : ℕ) → get_or {A = ℕ} [] k 0 ≡ 0
get_or-nil k = grind (arith, common_steps)

-- ---- what a kernel leaves at a lane

pub zip_at : (f : ℕ → ℕ → ℕ) (xs ys : List ℕ) (k : ℕ) → f 0 0 ≡ 0 → length xs ≡ length ys
    → get_or (zip2 f xs ys) k 0 ≡ f (get_or xs k 0) (get_or ys k 0)
zip_at f [] [] zero z e = sym z
zip_at f [] [] (suc k) z e = sym z
zip_at f [] (y ∷ ys) k z e = absurd (omega arith)
zip_at f (x ∷ xs) [] k z e = absurd (omega arith)
zip_at f (x ∷ xs) (y ∷ ys) zero z e = refl
zip_at f (x ∷ xs) (y ∷ ys) (suc k) z e = zip_at f xs ys k z (omega arith)

flag_kept : (w v f : ℕ) → kept_if_equal w v f ≡ 1 → (v ≡ w) × (f ≡ 1)
flag_kept w v f h = grind (arith, common_steps, cases_eq, eq-eqb, ne_eqb)

pub kept_parts : (w : ℕ) (vs fs : List ℕ) (k : ℕ) → length vs ≡ length fs → get_or (zip2 (kept_if_equal w) vs fs) k 0
    ≡ 1 → (get_or vs k 0 ≡ w) × (get_or fs k 0 ≡ 1)
kept_parts w [] fs zero e h = absurd (omega arith)
kept_parts w [] fs (suc k) e h = absurd (omega arith)
kept_parts w (v ∷ vs) [] k e h = absurd (omega arith)
kept_parts w (v ∷ vs) (f ∷ fs) zero e h = flag_kept w v f h
kept_parts w (v ∷ vs) (f ∷ fs) (suc k) e h = kept_parts w vs fs k (omega arith) h

pub kept_there : (w : ℕ) (vs fs : List ℕ) (k : ℕ) → length vs ≡ length fs → get_or vs k 0 ≡ w → get_or fs k 0 ≡ 1
    → get_or (zip2 (kept_if_equal w) vs fs) k 0 ≡ 1
kept_there w [] [] k e is h = absurd (omega (arith, h, get_or-nil k))
kept_there w [] (f ∷ fs) k e is h = absurd (omega arith)
kept_there w (v ∷ vs) [] k e is h = absurd (omega arith)
kept_there w (v ∷ vs) (f ∷ fs) zero e is h = rw (eq-eqb v w is) h
kept_there w (v ∷ vs) (f ∷ fs) (suc k) e is h = kept_there w vs fs k (omega arith) is h

flag_above : (a b f : ℕ) → cond (ltb b a) f 0 ≡ 1 → (b < a) × (f ≡ 1)
flag_above a b f h = grind (arith, common_steps, cases_lt, lt-ltb, le-ltb)

pub above_parts : (xs ys fs : List ℕ) (k : ℕ) → length xs ≡ length fs → length ys ≡ length fs
    → get_or (kept_if_above xs ys fs) k 0 ≡ 1 → (get_or ys k 0 < get_or xs k 0) × (get_or fs k 0 ≡ 1)
above_parts [] ys fs zero d e h = absurd (omega arith)
above_parts [] ys fs (suc k) d e h = absurd (omega arith)
above_parts (x ∷ xs) [] fs k d e h = absurd (omega arith)
above_parts (x ∷ xs) (y ∷ ys) [] k d e h = absurd (omega arith)
above_parts (x ∷ xs) (y ∷ ys) (f ∷ fs) zero d e h = flag_above x y f h
above_parts (x ∷ xs) (y ∷ ys) (f ∷ fs) (suc k) d e h = above_parts xs ys fs k (omega arith) (omega arith) h

pub above_there : (xs ys fs : List ℕ) (k : ℕ) → length xs ≡ length fs → length ys ≡ length fs
    → get_or ys k 0 < get_or xs k 0 → get_or fs k 0 ≡ 1 → get_or (kept_if_above xs ys fs) k 0 ≡ 1
above_there [] ys fs k d e less h = absurd (omega (arith, less, get_or-nil k))
above_there (x ∷ xs) [] fs k d e less h = absurd (omega arith)
above_there (x ∷ xs) (y ∷ ys) [] k d e less h = absurd (omega arith)
above_there (x ∷ xs) (y ∷ ys) (f ∷ fs) zero d e less h = rw (lt-ltb y x less) h
above_there (x ∷ xs) (y ∷ ys) (f ∷ fs) (suc k) d e less h = above_there xs ys fs k (omega arith) (omega arith) less h

pub flag-inside : (fs : List ℕ) (k : ℕ) → get_or fs k 0 ≡ 1 → k < length fs
flag-inside [] k h = absurd (omega (arith, h, get_or-nil k))
flag-inside (f ∷ fs) zero h = omega arith
flag-inside (f ∷ fs) (suc k) h = let rest = flag-inside fs k h in omega arith

-- ---- the lowest and the highest marked tick

module _ (ts fs few : List ℕ) (marked : AreMarked ts fs few) where
  no_mark : NoFlagIn fs 0 (length fs) → few ≡ []
  no_mark none = none_empty few (λ t e. let p = marked.place t e in none p.0 (omega arith) p.1 p.2)

  module _ (rising : (j k : ℕ) → j < k → get_or fs j 0 ≡ 1 → get_or fs k 0 ≡ 1 → get_or ts j 0 ≤ get_or ts k 0) where
    pub lowest_at : (o : Option ℕ) → MatchOption o (NoFlagIn fs 0 (length fs)) (IsFirstFlag fs)
        → option_map (λ i. get_or ts i 0) o ≡ lowest few
    lowest_at None none = sym (ap lowest (no_mark none))
    lowest_at (Some i) first =
        lowest_agree (get_or ts i 0 ∷ []) few
        (λ t e. elim (has-cases t (get_or ts i 0) [] e) [
          | inl same ↦ (get_or ts i 0, marked.there i first.here, omega arith)
          | inr later ↦ no_tick t later
        ])
        (λ t e. let p = marked.place t e in
        elim (cases_order i p.0) [
          | inl same ↦ (
            get_or ts i 0,
            has-head (get_or ts i 0) [],
            let here = ap (λ n. get_or ts n 0) same in
                omega (arith, here, p.3),
          )
          | inr apart ↦ elim apart [
            | inl less ↦ (
              get_or ts i 0,
              has-head (get_or ts i 0) [],
              let least = rising i p.0 less first.here p.2 in
                  omega (arith, p.3),
            )
            | inr more ↦ absurd (first.before p.0 (omega arith) more p.2)
          ]
        ])

    pub highest_at : (o : Option ℕ) → MatchOption o (NoFlagIn fs 0 (length fs)) (IsLastFlag fs)
        → option_map (λ i. get_or ts i 0) o ≡ highest few
    highest_at None none = sym (ap highest (no_mark none))
    highest_at (Some i) last =
        highest_agree (get_or ts i 0 ∷ []) few
        (λ t e. elim (has-cases t (get_or ts i 0) [] e) [
          | inl same ↦ (get_or ts i 0, marked.there i last.here, omega arith)
          | inr later ↦ no_tick t later
        ])
        (λ t e. let p = marked.place t e in
        elim (cases_order i p.0) [
          | inl same ↦ (
            get_or ts i 0,
            has-head (get_or ts i 0) [],
            let here = ap (λ n. get_or ts n 0) same in
                omega (arith, here, p.3),
          )
          | inr apart ↦ elim apart [
            | inl less ↦ absurd (last.after p.0 (omega arith) p.1 p.2)
            | inr more ↦ (
              get_or ts i 0,
              has-head (get_or ts i 0) [],
              let most = rising p.0 i more p.2 last.here in
                  omega (arith, p.3),
            )
          ]
        ])

-- the flags that are left where a test holds mark the ticks that pass it
pub marked_part : (ts fs gs few : List ℕ) (T : ℕ → Bool) → AreMarked ts fs few
    → ((k : ℕ) → get_or gs k 0 ≡ 1 → (T (get_or ts k 0) ≡ true) × (get_or fs k 0 ≡ 1))
    → ((k : ℕ) → T (get_or ts k 0) ≡ true → get_or fs k 0 ≡ 1 → get_or gs k 0 ≡ 1) → AreMarked ts gs (filter T few)
marked_part ts fs gs few T marked parts back = grind (arith, common_steps, has-filter, filter-has, flag-inside)
