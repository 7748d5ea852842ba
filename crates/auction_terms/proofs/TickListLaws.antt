-- Which ticks a list has, and its highest and lowest.
use Rattle.std.proofs.Common.{◌≡◌, ℕ, ◌≤◌, ◌⊎◌, inl, inr, Bool, true, false, cond, eqb, List, [], ◌∷◌, filter, All}
use Rattle.std.proofs.Common.{Some, min, max, refl, ap, subst, arith}
use Rattle.std.specs.Option.{option_map_or}
use Rattle.std.proofs.lemmas.Bool.{eqb-true, eq-eqb, or_cases, or_left, or_right, cases_lt}
use Rattle.std.proofs.lemmas.List.Elements.{All-nil, All-cons, All-head, All-tail}
use Rattle.std.proofs.lemmas.Grind.{common_steps}
use Rattle.auction_terms.specs.AuctionPrice.{highest, lowest, is_empty}
use Rattle.auction_terms.specs.Auxiliary.BestTicks.{has}

pub no_tick : {X : Type 0} (t : ℕ) → has t [] ≡ true → X
no_tick t e = absurd (let wrong : false ≡ true = e in cc)

pub has-head : (p : ℕ) (ps : List ℕ) → has p (p ∷ ps) ≡ true
has-head p ps = or_left (eqb p p) (has p ps) (eq-eqb p p refl)

pub has-tail : (t p : ℕ) (ps : List ℕ) → has t ps ≡ true → has t (p ∷ ps) ≡ true
has-tail t p ps e = or_right (eqb p t) (has t ps) e

pub has-cases : (t p : ℕ) (ps : List ℕ) → has t (p ∷ ps) ≡ true → (p ≡ t) ⊎ (has t ps ≡ true)
has-cases t p ps e = elim (or_cases (eqb p t) (has t ps) e) [ inl a ↦ inl (eqb-true p t a) | inr b ↦ inr b ]

pub All_at : (P : ℕ → Type 0) (ps : List ℕ) → All P ps → (t : ℕ) → has t ps ≡ true → P t
All_at P [] all t e = no_tick t e
All_at P (p ∷ ps) all t e = elim (has-cases t p ps e) [
  | inl same ↦ subst P same (All-head P p ps all)
  | inr later ↦ All_at P ps (All-tail P p ps all) t later
]

pub All_from : (P : ℕ → Type 0) (ps : List ℕ) → ((t : ℕ) → has t ps ≡ true → P t) → All P ps
All_from P [] h = All-nil P
All_from P (p ∷ ps) h = All-cons P p ps (h p (has-head p ps)) (All_from P ps (λ t e. h t (has-tail t p ps e)))

has_taken : (T : ℕ → Bool) (x : ℕ) (xs : List ℕ) (t : ℕ) (b : Bool) → T x ≡ b → (x ≡ t) ⊎ (has t (filter T xs) ≡ true)
    → T t ≡ true → has t (cond b (x ∷ filter T xs) (filter T xs)) ≡ true
has_taken T x xs t b is e p = grind (arith, common_steps, has-head, has-tail)

pub has-filter : (T : ℕ → Bool) (xs : List ℕ) (t : ℕ) → has t xs ≡ true → T t ≡ true → has t (filter T xs) ≡ true
has-filter T [] t e p = e
has-filter T (x ∷ xs) t e p =
    has_taken T x xs t (T x) refl (elim (has-cases t x xs e) [
      | inl same ↦ inl same
      | inr later ↦
          inr (has-filter T xs t later p)
    ]) p

taken_has : (T : ℕ → Bool) (x : ℕ) (xs : List ℕ) (t : ℕ) (b : Bool) → T x ≡ b
    → (has t (filter T xs) ≡ true → (has t xs ≡ true) × (T t ≡ true)) → has t (cond b (x ∷ filter T xs) (filter T xs))
    ≡ true → (has t (x ∷ xs) ≡ true) × (T t ≡ true)
taken_has T x xs t b is ih e = grind (arith, common_steps, has-cases, has-head, has-tail)

pub filter-has : (T : ℕ → Bool) (xs : List ℕ) (t : ℕ) → has t (filter T xs) ≡ true → (has t xs ≡ true) × (T t ≡ true)
filter-has T [] t e = no_tick t e
filter-has T (x ∷ xs) t e = taken_has T x xs t (T x) refl (filter-has T xs t) e

pub none_empty : (ps : List ℕ) → ((t : ℕ) → has t ps ≡ true → ⊥) → ps ≡ []
none_empty [] h = refl
none_empty (p ∷ ps) h = absurd (h p (has-head p ps))

pub some_in : (ps : List ℕ) → is_empty ps ≡ false → (t : ℕ) × (has t ps ≡ true)
some_in [] e = absurd (let wrong : true ≡ false = e in cc)
some_in (p ∷ ps) e = (p, has-head p ps)

pub not_empty : (ps : List ℕ) (t : ℕ) → has t ps ≡ true → is_empty ps ≡ false
not_empty ps t e = grind (arith, common_steps, no_tick)

record IsHighest (xs : List ℕ) (m : ℕ) : Type 0 where
  here : has m xs ≡ true
  bound : (t : ℕ) → has t xs ≡ true → t ≤ m

record IsLowest (xs : List ℕ) (m : ℕ) : Type 0 where
  here : has m xs ≡ true
  bound : (t : ℕ) → has t xs ≡ true → m ≤ t

highest-cons : (p k : ℕ) (ps : List ℕ) → IsHighest ps k → IsHighest (p ∷ ps) (max p k)
highest-cons p k ps h = grind (arith, common_steps, has-cases, cases_lt, has-tail, has-head)

lowest-cons : (p k : ℕ) (ps : List ℕ) → IsLowest ps k → IsLowest (p ∷ ps) (min p k)
lowest-cons p k ps h = grind (arith, common_steps, has-cases, cases_lt, has-head, has-tail)

highest-first : (p : ℕ) (ps : List ℕ) → IsHighest (p ∷ ps) (option_map_or (max p) (highest ps) p)
highest-first p [] = record {
  here = has-head p [];
  bound =
      λ t e. elim (has-cases t p [] e) [ inl same ↦ omega (arith, same) | inr later ↦ no_tick t later ];
}
highest-first p (q ∷ qs) = highest-cons p (option_map_or (max q) (highest qs) q) (q ∷ qs) (highest-first q qs)

lowest-first : (p : ℕ) (ps : List ℕ) → IsLowest (p ∷ ps) (option_map_or (min p) (lowest ps) p)
lowest-first p [] = record {
  here = has-head p [];
  bound =
      λ t e. elim (has-cases t p [] e) [ inl same ↦ omega (arith, same) | inr later ↦ no_tick t later ];
}
lowest-first p (q ∷ qs) = lowest-cons p (option_map_or (min q) (lowest qs) q) (q ∷ qs) (lowest-first q qs)

pub has-highest : (ps : List ℕ) (m : ℕ) → highest ps ≡ Some m → has m ps ≡ true
has-highest [] m e = absurd (cc)
has-highest (p ∷ ps) m e = let is = highest-first p ps in let same : option_map_or (max p) (highest ps) p ≡ m =
    cc in subst (λ t. has t (p ∷ ps) ≡ true) same is.here

pub has-lowest : (ps : List ℕ) (m : ℕ) → lowest ps ≡ Some m → has m ps ≡ true
has-lowest [] m e = absurd (cc)
has-lowest (p ∷ ps) m e = let is = lowest-first p ps in let same : option_map_or (min p) (lowest ps) p ≡ m =
    cc in subst (λ t. has t (p ∷ ps) ≡ true) same is.here

-- two lists in which each tick of the one is no higher than some tick of the other
pub highest_agree : (xs ys : List ℕ) → ((q : ℕ) → has q xs ≡ true → (c : ℕ) × (has c ys ≡ true) × (q ≤ c))
    → ((q : ℕ) → has q ys ≡ true → (c : ℕ) × (has c xs ≡ true) × (q ≤ c)) → highest xs ≡ highest ys
highest_agree [] [] f g = refl
highest_agree [] (y ∷ ys) f g = let c = g y (has-head y ys) in no_tick c.0 c.1
highest_agree (x ∷ xs) [] f g = let c = f x (has-head x xs) in no_tick c.0 c.1
highest_agree (x ∷ xs) (y ∷ ys) f g =
    let m = option_map_or (max x) (highest xs) x in
    let n = option_map_or (max y) (highest ys) y in
    let a : IsHighest (x ∷ xs) m = highest-first x xs in
    let b : IsHighest (y ∷ ys) n = highest-first y ys in
    let c = f m a.here in
    let d = g n b.here in
    let e : m ≡ n = omega (arith, c.2, b.bound c.0 c.1, d.2, a.bound d.0 d.1) in
    ap Some e

pub lowest_agree : (xs ys : List ℕ) → ((q : ℕ) → has q xs ≡ true → (c : ℕ) × (has c ys ≡ true) × (c ≤ q))
    → ((q : ℕ) → has q ys ≡ true → (c : ℕ) × (has c xs ≡ true) × (c ≤ q)) → lowest xs ≡ lowest ys
lowest_agree [] [] f g = refl
lowest_agree [] (y ∷ ys) f g = let c = g y (has-head y ys) in no_tick c.0 c.1
lowest_agree (x ∷ xs) [] f g = let c = f x (has-head x xs) in no_tick c.0 c.1
lowest_agree (x ∷ xs) (y ∷ ys) f g =
    let m = option_map_or (min x) (lowest xs) x in
    let n = option_map_or (min y) (lowest ys) y in
    let a : IsLowest (x ∷ xs) m = lowest-first x xs in
    let b : IsLowest (y ∷ ys) n = lowest-first y ys in
    let c = f m a.here in
    let d = g n b.here in
    let e : m ≡ n = omega (arith, c.2, b.bound c.0 c.1, d.2, a.bound d.0 d.1) in
    ap Some e
