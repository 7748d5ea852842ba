-- The limits around the crossing represent all.
use Rattle.std.proofs.Common.{◌≡◌, ℕ, ◌+◌, ◌-◌, ◌≤◌, ◌<◌, ◌⊎◌, inl, inr, true, List, [], ◌∷◌, ◌++◌, Option, Some, None}
use Rattle.std.proofs.Common.{length, get_or, min, refl, sym, ap, subst, ◌∙◌, arith}
use Rattle.std.specs.Prelude.{MatchOption}
use Rattle.std.proofs.lemmas.Bool.{lt-ltb, ltb-true, cases_order, cases_Bool}
use Rattle.std.proofs.lemmas.Grind.{common_steps}
use Rattle.auction_terms.specs.declared.Order.{Order}
use Rattle.auction_terms.specs.Book.{demand, supply, volume, surplus, limits}
use Rattle.auction_terms.specs.Ladder.{LadderView}
use Rattle.tick_ladder.specs.OccupiedPlaces.{IsClear, IsLast, IsFirst, IsCrossingOf, IsLastBefore, IsFirstFrom}
use Rattle.tick_ladder.specs.declared.Crossing.{Crossing}
use Rattle.tick_ladder.proofs.BeforeLaws.{before_next, before_rises}
use Rattle.auction_terms.proofs.KeptLimitLaws.{amounts}
use Rattle.price_rules.specs.declared.surroundings.Around.{Around}
use Rattle.price_rules.specs.Around.{IsAround, IsFar, here_at, tick_list, few_limits}
use Rattle.auction_terms.specs.Auxiliary.BestTicks.{has}
use Rattle.auction_terms.proofs.TickListLaws.{has-head, has-tail, has-cases, no_tick}
use Rattle.price_rules.proofs.CoverLaws.{Covered, among, beaten, behind, StandFor}
use Rattle.price_rules.proofs.CurveLaws.{HasCurvesOf}

-- ---- lists of ticks joined

pub has-left : (t : ℕ) (xs ys : List ℕ) → has t xs ≡ true → has t (xs ++ ys) ≡ true
has-left t [] ys e = no_tick t e
has-left t (x ∷ xs) ys e = elim (has-cases t x xs e) [
  | inl same ↦ subst (λ n. has n (x ∷ (xs ++ ys)) ≡ true) same (has-head x (xs ++ ys))
  | inr later ↦ has-tail t x (xs ++ ys) (has-left t xs ys later)
]

pub has-right : (t : ℕ) (xs ys : List ℕ) → has t ys ≡ true → has t (xs ++ ys) ≡ true
has-right t [] ys e = e
has-right t (x ∷ xs) ys e = has-tail t x (xs ++ ys) (has-right t xs ys e)

pub has-either : (t : ℕ) (xs ys : List ℕ) → has t (xs ++ ys) ≡ true → (has t xs ≡ true) ⊎ (has t ys ≡ true)
has-either t [] ys e = inr e
has-either t (x ∷ xs) ys e = elim (has-cases t x (xs ++ ys) e) [
  | inl same ↦ inl (subst (λ n. has n (x ∷ xs) ≡ true) same (has-head x xs))
  | inr later ↦ grind (arith, common_steps, has-tail, (has-either t xs ys later))
]

pub has_one : (low i : ℕ) → has (low + i) (tick_list low (Some i)) ≡ true
has_one low i = has-head (low + i) []

pub one_is : (low t : ℕ) (o : Option ℕ) → has t (tick_list low o) ≡ true → (i : ℕ) × (o ≡ Some i) × (low + i ≡ t)
one_is low t o e = grind (arith, common_steps, no_tick, has-cases)

-- ---- where something is and where nothing is

pub clear_none : (b a : List ℕ) (i j k : ℕ) → IsClear b a i j → i ≤ k → k < j → 0 < get_or b k 0 + get_or a k 0 → ⊥
clear_none b a i j k clear from to some =
    grind (arith, common_steps, (before_next b k), (before_next a k), before_rises)

-- ---- which of two limits is better

-- more demand and less supply, some of it strictly, below a tick that is not oversupplied
beaten_by : (di si vi ai dp sp vp ap b k : ℕ) → vi ≡ min di si → ai ≡ (di - si) + (si - di) → vp ≡ min dp sp
    → ap ≡ (dp - sp) + (sp - dp) → dp + b ≤ di → si + k ≤ sp → 0 < b + k → sp ≤ dp → (vi ≤ vp) × (vi ≡ vp → ap < ai)
beaten_by di si vi ai dp sp vp ap b k h1 h2 h3 h4 h5 h6 h7 h8 = (omega arith, λ e. omega arith)

behind_of : (di si vi ai dc sc vc ac : ℕ) → vi ≡ min di si → ai ≡ (di - si) + (si - di) → vc ≡ min dc sc
    → ac ≡ (dc - sc) + (sc - dc) → di ≤ dc → sc ≤ si → dc < sc → (di < si) × (vi ≤ vc) × (vi ≡ vc → ac ≤ ai)
behind_of di si vi ai dc sc vc ac h1 h2 h3 h4 h5 h6 h7 = (omega arith, omega arith, λ e. omega arith)

-- a limit below two others, the upper of which is not past the crossing
below_two : (v : LadderView) (book : List Order) (c : Crossing) (few : List ℕ) (i f p : ℕ) → HasCurvesOf v book
    → IsCrossingOf v c → i < f → f < p → p < c.place → 0 < get_or v.bids f 0 + get_or v.asks f 0
    → has (v.low + p) few ≡ true → Covered book few (v.low + i)
below_two v book c few i f p tells cross il fl pl some at =
    let ai = amounts book (v.low + i) in
    let ap = amounts book (v.low + p) in
    let more : demand book (v.low + p) + get_or v.bids f 0 ≤ demand book (v.low + i) =
    omega (
      arith,
      before_rises v.bids i f (omega arith),
      before_next v.bids f,
      before_rises v.bids (f + 1) p (omega arith),
    ) in
    let less : supply book (v.low + i) + get_or v.asks f 0 ≤ supply book (v.low + p) =
    omega (
      arith,
      before_rises v.asks (i + 1) f (omega arith),
      before_next v.asks f,
      before_rises v.asks (f + 1) (p + 1) (omega arith),
    ) in
    let level : supply book (v.low + p) ≤ demand book (v.low + p) =
    omega (
      arith,
      cross.demand_is,
      cross.below_is,
      before_rises v.bids p c.place (omega arith),
      before_rises v.asks (p + 1) c.place (omega arith),
    ) in
    let r =
    beaten_by (demand book (v.low + i)) (supply book (v.low + i)) (volume book (v.low + i))
    (surplus book (v.low + i)) (demand book (v.low + p)) (supply book (v.low + p)) (volume book (v.low + p))
    (surplus book (v.low + p)) (get_or v.bids f 0) (get_or v.asks f 0) ai.least ai.apart ap.least ap.apart more less
    some level in
    beaten (v.low + p) at r.0 r.1

-- a limit above another that is past the crossing
above_one : (v : LadderView) (book : List Order) (c : Crossing) (few : List ℕ) (i p : ℕ) → HasCurvesOf v book
    → IsCrossingOf v c → c.place + 1 ≤ p → p < i → i < length v.bids → has (v.low + p) few ≡ true
    → Covered book few (v.low + i)
above_one v book c few i p tells cross from il top at =
    let ai = amounts book (v.low + i) in
    let ap = amounts book (v.low + p) in
    let less : demand book (v.low + i) ≤ demand book (v.low + p) =
    omega (arith, before_rises v.bids p i (omega arith)) in
    let more : supply book (v.low + p) ≤ supply book (v.low + i) =
    omega (arith, before_rises v.asks (p + 1) (i + 1) (omega arith)) in
    let under : demand book (v.low + p) < supply book (v.low + p) =
    omega (
      arith,
      before_rises v.bids (c.place + 1) p (omega arith),
      before_rises v.asks (c.place + 1) (p + 1) (omega arith),
    ) in
    let r =
    behind_of (demand book (v.low + i)) (supply book (v.low + i)) (volume book (v.low + i))
    (surplus book (v.low + i)) (demand book (v.low + p)) (supply book (v.low + p)) (volume book (v.low + p))
    (surplus book (v.low + p)) ai.least ai.apart ap.least ap.apart less more under in
    behind (v.low + p) at (omega arith) under r.0 r.1 r.2

-- ---- every limit is covered

cover_far : (v : LadderView) (book : List Order) (c : Crossing) (few : List ℕ) (i p : ℕ) (far : Option ℕ)
    → HasCurvesOf v book
    → IsCrossingOf v c → 0 < get_or v.bids i 0 + get_or v.asks i 0 → i < p → p < c.place → has (v.low + p) few ≡ true
    → ((t : ℕ) → has t (tick_list v.low far) ≡ true → has t few ≡ true) → IsLastBefore v p far
    → Covered book few (v.low + i)
cover_far v book c few i p None tells cross some il pl at into far =
    absurd (clear_none v.bids v.asks 0 p i far (omega arith) il some)
cover_far v book c few i p (Some f) tells cross some il pl at into far = elim (cases_order i f) [
  | inl same ↦
      among (into (v.low + i) (ap (λ n. has (v.low + i) (tick_list v.low (Some n))) (sym same) ∙ has_one v.low i))
  | inr apart ↦ elim apart [
    | inl less ↦ let w = far.within in below_two v book c few i f p tells cross less w pl far.stands at
    | inr more ↦ absurd (clear_none v.bids v.asks (f + 1) p i far.clear (omega arith) il some)
  ]
]

cover_below : (v : LadderView) (book : List Order) (c : Crossing) (few : List ℕ) (i : ℕ) (near far : Option ℕ)
    → HasCurvesOf v book → IsCrossingOf v c → 0 < get_or v.bids i 0 + get_or v.asks i 0 → i < c.place
    → ((t : ℕ) → has t (tick_list v.low near) ≡ true → has t few ≡ true)
    → ((t : ℕ) → has t (tick_list v.low far) ≡ true → has t few ≡ true) → IsLastBefore v c.place near → IsFar v near far
    → Covered book few (v.low + i)
cover_below v book c few i None far tells cross some il into into_far near is =
    absurd (clear_none v.bids v.asks 0 c.place i near (omega arith) il some)
cover_below v book c few i (Some p) far tells cross some il into into_far near is = elim (cases_order i p) [
  | inl same ↦
      among (into (v.low + i) (ap (λ n. has (v.low + i) (tick_list v.low (Some n))) (sym same) ∙ has_one v.low i))
  | inr apart ↦ elim apart [
    | inl less ↦ cover_far v book c few i p far tells cross some less near.within (into (v.low + p) (has_one v.low p))
        into_far is
    | inr more ↦ absurd (clear_none v.bids v.asks (p + 1) c.place i near.clear (omega arith) il some)
  ]
]

cover_above : (v : LadderView) (book : List Order) (c : Crossing) (few : List ℕ) (i : ℕ) (after : Option ℕ)
    → HasCurvesOf v book → IsCrossingOf v c → 0 < get_or v.bids i 0 + get_or v.asks i 0 → c.place < i
    → i < length v.bids
    → ((t : ℕ) → has t (tick_list v.low after) ≡ true → has t few ≡ true) → IsFirstFrom v (c.place + 1) after
    → Covered book few (v.low + i)
cover_above v book c few i None tells cross some il top into after =
    absurd (clear_none v.bids v.asks (c.place + 1) (length v.bids) i after (omega arith) top some)
cover_above v book c few i (Some p) tells cross some il top into after = elim (cases_order i p) [
  | inl same ↦
      among (into (v.low + i) (ap (λ n. has (v.low + i) (tick_list v.low (Some n))) (sym same) ∙ has_one v.low i))
  | inr apart ↦ elim apart [
    | inl less ↦ absurd (clear_none v.bids v.asks (c.place + 1) p i after.clear (omega arith) less some)
    | inr more ↦ above_one v book c few i p tells cross after.from more top (into (v.low + p) (has_one v.low p))
  ]
]

here_some : (v : LadderView) (p : ℕ) → 0 < get_or v.bids p 0 + get_or v.asks p 0 → here_at v p ≡ Some p
here_some v p some = rw (lt-ltb 0 (get_or v.bids p 0 + get_or v.asks p 0) some) refl

pub here_is : (v : LadderView) (p i : ℕ) → here_at v p ≡ Some i → (p ≡ i) × (0 < get_or v.bids p 0 + get_or v.asks p 0)
here_is v p i e = grind (arith, common_steps, cases_Bool, ltb-true)

pub last_stands : (b a : List ℕ) (j i : ℕ) (o : Option ℕ) → o ≡ Some i
    → MatchOption o (IsClear b a 0 j) (IsLast b a 0 j) → IsLast b a 0 j i
last_stands b a j i o e h = grind (arith, common_steps)

pub first_stands : (b a : List ℕ) (s j i : ℕ) (o : Option ℕ) → o ≡ Some i
    → MatchOption o (IsClear b a s j) (IsFirst b a s j) → IsFirst b a s j i
first_stands b a s j i o e h = grind (arith, common_steps)

pub far_stands : (v : LadderView) (j i : ℕ) (near far : Option ℕ) → far ≡ Some i → IsLastBefore v j near
    → IsFar v near far → (i < j) × (0 < get_or v.bids i 0 + get_or v.asks i 0)
far_stands v j i near far e is_near is = grind (arith, common_steps, last_stands)

pub stand_around : (v : LadderView) (book : List Order) (a : Around) → HasCurvesOf v book → IsAround v a
    → StandFor book (few_limits v a)
stand_around v book a tells is =
    let c = a.crossing in
    let low = v.low in
    let far = tick_list low a.far in
    let near = tick_list low a.near in
    let here = tick_list low (here_at v c.place) in
    let after = tick_list low a.after in
    let few = few_limits v a in
    let in_far : (t : ℕ) → has t far ≡ true → has t few ≡ true =
    λ t e. has-left t ((far ++ near) ++ here) after (has-left t (far ++ near) here (has-left t far near e)) in
    let in_near : (t : ℕ) → has t near ≡ true → has t few ≡ true =
    λ t e. has-left t ((far ++ near) ++ here) after (has-left t (far ++ near) here (has-right t far near e)) in
    let in_here : (t : ℕ) → has t here ≡ true → has t few ≡ true =
    λ t e. has-left t ((far ++ near) ++ here) after (has-right t (far ++ near) here e) in
    let in_after : (t : ℕ) → has t after ≡ true → has t few ≡ true =
    λ t e. has-right t ((far ++ near) ++ here) after e in
    let cross = is.crossing in
    let inside = cross.within in
    let found : (t i : ℕ) → low + i ≡ t → i < length v.bids → 0 < get_or v.bids i 0 + get_or v.asks i 0
    → has t (limits book) ≡ true =
    λ t i e lt some. ap (λ n. has n (limits book)) (sym e) ∙ tells.limit_at i lt some in
    record {
      limits_too = λ t e. elim (has-either t ((far ++ near) ++ here) after e) [
        | inr at ↦ let o = one_is low t a.after at in
            let f = first_stands v.bids v.asks (c.place + 1) (length v.bids) o.0 a.after o.1 is.after in
            found t o.0 o.2 f.within f.stands
        | inl at ↦ elim (has-either t (far ++ near) here at) [
          | inr at ↦ let o = one_is low t (here_at v c.place) at in let h = here_is v c.place o.0 o.1 in
              found t c.place (ap (λ n. low + n) h.0 ∙ o.2) inside h.1
          | inl at ↦ elim (has-either t far near at) [
            | inr at ↦ let o = one_is low t a.near at in
                let f = last_stands v.bids v.asks c.place o.0 a.near o.1 is.near in
                found t o.0 o.2 (let w = f.within in omega arith) f.stands
            | inl at ↦ let o = one_is low t a.far at in
                let f = far_stands v c.place o.0 a.near a.far o.1 is.near is.far in
                found t o.0 o.2 (let w = f.0 in omega arith) f.1
          ]
        ]
      ];
      covers = λ q e.
          let place = tells.place_of q e in
          let i = place.0 in
          let some = place.3 in
          subst (Covered book few) place.2 (elim (cases_order i c.place) [
            | inl same ↦
                among
                (in_here (low + i)
                (ap (λ o. has (low + i) (tick_list low o))
                (here_some v c.place (subst (λ n. 0 < get_or v.bids n 0 + get_or v.asks n 0) same some))
                ∙ ap (λ n. has (low + i) (tick_list low (Some n))) (sym same) ∙ has_one low i))
            | inr apart ↦ elim apart [
              | inl less ↦ cover_below v book c few i a.near a.far tells cross some less in_near in_far is.near is.far
              | inr more ↦ cover_above v book c few i a.after tells cross some more place.1 in_after is.after
            ]
          ]);
    }
