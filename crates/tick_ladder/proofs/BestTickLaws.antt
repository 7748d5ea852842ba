-- The best tick of a side.
use Rattle.std.proofs.Common.{◌≡◌, ℕ, zero, suc, ◌+◌, ◌-◌, ◌≤◌, ◌<◌, inl, inr, true, List, [], ◌∷◌, filter, All, Option}
use Rattle.std.proofs.Common.{Some, None, option_map, length, get_or, sym, ap, ◌∙◌, arith}
use Rattle.std.specs.Prelude.{MatchOption}
use Rattle.std.proofs.lemmas.Bool.{cases_lt, lt-ltb, le-ltb}
use Rattle.std.proofs.lemmas.Grind.{common_steps}
use Rattle.auction_terms.specs.declared.Order.{Order}
use Rattle.auction_terms.specs.declared.Side.{Side}
use Rattle.auction_terms.specs.Book.{limits, is_on}
use Rattle.auction_terms.specs.AuctionPrice.{highest, lowest}
use Rattle.auction_terms.specs.Ladder.{LadderView, ladder_of, tick_values, quantity_at}
use Rattle.auction_terms.specs.Auxiliary.BestTicks.{has}
use Rattle.auction_terms.proofs.TickListLaws.{has-head, has-tail, has-cases, no_tick, none_empty, All_at, highest_agree}
use Rattle.auction_terms.proofs.TickListLaws.{lowest_agree}
use Rattle.auction_terms.proofs.StandingLaws.{standing_limit, limit_standing, side_limit}
use Rattle.auction_terms.proofs.LadderLaws.{length-tick_values, at_spread}
use Rattle.tick_ladder.specs.TickLadder.{positive_ticks, best_tick, best_limit, IsLadderOf}
use Rattle.tick_ladder.specs.OccupiedPlaces.{IsBlank, IsLastIn, IsFirstIn}
use Rattle.tick_ladder.proofs.BeforeLaws.{before_next, before_rises}

-- ---- the ticks with something at them

tick_there : (low : ℕ) (xs : List ℕ) (i : ℕ) → i < length xs → 0 < get_or xs i 0 → has (low + i) (positive_ticks low xs)
    ≡ true
tick_there low [] i lt some = absurd (omega arith)
tick_there low (x ∷ xs) zero lt some = grind (arith, common_steps, lt-ltb, has-head)
tick_there low (x ∷ xs) (suc i) lt some =
    grind (arith, common_steps, cases_lt, lt-ltb, has-tail, le-ltb, (tick_there (low + 1) xs i (omega arith) some))

record TickPlace (low : ℕ) (xs : List ℕ) (t : ℕ) : Type 0 where
  place : ℕ
  within : place < length xs
  tick : low + place ≡ t
  some : 0 < get_or xs place 0

next_place : (low x : ℕ) (xs : List ℕ) (t : ℕ) → TickPlace (low + 1) xs t → TickPlace low (x ∷ xs) t
next_place low x xs t p = record {
  place = suc p.place;
  within = let w = p.within in omega arith;
  tick = let e =
      p.tick in omega arith;
  some = p.some;
}

place_of : (low : ℕ) (xs : List ℕ) (t : ℕ) → has t (positive_ticks low xs) ≡ true → TickPlace low xs t
place_of low [] t e = no_tick t e
place_of low (x ∷ xs) t e = elim (cases_lt 0 x) [
  | inl more ↦ elim (has-cases t low (positive_ticks (low + 1) xs) (rw (lt-ltb 0 x more) at e)) [
    | inl same ↦ record { place = 0; within = omega arith; tick = omega arith; some = more }
    | inr later ↦ next_place low x xs t (place_of (low + 1) xs t later)
  ]
  | inr none ↦ next_place low x xs t (place_of (low + 1) xs t (rw (le-ltb 0 x none) at e))
]

-- nothing above 0 lies where the sums stay
blank_none : (xs : List ℕ) (i j k : ℕ) → IsBlank xs i j → i ≤ k → k < j → 0 < get_or xs k 0 → ⊥
blank_none xs i j k blank from to some =
    omega (arith, blank, before_next xs k, before_rises xs i k from, before_rises xs (k + 1) j (omega arith))

-- ---- what the walks find

pub highest_found : (low : ℕ) (xs : List ℕ) (o : Option ℕ)
    → MatchOption o (IsBlank xs 0 (length xs)) (IsLastIn xs 0 (length xs))
    → option_map (λ i. low + i) o ≡ highest (positive_ticks low xs)
highest_found low xs None blank =
    sym (ap highest (none_empty (positive_ticks low xs) (λ t e. let p = place_of low xs t e in
    blank_none xs 0 (length xs) p.place blank (omega arith) p.within p.some)))
highest_found low xs (Some i) last =
    highest_agree ((low + i) ∷ []) (positive_ticks low xs)
    (λ t e. elim (has-cases t (low + i) [] e) [
      | inl same ↦ (low + i, tick_there low xs i last.within last.positive, omega arith)
      | inr later ↦ no_tick t later
    ])
    (λ t e. let p = place_of low xs t e in
    elim (cases_lt i p.place) [
      | inl above ↦ absurd (blank_none xs (i + 1) (length xs) p.place last.blank (omega arith) p.within p.some)
      | inr below ↦ (low + i, has-head (low + i) [], let at = p.tick in omega arith)
    ])

pub lowest_found : (low : ℕ) (xs : List ℕ) (o : Option ℕ)
    → MatchOption o (IsBlank xs 0 (length xs)) (IsFirstIn xs 0 (length xs))
    → option_map (λ i. low + i) o ≡ lowest (positive_ticks low xs)
lowest_found low xs None blank =
    sym (ap lowest (none_empty (positive_ticks low xs) (λ t e. let p = place_of low xs t e in
    blank_none xs 0 (length xs) p.place blank (omega arith) p.within p.some)))
lowest_found low xs (Some i) first =
    lowest_agree ((low + i) ∷ []) (positive_ticks low xs)
    (λ t e. elim (has-cases t (low + i) [] e) [
      | inl same ↦ (low + i, tick_there low xs i first.within first.positive, omega arith)
      | inr later ↦ no_tick t later
    ])
    (λ t e. let p = place_of low xs t e in
    elim (cases_lt p.place i) [
      | inl below ↦ absurd (blank_none xs 0 i p.place first.blank (omega arith) below p.some)
      | inr above ↦ (low + i, has-head (low + i) [], let at = p.tick in omega arith)
    ])

-- ---- the best tick is the best limit of the book

module _ (low n : ℕ) (s : Side) (book : List Order) (within : All (λ t. (low ≤ t) × (t < low + n)) (limits book))
    (positive : All (λ o. 0 < o.quantity) book) where
  tick_limit : (t : ℕ) → has t (positive_ticks low (tick_values (quantity_at s book) low n)) ≡ true
      → has t (limits (filter (is_on s) book)) ≡ true
  tick_limit t e =
      grind (
        arith,
        common_steps,
        (place_of low (tick_values (quantity_at s book) low n) t e),
        (length-tick_values (quantity_at s book) low n),
        at_spread,
        standing_limit,
      )

  limit_tick : (t : ℕ) → has t (limits (filter (is_on s) book)) ≡ true
      → has t (positive_ticks low (tick_values (quantity_at s book) low n)) ≡ true
  limit_tick t e =
      let bounds = All_at (λ t. (low ≤ t) × (t < low + n)) (limits book) within t (side_limit s book t e) in
      let back : low + (t - low) ≡ t = omega arith in
      let inside : t - low < n = omega arith in
      let here = at_spread (quantity_at s book) low n (t - low) inside ∙ ap (quantity_at s book) back in
      sym (ap (λ u. has u (positive_ticks low (tick_values (quantity_at s book) low n))) back)
      ∙ tick_there low (tick_values (quantity_at s book) low n) (t - low)
      (omega (arith, inside, length-tick_values (quantity_at s book) low n)) (let some =
      limit_standing s book t positive e in omega arith)

  same_highest : highest (positive_ticks low (tick_values (quantity_at s book) low n))
      ≡ highest (limits (filter (is_on s) book))
  same_highest =
      highest_agree _ (limits (filter (is_on s) book)) (λ t e. (t, tick_limit t e, omega arith))
      (λ t e. (t, limit_tick t e, omega arith))

  same_lowest : lowest (positive_ticks low (tick_values (quantity_at s book) low n))
      ≡ lowest (limits (filter (is_on s) book))
  same_lowest =
      lowest_agree _ (limits (filter (is_on s) book)) (λ t e. (t, tick_limit t e, omega arith))
      (λ t e. (t, limit_tick t e, omega arith))

pub best_of_book : (v : LadderView) (side : Side) (book : List Order) → All (λ o. 0 < o.quantity) book
    → IsLadderOf v book → best_tick v side ≡ best_limit book side
unfolding ladder_of
best_of_book v side book positive h = grind (arith, common_steps, same_highest, same_lowest)
