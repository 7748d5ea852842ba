-- Laws of the price: no tick has more volume, none has any without a price, and a reference that is itself the price is
-- balanced.
use Rattle.std.proofs.Common.{◌≡◌, ℕ, ◌<◌, ◌≤◌, true, false, not, eqb, ltb, leb, List, [], ◌∷◌, filter, fold, All}
use Rattle.std.proofs.Common.{Option, Some, None, option_map, inl, inr, refl, sym, ap, subst, ◌∙◌, arith}
use Rattle.std.specs.List.{list_any, list_all}
use Rattle.std.proofs.lemmas.Bool.{ltb-false, leb-false, eq-eqb, ne_eqb, cases_lt, cases_eq, cases_Bool}
use Rattle.std.proofs.lemmas.List.Elements.{All-nil, All-head, All-tail, All-weaker, filter_passes}
use Rattle.std.proofs.lemmas.Grind.{common_steps}
use Rattle.auction_terms.specs.declared.Order.{Order}
use Rattle.auction_terms.specs.declared.Price.{Price}
use Rattle.auction_terms.specs.Book.{volume, surplus, has_bid_surplus, has_ask_surplus, limits}
use Rattle.auction_terms.specs.AuctionPrice.{lowest, is_empty, priced, lower_end, upper_end, clamp_between, price}
use Rattle.auction_terms.specs.AuctionPrice.{HasMostVolume}
use Rattle.auction_terms.proofs.DemandShape.{demand_same, supply_same, volume_le}
use Rattle.auction_terms.specs.Auxiliary.BestTicks.{Leaders, keyed, lower_among, upper_among, AreLeadersOf, AreBest}
use Rattle.auction_terms.proofs.BestLaws.{on_bid, on_ask, balanced, side_of, next_after, scanned_best}
use Rattle.auction_terms.proofs.ChoiceLaws.{is_limited, limits_empty, best_limits_keyed, best_limits_none, scanned}
use Rattle.auction_terms.proofs.ChoiceLaws.{price_scanned, filter_all, all_or_some}
use Rattle.auction_terms.proofs.KeptLimitLaws.{lower_is_kept, upper_is_kept, balanced_between, key_parts}

-- where the choice falls
pub data Chosen (lower upper : Option ℕ) (r t : ℕ) : Type 0 where
  at_lower : lower ≡ Some t → Chosen lower upper r t
  at_upper : upper ≡ Some t → Chosen lower upper r t
  inside : (low high : ℕ) → lower ≡ Some low → upper ≡ Some high → low < r → r < high → r ≡ t → Chosen lower upper r t

pub clamp_between-chosen : (lower upper : Option ℕ) (r t : ℕ) → clamp_between lower upper r ≡ Some t
    → Chosen lower upper r t
clamp_between-chosen None upper r t e = at_upper e
clamp_between-chosen (Some low) None r t e = at_lower e
clamp_between-chosen (Some low) (Some high) r t e = elim (cases_Bool (leb high r)) [
  | inl past ↦ at_upper (rw past at e)
  | inr not_past ↦ elim (cases_Bool (leb r low)) [
    | inl under ↦ at_lower (rw (not_past, under) at e)
    | inr not_under ↦
        inside low high refl refl (leb-false r low not_under) (leb-false high r not_past) (cc)
  ]
]

volume_flat : (book : List Order) (p q : ℕ) → limits book ≡ [] → volume book p ≡ volume book q
unfolding volume
volume_flat book p q none = grind (arith, common_steps, cases_lt, demand_same, All-nil, supply_same)

-- no tick has more volume than the leaders
pub leaders_most : (book : List Order) (leaders : Leaders) (t : ℕ) → AreLeadersOf book (limits book) leaders
    → volume book t ≤ leaders.volume
leaders_most book leaders t lead = grind (arith, common_steps, volume_le, All-weaker)

pub chosen_volume : (book : List Order) (leaders : Leaders) (r t : ℕ) → AreLeadersOf book (limits book) leaders
    → Chosen leaders.lower leaders.upper r t → leaders.volume ≤ volume book t
chosen_volume book leaders r t lead (at_lower e) = omega (arith, (lower_is_kept book leaders t lead e).0)
chosen_volume book leaders r t lead (at_upper e) = omega (arith, (upper_is_kept book leaders t lead e).0)
chosen_volume book leaders r t lead (inside low high is_low is_high above below same) =
    let P : ℕ → Type 0 = λ q. leaders.volume ≤ volume book q in
    subst P same (balanced_between book leaders low high r lead is_low is_high above below).1

leaders_of : List Order → Option Leaders
leaders_of book = fold (λ best p. next_after best (priced book p)) None (limits book)

best_of : (book : List Order) → AreBest book (limits book) (leaders_of book)
unfolding leaders_of
best_of book = scanned_best book (limits book)

option_map-priced : (book : List Order) (o : Option ℕ) (p : Price) → option_map (priced book) o ≡ Some p
    → (t : ℕ) × (o ≡ Some t)
    × (volume book t ≡ p.volume)
unfolding priced
option_map-priced book o p e = grind (arith, common_steps)

no_limits : (book : List Order) → list_any is_limited book ≡ false → limits book ≡ []
no_limits book none = grind (arith, common_steps, (limits_empty book))

most_scanned : (book : List Order) (r t : ℕ) (p : Price) (leaders : Option Leaders) → AreBest book (limits book) leaders
    → scanned book r leaders ≡ Some p → volume book t ≤ p.volume
most_scanned book r t p (Some leaders) lead e =
    let found = option_map-priced book (clamp_between leaders.lower leaders.upper r) p e in
    omega (
      arith,
      leaders_most book leaders t lead,
      chosen_volume book leaders r found.0 lead (clamp_between-chosen leaders.lower leaders.upper r found.0 found.1),
      found.2,
    )
most_scanned book r t p None none e = elim (cases_Bool (list_any is_limited book)) [
  | inl some ↦ absurd (let wrong : None ≡ Some p = rw some at e in cc)
  | inr no_limit ↦ elim (cases_Bool (ltb 0 (volume book r))) [
    | inl positive ↦
        let same = option_map-priced book (Some r) p (rw (no_limit, positive) at e) in
        let at_r : r ≡ same.0 = let h = same.1 in cc in
        omega (arith, volume_flat book t r (no_limits book no_limit), ap (volume book) at_r, same.2)
    | inr zero ↦ absurd (let wrong : None ≡ Some p = rw (no_limit, zero) at e in cc)
  ]
]

-- no tick has more volume than the price
pub price_most : (book : List Order) (r t : ℕ) (p : Price) → price book r ≡ Some p → volume book t ≤ p.volume
price_most book r t p e =
    most_scanned book r t p (leaders_of book) (best_of book)
    (sym (price_scanned book r (leaders_of book) (best_of book)) ∙ e)

some_lowest : (ps : List ℕ) → is_empty ps ≡ false → lowest ps ≡ None → ⊥
some_lowest ps some none = grind (arith, common_steps)

clamp_between-none : (lower upper : Option ℕ) (r : ℕ) → clamp_between lower upper r ≡ None
    → (lower ≡ None) × (upper ≡ None)
clamp_between-none lower upper r e = grind (arith, common_steps)

no_price : (book : List Order) (o : Option ℕ) → option_map (priced book) o ≡ None → o ≡ None
no_price book o e = grind (arith, common_steps)

-- leaders have a price
leaders_chosen : (book : List Order) (leaders : Leaders) (r : ℕ) → AreLeadersOf book (limits book) leaders
    → clamp_between leaders.lower leaders.upper r ≡ None → ⊥
leaders_chosen book leaders r lead e =
    let v = leaders.volume in
    let s = leaders.surplus in
    let best = keyed book v s (limits book) in
    let none = clamp_between-none leaders.lower leaders.upper r e in
    let no_lower : lower_among book s best ≡ None = sym lead.lower ∙ none.0 in
    let no_upper : upper_among book s best ≡ None = sym lead.upper ∙ none.1 in
    elim (cases_eq s 0) [
      | inl zero ↦ some_lowest best lead.some_among (rw (eq-eqb s 0 zero) at no_lower)
      | inr positive ↦
          let no_bid = rw (ne_eqb s 0 positive) at no_lower in
          let no_ask = rw (ne_eqb s 0 positive) at no_upper in
          elim (cases_Bool (is_empty (filter (has_ask_surplus book) best))) [
            | inr some_ask ↦ some_lowest (filter (has_ask_surplus book) best) some_ask no_ask
            | inl empty ↦
                search (arith, All-weaker, one_side, key_parts, filter_passes, filter_all, all_or_some)
          ]
    ]
  where
    one_side : (book : List Order) (q : ℕ) → 0 < surplus book q → has_bid_surplus book q ≡ not (has_ask_surplus book q)
    one_side book q some = elim (side_of book q) [
      | on_bid side bid ask more ↦ rw (bid, ask) refl
      | on_ask side bid ask more ↦ rw (bid, ask) refl
      | balanced side bid ask none ↦ absurd (omega arith)
    ]

none_scanned : (book : List Order) (r t : ℕ) (leaders : Option Leaders) → AreBest book (limits book) leaders
    → scanned book r leaders ≡ None → volume book t ≡ 0
none_scanned book r t (Some leaders) lead e =
    absurd (leaders_chosen book leaders r lead (no_price book (clamp_between leaders.lower leaders.upper r) e))
none_scanned book r t None none e = elim (cases_Bool (list_any is_limited book)) [
  | inl some ↦
      let at_most =
      volume_le book 0 t (All-weaker (λ q. volume book q ≡ 0) (λ q. volume book q ≤ 0) (λ q h. omega arith)
      (limits book) none)
      (λ empty. absurd (let wrong : is_empty (limits book) ≡ true = ap is_empty empty in let other =
      limits_empty book ∙ ap not some in let clash : true ≡ false = sym wrong ∙ other in cc)) in
      omega arith
  | inr no_limit ↦ elim (cases_Bool (ltb 0 (volume book r))) [
    | inl positive ↦ absurd (let wrong : Some (priced book r) ≡ None = rw (no_limit, positive) at e in cc)
    | inr zero ↦ omega (arith, volume_flat book t r (no_limits book no_limit), ltb-false 0 (volume book r) zero)
  ]
]

-- where there is no price, no tick has volume
pub price_none : (book : List Order) (r t : ℕ) → price book r ≡ None → volume book t ≡ 0
price_none book r t e =
    none_scanned book r t (leaders_of book) (best_of book) (sym (price_scanned book r (leaders_of book) (best_of book))
    ∙ e)

all_zero : (book : List Order) (s : ℕ) (ps : List ℕ) → is_empty ps ≡ false → All (λ q. surplus book q ≡ s) ps
    → list_all (λ q. eqb (surplus book q) 0) ps ≡ eqb s 0
all_zero book s [] some even = absurd (let wrong : true ≡ false = some in cc)
all_zero book s (p ∷ []) some even = grind (arith, common_steps, All-head)
all_zero book s (p ∷ q ∷ ps) some even =
    grind (
      arith,
      common_steps,
      All-head,
      All-tail,
      (all_zero book s (q ∷ ps) refl (All-tail (λ t. surplus book t ≡ s) p (q ∷ ps) even)),
    )

even_keyed : (book : List Order) (v s : ℕ) (ps : List ℕ) → All (λ q. surplus book q ≡ s) (keyed book v s ps)
even_keyed book v s ps = grind (arith, common_steps, All-weaker, key_parts, filter_passes)

lower_kept_is : (book : List Order) (leaders : Leaders) → AreLeadersOf book (limits book) leaders
    → lower_end book ≡ leaders.lower
unfolding lower_end
lower_kept_is book leaders lead =
    let v = leaders.volume in
    let s = leaders.surplus in
    rw (
      best_limits_keyed book leaders lead,
      all_zero book s (keyed book v s (limits book)) lead.some_among
          (even_keyed book v s (limits book)),
    ) (sym lead.lower)

upper_kept_is : (book : List Order) (leaders : Leaders) → AreLeadersOf book (limits book) leaders
    → upper_end book ≡ leaders.upper
unfolding upper_end
upper_kept_is book leaders lead =
    let v = leaders.volume in
    let s = leaders.surplus in
    rw (
      best_limits_keyed book leaders lead,
      all_zero book s (keyed book v s (limits book)) lead.some_among
          (even_keyed book v s (limits book)),
    ) (sym lead.upper)

no_kept : (book : List Order) → All (λ p. volume book p ≡ 0) (limits book) → lower_end book ≡ None
unfolding lower_end
no_kept book none = rw (best_limits_none book none) refl

balanced_scanned : (book : List Order) (r low high : ℕ) (leaders : Option Leaders) → AreBest book (limits book) leaders
    → lower_end book ≡ Some low → upper_end book ≡ Some high → low < r → r < high → surplus book r ≡ 0
balanced_scanned book r low high (Some leaders) lead is_low is_high above below =
    (balanced_between book leaders low high r lead (sym (lower_kept_is book leaders lead) ∙ is_low)
    (sym (upper_kept_is book leaders lead) ∙ is_high) above below).0
balanced_scanned book r low high None none is_low is_high above below =
    absurd (let wrong = sym (no_kept book none) ∙ is_low in cc)

-- a reference strictly between the kept limits is balanced
pub price_balanced : (book : List Order) (r low high : ℕ) → lower_end book ≡ Some low → upper_end book ≡ Some high
    → low < r → r < high → surplus book r ≡ 0
price_balanced book r low high is_low is_high above below =
    balanced_scanned book r low high (leaders_of book) (best_of book) is_low is_high above below

-- the first two of whatever is the price
pub most_of : (book : List Order) (r : ℕ) (found : Option Price) → found ≡ price book r → HasMostVolume book found
most_of book r None e = λ t. price_none book r t (sym e)
most_of book r (Some p) e = λ t. price_most book r t p (sym e)
