-- The two ticks that bound the price.
use Rattle.std.proofs.Common.{◌≡◌, ℕ, ◌+◌, ◌-◌, ◌<◌, ◌≤◌, min, max, Bool, true, false, eqb, List, [], ◌∷◌, filter, All}
use Rattle.std.proofs.Common.{Option, Some, None, ◌⊎◌, inl, inr, refl, sym, ◌∙◌, arith}
use Rattle.std.specs.Option.{option_map_or}
use Rattle.std.proofs.lemmas.Bool.{ltb-true, eqb-true, eq-eqb, ne_eqb, cases_lt, cases_eq, cases_Bool, and_parts}
use Rattle.std.proofs.lemmas.Bool.{and_from}
use Rattle.std.proofs.lemmas.List.Elements.{All-nil, All-cons, All-head, All-tail, All-weaker, All-filter}
use Rattle.std.proofs.lemmas.List.Elements.{filter_passes}
use Rattle.std.proofs.lemmas.Grind.{common_steps}
use Rattle.auction_terms.specs.declared.Order.{Order}
use Rattle.auction_terms.specs.Book.{demand, supply, volume, surplus, has_bid_surplus, has_ask_surplus, limits}
use Rattle.auction_terms.specs.AuctionPrice.{highest, lowest}
use Rattle.auction_terms.proofs.DemandShape.{demand_falls, supply_rises, demand_same, supply_same}
use Rattle.auction_terms.specs.Auxiliary.BestTicks.{Leaders, has_key, keyed, lower_among, upper_among, IsNoBetterThan}
use Rattle.auction_terms.specs.Auxiliary.BestTicks.{AreLeadersOf}
use Rattle.auction_terms.proofs.BestLaws.{on_bid, on_ask, balanced, side_of}

-- ---- the highest and the lowest of a list

highest_of : (P : ℕ → Type 0) (p h : ℕ) (o : Option ℕ) → P p → ((m : ℕ) → o ≡ Some m → P m)
    → Some (option_map_or (max p) o p) ≡ Some h → P h
highest_of P p h o here rest e = grind (arith, common_steps, cases_lt)

-- the highest has what each has
highest_has : (P : ℕ → Type 0) (ps : List ℕ) (h : ℕ) → All P ps → highest ps ≡ Some h → P h
highest_has P [] h all e = absurd (cc)
highest_has P (p ∷ ps) h all e =
    highest_of P p h (highest ps) (All-head P p ps all) (λ m at. highest_has P ps m (All-tail P p ps all) at) e

lowest_of : (P : ℕ → Type 0) (p h : ℕ) (o : Option ℕ) → P p → ((m : ℕ) → o ≡ Some m → P m)
    → Some (option_map_or (min p) o p) ≡ Some h → P h
lowest_of P p h o here rest e = grind (arith, common_steps, cases_lt)

lowest_has : (P : ℕ → Type 0) (ps : List ℕ) (h : ℕ) → All P ps → lowest ps ≡ Some h → P h
lowest_has P [] h all e = absurd (cc)
lowest_has P (p ∷ ps) h all e =
    lowest_of P p h (lowest ps) (All-head P p ps all) (λ m at. lowest_has P ps m (All-tail P p ps all) at) e

no_less : (p h : ℕ) (o : Option ℕ) → Some (option_map_or (max p) o p) ≡ Some h
    → (p ≤ h) × ((m : ℕ) → o ≡ Some m → m ≤ h)
no_less p h o e = grind (arith, common_steps)

no_more : (p h : ℕ) (o : Option ℕ) → Some (option_map_or (min p) o p) ≡ Some h
    → (h ≤ p) × ((m : ℕ) → o ≡ Some m → h ≤ m)
no_more p h o e = grind (arith, common_steps)

-- no element is above the highest
highest_bounds : (ps : List ℕ) (h : ℕ) → highest ps ≡ Some h → All (λ q. q ≤ h) ps
highest_bounds [] h e = All-nil (λ q. q ≤ h)
highest_bounds (p ∷ []) h e = All-cons (λ q. q ≤ h) p [] (no_less p h None e).0 (All-nil (λ q. q ≤ h))
highest_bounds (p ∷ q ∷ ps) h e =
    let m = option_map_or (max q) (highest ps) q in
    grind (arith, common_steps, All-cons, All-weaker, (highest_bounds (q ∷ ps) m refl))

lowest_bounds : (ps : List ℕ) (h : ℕ) → lowest ps ≡ Some h → All (λ q. h ≤ q) ps
lowest_bounds [] h e = All-nil (λ q. h ≤ q)
lowest_bounds (p ∷ []) h e = All-cons (λ q. h ≤ q) p [] (no_more p h None e).0 (All-nil (λ q. h ≤ q))
lowest_bounds (p ∷ q ∷ ps) h e =
    let m = option_map_or (min q) (lowest ps) q in
    grind (arith, common_steps, All-cons, All-weaker, (lowest_bounds (q ∷ ps) m refl))

-- what holds of each element that a filter keeps
filter_tells : (a : ℕ → Bool) (P : ℕ → Type 0) (ps : List ℕ) → All P (filter a ps) → All (λ q. a q ≡ true → P q) ps
filter_tells a P [] all = All-nil (λ q. a q ≡ true → P q)
filter_tells a P (p ∷ ps) all = elim (cases_Bool (a p)) [
  | inl passes ↦
      let kept : All P (p ∷ filter a ps) = rw passes at all in
      All-cons (λ q. a q ≡ true → P q) p ps (λ _. All-head P p (filter a ps) kept)
      (filter_tells a P ps (All-tail P p (filter a ps) kept))
  | inr fails ↦ All-cons (λ q. a q ≡ true → P q) p ps (λ passes. absurd (let h : true ≡ false = sym passes ∙ fails in
      cc)) (filter_tells a P ps (rw fails at all))
]

-- ---- the two kept limits

-- a kept limit has the leaders' volume and surplus, and with a surplus it is on its side
abbrev pub IsKeptLimit : List Order → Leaders → (ℕ → Bool) → ℕ → Type 0
IsKeptLimit book leaders side p =
    (volume book p ≡ leaders.volume) × (surplus book p ≡ leaders.surplus) × (0 < leaders.surplus → side p ≡ true)

pub key_parts : (book : List Order) (v s p : ℕ) → has_key book v s p ≡ true → (volume book p ≡ v) × (surplus book p ≡ s)
key_parts book v s p key = grind (arith, common_steps, and_parts, eqb-true)

pub lower_is_kept : (book : List Order) (leaders : Leaders) (low : ℕ) → AreLeadersOf book (limits book) leaders
    → leaders.lower ≡ Some low → IsKeptLimit book leaders (has_bid_surplus book) low
lower_is_kept book leaders low lead e =
    let v = leaders.volume in
    let s = leaders.surplus in
    let best = keyed book v s (limits book) in
    let found : lower_among book s best ≡ Some low = sym lead.lower ∙ e in
    elim (cases_eq s 0) [
      | inl zero ↦
          let key =
          key_parts book v s low
          (lowest_has (λ q. has_key book v s q ≡ true) best low (filter_passes (has_key book v s) (limits book))
          (rw (eq-eqb s 0 zero) at found)) in
          (key.0, key.1, λ some. absurd (omega arith))
      | inr positive ↦
          let at_bids = rw (ne_eqb s 0 positive) at found in
          let bids = filter (has_bid_surplus book) best in
          let key =
          key_parts book v s low
          (highest_has (λ q. has_key book v s q ≡ true) bids low
          (All-filter (has_bid_surplus book) (λ q. has_key book v s q ≡ true) best
          (filter_passes (has_key book v s) (limits book))) at_bids) in (
            key.0,
            key.1,
            λ some. highest_has (λ q. has_bid_surplus book q ≡ true) bids low
                (filter_passes (has_bid_surplus book) best) at_bids,
          )
    ]

pub upper_is_kept : (book : List Order) (leaders : Leaders) (high : ℕ) → AreLeadersOf book (limits book) leaders
    → leaders.upper ≡ Some high → IsKeptLimit book leaders (has_ask_surplus book) high
upper_is_kept book leaders high lead e =
    let v = leaders.volume in
    let s = leaders.surplus in
    let best = keyed book v s (limits book) in
    let found : upper_among book s best ≡ Some high = sym lead.upper ∙ e in
    elim (cases_eq s 0) [
      | inl zero ↦
          let key =
          key_parts book v s high
          (highest_has (λ q. has_key book v s q ≡ true) best high (filter_passes (has_key book v s) (limits book))
          (rw (eq-eqb s 0 zero) at found)) in
          (key.0, key.1, λ some. absurd (omega arith))
      | inr positive ↦
          let at_asks = rw (ne_eqb s 0 positive) at found in
          let asks = filter (has_ask_surplus book) best in
          let key =
          key_parts book v s high
          (lowest_has (λ q. has_key book v s q ≡ true) asks high
          (All-filter (has_ask_surplus book) (λ q. has_key book v s q ≡ true) best
          (filter_passes (has_key book v s) (limits book))) at_asks) in (
            key.0,
            key.1,
            λ some. lowest_has (λ q. has_ask_surplus book q ≡ true) asks high
                (filter_passes (has_ask_surplus book) best) at_asks,
          )
    ]

-- ---- between the kept limits

-- demand and supply at a tick, for `omega`
pub record Amounts (book : List Order) (p : ℕ) : Type 0 where
  pub least : volume book p ≡ min (demand book p) (supply book p)
  pub apart : surplus book p ≡ (demand book p - supply book p) + (supply book p - demand book p)

pub amounts : (book : List Order) (p : ℕ) → Amounts book p
unfolding volume surplus
amounts book p = record { least = refl; apart = refl }

pub bid_amounts : (book : List Order) (p : ℕ) → has_bid_surplus book p ≡ true → supply book p < demand book p
unfolding has_bid_surplus
bid_amounts book p bid = ltb-true (supply book p) (demand book p) bid

pub ask_amounts : (book : List Order) (p : ℕ) → has_ask_surplus book p ≡ true → demand book p < supply book p
unfolding has_ask_surplus
ask_amounts book p ask = ltb-true (demand book p) (supply book p) ask

-- no limit is strictly between the kept limits of a book with a surplus
clear_between : (book : List Order) (leaders : Leaders) (low high : ℕ) → 0 < leaders.surplus
    → IsKeptLimit book leaders (has_bid_surplus book) low → IsKeptLimit book leaders (has_ask_surplus book) high
    → (q : ℕ)
    → IsNoBetterThan book leaders q
    → (has_key book leaders.volume leaders.surplus q ≡ true → has_bid_surplus book q ≡ true → q ≤ low)
    → (has_key book leaders.volume leaders.surplus q ≡ true → has_ask_surplus book q ≡ true → high ≤ q)
    → (q ≤ low) ⊎ (high ≤ q)
clear_between book leaders low high some at_low at_high q no_better if_bid if_ask = elim (cases_lt low q) [
  | inr inside ↦ inl inside
  | inl above ↦ elim (cases_lt q high) [
    | inr outside ↦ inr outside
    | inl below ↦
        let low_bid = bid_amounts book low (at_low.2 some) in
        let high_ask = ask_amounts book high (at_high.2 some) in
        let d1 = demand_falls book low q (omega arith) in
        let d2 = demand_falls book q high (omega arith) in
        let s1 = supply_rises book low q (omega arith) in
        let s2 = supply_rises book q high (omega arith) in
        let a1 = amounts book low in
        let a2 = amounts book high in
        let a3 = amounts book q in
        let same : volume book q ≡ leaders.volume =
        omega (arith, no_better.0, at_low.0, at_low.1, at_high.0, at_high.1) in
        let at_least = no_better.1 same in
        let equal : surplus book q ≡ leaders.surplus = omega (arith, at_low.0, at_low.1, at_high.0, at_high.1) in
        let key : has_key book leaders.volume leaders.surplus q ≡ true =
        and_from (eqb (volume book q) leaders.volume) (eqb (surplus book q) leaders.surplus)
        (eq-eqb _ leaders.volume same) (eq-eqb _ leaders.surplus equal) in
        elim (side_of book q) [
          | on_bid side bid ask more ↦ inl (if_bid key bid)
          | on_ask side bid ask more ↦ inr (if_ask key ask)
          | balanced side bid ask none ↦ absurd (omega arith)
        ]
  ]
]

all_clear : (book : List Order) (leaders : Leaders) (low high : ℕ) → 0 < leaders.surplus
    → AreLeadersOf book (limits book) leaders → leaders.lower ≡ Some low → leaders.upper ≡ Some high
    → All (λ q. (q ≤ low) ⊎ (high ≤ q)) (limits book)
all_clear book leaders low high some lead is_low is_high =
    let v = leaders.volume in
    let s = leaders.surplus in
    let best = keyed book v s (limits book) in
    let positive : s ≡ 0 → ⊥ = λ e. omega arith in
    let highest_bid : highest (filter (has_bid_surplus book) best) ≡ Some low =
    rw (ne_eqb s 0 positive) at (sym lead.lower ∙ is_low) in
    let lowest_ask : lowest (filter (has_ask_surplus book) best) ≡ Some high =
    rw (ne_eqb s 0 positive) at (sym lead.upper ∙ is_high) in
    let bids = filter_tells (has_key book v s) (λ q. has_bid_surplus book q ≡ true → q ≤ low) (limits book)
    (filter_tells (has_bid_surplus book) (λ q. q ≤ low) best
    (highest_bounds (filter (has_bid_surplus book) best) low highest_bid)) in
    let asks = filter_tells (has_key book v s) (λ q. has_ask_surplus book q ≡ true → high ≤ q) (limits book)
    (filter_tells (has_ask_surplus book) (λ q. high ≤ q) best
    (lowest_bounds (filter (has_ask_surplus book) best) high lowest_ask)) in
    let at_low = lower_is_kept book leaders low lead is_low in
    let at_high = upper_is_kept book leaders high lead is_high in
    λ k d inside. clear_between book leaders low high some at_low at_high _ (lead.none_better k d inside)
    (bids k d inside) (asks k d inside)

-- a tick between the kept limits is balanced, and has the leaders' volume
pub balanced_between : (book : List Order) (leaders : Leaders) (low high r : ℕ)
    → AreLeadersOf book (limits book) leaders → leaders.lower ≡ Some low → leaders.upper ≡ Some high → low < r
    → r < high → (surplus book r ≡ 0) × (leaders.volume ≤ volume book r)
balanced_between book leaders low high r lead is_low is_high above below =
    let at_low = lower_is_kept book leaders low lead is_low in
    let at_high = upper_is_kept book leaders high lead is_high in
    let a1 = amounts book low in
    let a2 = amounts book high in
    let a3 = amounts book r in
    elim (cases_eq leaders.surplus 0) [
      | inl zero ↦
          let d1 = demand_falls book low r (omega arith) in
          let d2 = demand_falls book r high (omega arith) in
          let s1 = supply_rises book low r (omega arith) in
          let s2 = supply_rises book r high (omega arith) in (
            omega (arith, at_low.0, at_low.1, at_high.0, at_high.1),
            omega (arith, at_low.0, at_low.1, at_high.0, at_high.1),
          )
      | inr positive ↦
          let some : 0 < leaders.surplus = omega arith in
          let clear = all_clear book leaders low high some lead is_low is_high in
          let low_bid = bid_amounts book low (at_low.2 some) in
          let high_ask = ask_amounts book high (at_high.2 some) in
          let d =
          demand_same book r high (omega arith)
          (All-weaker (λ q. (q ≤ low) ⊎ (high ≤ q)) (λ q. (q < r) ⊎ (high ≤ q)) (λ q h. elim h [
            | inl a ↦
                inl (omega arith)
            | inr b ↦ inr b
          ]) (limits book) clear) in
          let s =
          supply_same book low r (omega arith)
          (All-weaker (λ q. (q ≤ low) ⊎ (high ≤ q)) (λ q. (q ≤ low) ⊎ (r < q)) (λ q h. elim h [
            | inl a ↦
                inl a
            | inr b ↦ inr (omega arith)
          ]) (limits book) clear) in (
            omega (arith, at_low.0, at_low.1, at_high.0, at_high.1),
            omega (arith, at_low.0, at_low.1, at_high.0, at_high.1),
          )
    ]
