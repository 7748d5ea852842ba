-- A few limits that represent all limits of a book.
use Rattle.std.proofs.Common.{◌≡◌, ℕ, ◌<◌, ◌≤◌, inl, inr, Bool, true, eqb, List, filter, All, Option, Some, None, ◌∙◌}
use Rattle.std.proofs.Common.{arith}
use Rattle.std.proofs.lemmas.Bool.{eq-eqb, ne_eqb, cases_eq, lt-ltb, and_from}
use Rattle.std.proofs.lemmas.Grind.{common_steps}
use Rattle.auction_terms.specs.declared.Order.{Order}
use Rattle.auction_terms.specs.Book.{demand, supply, volume, surplus, has_bid_surplus, has_ask_surplus, limits}
use Rattle.auction_terms.specs.Auxiliary.BestTicks.{Leaders, has, has_key, keyed, lower_among, upper_among}
use Rattle.auction_terms.specs.Auxiliary.BestTicks.{IsNoBetterThan, AreLeadersOf, AreBest}
use Rattle.auction_terms.proofs.KeptLimitLaws.{amounts, bid_amounts, key_parts}
use Rattle.auction_terms.proofs.TickListLaws.{All_at, All_from, has-filter, filter-has, some_in, not_empty}
use Rattle.auction_terms.proofs.TickListLaws.{highest_agree, lowest_agree}

-- q adds nothing to these ticks: it is one of them, or worse than one, or no better and farther away on the side of the
-- asks
pub data Covered (book : List Order) (few : List ℕ) (q : ℕ) : Type 0 where
  among : has q few ≡ true → Covered book few q
  beaten : (c : ℕ) → has c few ≡ true → volume book q ≤ volume book c
      → (volume book q ≡ volume book c → surplus book c < surplus book q) → Covered book few q
  behind : (c : ℕ) → has c few ≡ true → c ≤ q → demand book c < supply book c → demand book q < supply book q
      → volume book q ≤ volume book c → (volume book q ≡ volume book c → surplus book c ≤ surplus book q)
      → Covered book few q

-- the few are limits, and every limit is covered
pub record StandFor (book : List Order) (few : List ℕ) : Type 0 where
  pub limits_too : (q : ℕ) → has q few ≡ true → has q (limits book) ≡ true
  pub covers : (q : ℕ) → has q (limits book) ≡ true → Covered book few q

no_better : (book : List Order) (few : List ℕ) (leaders : Leaders) (q : ℕ)
    → ((c : ℕ) → has c few ≡ true → IsNoBetterThan book leaders c) → Covered book few q → IsNoBetterThan book leaders q
no_better book few leaders q all covered = grind (arith, common_steps)

-- a covered limit as good as the leaders is one of the few, or beyond one that is as good
data IsGoodTick (book : List Order) (few : List ℕ) (v s q : ℕ) : Type 0 where
  one : has q few ≡ true → IsGoodTick book few v s q
  farther : (c : ℕ) → has c few ≡ true → has_key book v s c ≡ true → c ≤ q → demand book c < supply book c
      → demand book q < supply book q → IsGoodTick book few v s q

good : (book : List Order) (few : List ℕ) (leaders : Leaders) (q : ℕ)
    → ((c : ℕ) → has c few ≡ true → IsNoBetterThan book leaders c) → has_key book leaders.volume leaders.surplus q
    ≡ true → Covered book few q → IsGoodTick book few leaders.volume leaders.surplus q
good book few leaders q all key (among h) = one h
good book few leaders q all key (beaten c h less worse) = grind (arith, common_steps, key_parts)
good book few leaders q all key (behind c h far ask_c ask_q less worse) =
    let k = key_parts book leaders.volume leaders.surplus q key in
    let b = all c h in
    let same : volume book c ≡ leaders.volume = omega (arith, b.0, k.0) in
    let equal : surplus book c ≡ leaders.surplus = omega (arith, k.1) in
    farther c h (and_from (eqb (volume book c) leaders.volume) (eqb (surplus book c) leaders.surplus)
    (eq-eqb _ leaders.volume same) (eq-eqb _ leaders.surplus equal)) far ask_c ask_q

ask_true : (book : List Order) (q : ℕ) → demand book q < supply book q → has_ask_surplus book q ≡ true
unfolding has_ask_surplus
ask_true book q h = lt-ltb (demand book q) (supply book q) h

apart_some : (book : List Order) (q : ℕ) → demand book q < supply book q → 0 < surplus book q
apart_some book q h = let a = amounts book q in omega (arith, a.apart)

-- the transfer of the leaders from the few to all limits
lead_all : (book : List Order) (few : List ℕ) (leaders : Leaders) → StandFor book few → AreLeadersOf book few leaders
    → AreLeadersOf book (limits book) leaders
lead_all book few leaders stand lead =
    let v = leaders.volume in
    let s = leaders.surplus in
    let all = limits book in
    let each : (c : ℕ) → has c few ≡ true → IsNoBetterThan book leaders c =
    All_at (IsNoBetterThan book leaders) few lead.none_better in
    let into : (q : ℕ) → has q (keyed book v s few) ≡ true → has q (keyed book v s all) ≡ true =
    λ q e. let h = filter-has (has_key book v s) few q e in
    has-filter (has_key book v s) all q (stand.limits_too q h.0) h.1 in
    let back : (q : ℕ) → has q (keyed book v s all) ≡ true → IsGoodTick book few v s q =
    λ q e. let h = filter-has (has_key book v s) all q e in good book few leaders q each h.1 (stand.covers q h.0) in
    let some = some_in (keyed book v s few) lead.some_among in
    record {
      positive = lead.positive;
      none_better =
          All_from (IsNoBetterThan book leaders) all (λ q e. no_better book few leaders q each (stand.covers q e));
      some_among = not_empty (keyed book v s all) some.0 (into some.0 some.1);
      lower = lead.lower ∙ same_lower book few all v s into back;
      upper = lead.upper ∙ same_upper book few all v s into back;
    }
  where
    even_back : (book : List Order) (few all : List ℕ) (v s : ℕ) → s ≡ 0
        → ((q : ℕ) → has q (keyed book v s all) ≡ true → IsGoodTick book few v s q) → (q : ℕ)
        → has q (keyed book v s all) ≡ true → has q (keyed book v s few) ≡ true
    even_back book few all v s zero back q e =
        let h = filter-has (has_key book v s) all q e in
        let k = key_parts book v s q h.1 in
        elim (back q e) [
          | one at ↦ has-filter (has_key book v s) few q at h.1
          | farther c at key far ask_c ask_q ↦ absurd (let some = apart_some book q ask_q in omega (arith, k.1))
        ]

    bid_back : (book : List Order) (few all : List ℕ) (v s : ℕ)
        → ((q : ℕ) → has q (keyed book v s all) ≡ true → IsGoodTick book few v s q) → (q : ℕ)
        → has q (filter (has_bid_surplus book) (keyed book v s all)) ≡ true
        → has q (filter (has_bid_surplus book) (keyed book v s few)) ≡ true
    bid_back book few all v s back q e =
        let g = filter-has (has_bid_surplus book) (keyed book v s all) q e in
        let h = filter-has (has_key book v s) all q g.0 in
        elim (back q g.0) [
          | one at ↦
              has-filter (has_bid_surplus book) (keyed book v s few) q (has-filter (has_key book v s) few q at h.1) g.1
          | farther c at key far ask_c ask_q ↦ absurd (let more = bid_amounts book q g.1 in omega arith)
        ]

    ask_back : (book : List Order) (few all : List ℕ) (v s : ℕ)
        → ((q : ℕ) → has q (keyed book v s all) ≡ true → IsGoodTick book few v s q) → (q : ℕ)
        → has q (filter (has_ask_surplus book) (keyed book v s all)) ≡ true
        → (c : ℕ) × (has c (filter (has_ask_surplus book) (keyed book v s few)) ≡ true) × (c ≤ q)
    ask_back book few all v s back q e =
        let g = filter-has (has_ask_surplus book) (keyed book v s all) q e in
        let h = filter-has (has_key book v s) all q g.0 in
        elim (back q g.0) [
          | one at ↦ (
            q,
            has-filter (has_ask_surplus book) (keyed book v s few) q (has-filter (has_key book v s) few q at h.1)
                g.1,
            omega arith,
          )
          | farther c at key far ask_c ask_q ↦ (
            c,
            has-filter (has_ask_surplus book) (keyed book v s few) c (has-filter (has_key book v s) few c at key)
                (ask_true book c ask_c),
            far,
          )
        ]

    side_into : (book : List Order) (few all : List ℕ) (v s : ℕ) (T : ℕ → Bool)
        → ((q : ℕ) → has q (keyed book v s few) ≡ true → has q (keyed book v s all) ≡ true) → (q : ℕ)
        → has q (filter T (keyed book v s few)) ≡ true → has q (filter T (keyed book v s all)) ≡ true
    side_into book few all v s T into q e =
        let g = filter-has T (keyed book v s few) q e in
        has-filter T (keyed book v s all) q (into q g.0) g.1

    same_lower : (book : List Order) (few all : List ℕ) (v s : ℕ)
        → ((q : ℕ) → has q (keyed book v s few) ≡ true → has q (keyed book v s all) ≡ true)
        → ((q : ℕ) → has q (keyed book v s all) ≡ true → IsGoodTick book few v s q)
        → lower_among book s (keyed book v s few)
        ≡ lower_among book s (keyed book v s all)
    same_lower book few all v s into back = elim (cases_eq s 0) [
      | inl zero ↦
          rw (eq-eqb s 0 zero)
          (lowest_agree (keyed book v s few) (keyed book v s all) (λ q e. (q, into q e, omega arith))
          (λ q e. (q, even_back book few all v s zero back q e, omega arith)))
      | inr positive ↦
          rw (ne_eqb s 0 positive)
          (highest_agree (filter (has_bid_surplus book) (keyed book v s few))
          (filter (has_bid_surplus book) (keyed book v s all))
          (λ q e. (q, side_into book few all v s (has_bid_surplus book) into q e, omega arith))
          (λ q e. (q, bid_back book few all v s back q e, omega arith)))
    ]

    same_upper : (book : List Order) (few all : List ℕ) (v s : ℕ)
        → ((q : ℕ) → has q (keyed book v s few) ≡ true → has q (keyed book v s all) ≡ true)
        → ((q : ℕ) → has q (keyed book v s all) ≡ true → IsGoodTick book few v s q)
        → upper_among book s (keyed book v s few)
        ≡ upper_among book s (keyed book v s all)
    same_upper book few all v s into back = elim (cases_eq s 0) [
      | inl zero ↦
          rw (eq-eqb s 0 zero)
          (highest_agree (keyed book v s few) (keyed book v s all) (λ q e. (q, into q e, omega arith))
          (λ q e. (q, even_back book few all v s zero back q e, omega arith)))
      | inr positive ↦
          rw (ne_eqb s 0 positive)
          (lowest_agree (filter (has_ask_surplus book) (keyed book v s few))
          (filter (has_ask_surplus book) (keyed book v s all))
          (λ q e. (q, side_into book few all v s (has_ask_surplus book) into q e, omega arith))
          (λ q e. ask_back book few all v s back q e))
    ]

none_all : (book : List Order) (few : List ℕ) (q : ℕ) → All (λ p. volume book p ≡ 0) few → Covered book few q
    → volume book q ≡ 0
none_all book few q none (among h) = All_at (λ p. volume book p ≡ 0) few none q h
none_all book few q none (beaten c h less worse) = let z = All_at (λ p. volume book p ≡ 0) few none c h in omega arith
none_all book few q none (behind c h far a b less worse) = let z = All_at (λ p. volume book p ≡ 0) few none c h in
    omega arith

pub best_all : (book : List Order) (few : List ℕ) (leaders : Option Leaders) → StandFor book few
    → AreBest book few leaders → AreBest book (limits book) leaders
best_all book few None stand none =
    All_from (λ p. volume book p ≡ 0) (limits book) (λ q e. none_all book few q none (stand.covers q e))
best_all book few (Some leaders) stand lead = lead_all book few leaders stand lead
