-- The orders around the crossing alone decide a price.
use Rattle.std.proofs.Common.{◌≡◌, ℕ, zero, suc, ◌+◌, ◌-◌, ◌≤◌, ◌<◌, inl, inr, true, cond, ltb, List, ◌++◌, Option}
use Rattle.std.proofs.Common.{Some, None, length, get_or, sum, refl, sym, ap, subst, ◌∙◌, arith}
use Rattle.std.specs.Prelude.{IfSome}
use Rattle.auction_terms.specs.declared.Order.{Order}
use Rattle.auction_terms.specs.Book.{demand, supply}
use Rattle.std.specs.Simd.Lanes.{zip2}
use Rattle.auction_terms.specs.declared.Side.TheVariants.{Bid, Ask}
use Rattle.auction_terms.specs.Ladder.{LadderView, tick_values, quantity_at, market_quantity, ladder_of, flag_of}
use Rattle.auction_terms.proofs.LadderLaws.{length-tick_values, at_spread, ladder_flags}
use Rattle.tick_ladder.specs.TickLadder.{IsLadderOf}
use Rattle.auction_terms.specs.Auxiliary.BestTicks.{has, Leaders, AreBest}
use Rattle.lanes.specs.Meeting.{before}
use Rattle.tick_ladder.specs.OccupiedPlaces.{IsClear, IsCrossingOf, IsLastBefore, IsFirstFrom}
use Rattle.tick_ladder.proofs.BeforeLaws.{before_next, before_all}
use Rattle.price_rules.specs.declared.surroundings.Around.{Around}
use Rattle.price_rules.specs.Decision.{IsBookOver, IsSameWithin, IsNear, from_place, to_place}
use Rattle.price_rules.specs.Around.{IsAround, IsFar, here_at, tick_list, few_limits}
use Rattle.price_rules.specs.ClampedPrice.{market_priced}
use Rattle.price_rules.specs.Candidates.{AreCandidates, AreMarked, IsOfMarkedTicks}
use Rattle.price_rules.specs.declared.candidates.Lanes.{Lanes}
use Rattle.price_rules.proofs.CurveLaws.{HasCurvesOf}
use Rattle.price_rules.proofs.NearbyLaws.{has-either, one_is, here_is, first_stands, far_stands}
use Rattle.std.proofs.lemmas.Grind.{common_steps}

-- ---- sums of lists that end alike, and of lists that begin alike

pub tail_same : (xs ys : List ℕ) (from n m k : ℕ) → length xs ≡ n → length ys ≡ n
    → ((i : ℕ) → from ≤ i → i < n → get_or ys i 0 ≡ get_or xs i 0) → k + m ≡ n → from ≤ k
    → sum ys + before xs k ≡ sum xs + before ys k
tail_same xs ys from n zero k e f same at h =
    omega (arith, before_all xs k (omega arith), before_all ys k (omega arith))
tail_same xs ys from n (suc m) k e f same at h =
    grind (arith, common_steps, before_next, (tail_same xs ys from n m (k + 1) e f same (omega arith) (omega arith)))

pub head_same : (xs ys : List ℕ) (to k : ℕ) → ((i : ℕ) → i ≤ to → get_or ys i 0 ≡ get_or xs i 0) → k ≤ to + 1
    → before ys k ≡ before xs k
head_same xs ys to zero same h = refl
head_same xs ys to (suc k) same h =
    let up : suc k ≡ k + 1 = omega arith in
    omega (
      arith,
      ap (before xs) up,
      ap (before ys) up,
      before_next xs k,
      before_next ys k,
      same k (omega arith),
      head_same xs ys to k same (omega arith),
    )

-- ---- the places that decide

-- where the limits lie
pub record IsInOrder (v : LadderView) (a : Around) : Type 0 where
  pub from : from_place a.far ≤ a.crossing.place
  pub to : a.crossing.place ≤ to_place (length v.bids) a.after
  pub last : to_place (length v.bids) a.after < length v.bids
  pub near : IfSome a.near (λ p. (from_place a.far ≤ p) × (p < a.crossing.place))

pub in_order : (v : LadderView) (a : Around) → IsAround v a → IsInOrder v a
in_order v a is =
    let inside = is.crossing.within in
    record {
      from = from_of a.near a.far is.near is.far;
      to = to_of a.after is.after;
      last = last_of a.after is.after;
      near = near_of a.near a.far is.near is.far;
    }
  where
    to_of : (after : Option ℕ) → IsFirstFrom v (a.crossing.place + 1) after
        → a.crossing.place ≤ to_place (length v.bids) after
    to_of None h = let inside = is.crossing.within in omega arith
    to_of (Some p) h = omega (arith, h.from)

    last_of : (after : Option ℕ) → IsFirstFrom v (a.crossing.place + 1) after
        → to_place (length v.bids) after < length v.bids
    last_of None h = let inside = is.crossing.within in omega arith
    last_of (Some p) h = h.within

    near_of : (near far : Option ℕ) → IsLastBefore v a.crossing.place near → IsFar v near far
        → IfSome near (λ p. (from_place far ≤ p) × (p < a.crossing.place))
    near_of None far h f = tt
    near_of (Some p) None h f = (omega arith, h.within)
    near_of (Some p) (Some i) h f = (omega (arith, f.within), h.within)

    from_of : (near far : Option ℕ) → IsLastBefore v a.crossing.place near → IsFar v near far
        → from_place far ≤ a.crossing.place
    from_of None far h f = let none : from_place far ≡ 0 = ap from_place f in omega arith
    from_of (Some p) None h f = omega arith
    from_of (Some p) (Some i) h f = omega (arith, f.within, h.within)

module _ (v w : LadderView) (a : Around) (near : IsNear v a w) where
  clear_there : (i j : ℕ) → from_place a.far ≤ i → i ≤ j → j ≤ length v.bids → j ≤ to_place (length v.bids) a.after + 1
      → IsClear v.bids v.asks i j → IsClear w.bids w.asks i j
  clear_there i j from le most to clear = grind (arith, common_steps)

  pub stands_there : (p : ℕ) → from_place a.far ≤ p → p < length v.bids → p ≤ to_place (length v.bids) a.after
      → get_or w.bids p 0 + get_or w.asks p 0 ≡ get_or v.bids p 0 + get_or v.asks p 0
  stands_there p from in_v to = grind (arith, common_steps, before_next)

  last_there : (j : ℕ) (o : Option ℕ) → j ≤ length v.bids → j ≤ to_place (length v.bids) a.after + 1
      → (o ≡ None → from_place a.far ≡ 0) → IfSome o (λ p. from_place a.far ≤ p) → IsLastBefore v j o
      → IsLastBefore w j o
  last_there j None most to none some is = let z = none refl in clear_there 0 j (omega arith) (omega arith) most to is
  last_there j (Some p) most to none some is = record {
    from = is.from;
    within = is.within;
    stands = omega (arith, is.stands, stands_there p some (omega (arith, is.within)) (omega (arith, is.within)));
    clear = clear_there (p + 1) j (omega arith) (omega (arith, is.within)) most to is.clear;
  }

  first_there : (s : ℕ) (o : Option ℕ) → from_place a.far ≤ s → s ≤ length v.bids
      → s ≤ to_place (length v.bids) a.after + 1 → (o ≡ None → to_place (length v.bids) a.after + 1 ≡ length v.bids)
      → IfSome o (λ p. p ≤ to_place (length v.bids) a.after) → IsFirstFrom v s o → IsFirstFrom w s o
  first_there s None from most to none some is = grind (arith, common_steps, clear_there)
  first_there s (Some p) from most to none some is = grind (arith, common_steps, stands_there, clear_there)

  module _ (is : IsAround v a) where
    order : IsInOrder v a
    order = in_order v a is

    crossing_there : IsCrossingOf w a.crossing
    crossing_there =
        let c = a.crossing in
        let x = is.crossing in
        let zv : before v.bids 0 ≡ 0 = refl in
        let zw : before w.bids 0 ≡ 0 = refl in
        let yv : before v.asks 0 ≡ 0 = refl in
        let yw : before w.asks 0 ≡ 0 = refl in
        let from = order.from in
        let to = order.to in
        let inside = x.within in
        record {
          from = x.from;
          within = omega (arith, near.long);
          demand_is = omega (arith, x.demand_is, near.above c.place from (omega arith));
          below_is = omega (arith, x.below_is, near.below c.place (omega arith), near.below 0 (omega arith));
          met = x.met;
          over = elim x.over [
            | inl last ↦ inl (omega (arith, near.long))
            | inr over ↦
                inr
                (omega (
                  arith,
                  near.above (c.place + 1) (omega arith) (omega arith),
                  near.below (c.place + 1) (omega arith),
                ))
          ];
        }

    far_there : (near_o far : Option ℕ) → a.near ≡ near_o → a.far ≡ far → IsFar v near_o far → IsFar w near_o far
    far_there None far e f h = h
    far_there (Some p) None e f h =
        let n = subst (λ o. IfSome o (λ p. (from_place a.far ≤ p) × (p < a.crossing.place))) e order.near in
        let to = order.to in
        let inside = is.crossing.within in
        last_there p None (omega (arith, n.1)) (omega (arith, n.1)) (λ z. ap from_place f) tt h
    far_there (Some p) (Some i) e f h =
        let n = subst (λ o. IfSome o (λ p. (from_place a.far ≤ p) × (p < a.crossing.place))) e order.near in
        let to = order.to in
        let inside = is.crossing.within in
        let same : from_place a.far ≡ i = ap from_place f in
        last_there p (Some i) (omega (arith, n.1)) (omega (arith, n.1)) (λ z. absurd (cc)) (omega arith) h

    -- the surroundings are the same
    pub around_there : IsAround w a
    around_there =
        let from = order.from in
        let to = order.to in
        let last = order.last in
        let inside = is.crossing.within in
        record {
          crossing = crossing_there;
          near =
              last_there a.crossing.place a.near (omega arith) (omega arith) (λ e. near_none a.near a.far e is.far)
              (near_some a.near order.near) is.near;
          far = far_there a.near a.far refl refl is.far;
          after =
              first_there (a.crossing.place + 1) a.after (omega arith) (omega arith) (omega arith)
              (λ e. after_none a.after e) (after_some a.after) is.after;
        }
      where
        near_none : (near_o far : Option ℕ) → near_o ≡ None → IsFar v near_o far → from_place far ≡ 0
        near_none None far e h = ap from_place h
        near_none (Some p) far e h = absurd (cc)

        near_some : (o : Option ℕ) → IfSome o (λ p. (from_place a.far ≤ p) × (p < a.crossing.place))
            → IfSome o (λ p. from_place a.far ≤ p)
        near_some None h = tt
        near_some (Some p) h = h.0

        after_none : (o : Option ℕ) → o ≡ None → to_place (length v.bids) o + 1 ≡ length v.bids
        after_none None e = let inside = is.crossing.within in omega arith
        after_none (Some p) e = absurd (cc)

        after_some : (o : Option ℕ) → IfSome o (λ p. p ≤ to_place (length v.bids) o)
        after_some None = tt
        after_some (Some p) = omega arith

    -- a limit around the crossing lies at a place that decides
    few_place : (t : ℕ) → has t (few_limits v a) ≡ true → (i : ℕ) × (v.low + i ≡ t) × (from_place a.far ≤ i)
        × (i < length v.bids) × (i ≤ to_place (length v.bids) a.after)
    few_place t e =
        let low = v.low in
        let far = tick_list low a.far in
        let nearest = tick_list low a.near in
        let here = tick_list low (here_at v a.crossing.place) in
        let after = tick_list low a.after in
        let from = order.from in
        let to = order.to in
        let last = order.last in
        let inside = is.crossing.within in
        elim (has-either t ((far ++ nearest) ++ here) after e) [
          | inr at ↦ let o = one_is low t a.after at in
              let f = first_stands v.bids v.asks (a.crossing.place + 1) (length v.bids) o.0 a.after o.1 is.after in
              let end = ap (to_place (length v.bids)) o.1 in (o.0, o.2, omega (arith, f.from), f.within, omega arith)
          | inl at ↦ elim (has-either t (far ++ nearest) here at) [
            | inr at ↦ let o = one_is low t (here_at v a.crossing.place) at in let h =
                here_is v a.crossing.place o.0 o.1 in (a.crossing.place, ap (λ n. low + n) h.0 ∙ o.2, from, inside, to)
            | inl at ↦ elim (has-either t far nearest at) [
              | inr at ↦ let o = one_is low t a.near at in
                  let n = subst (λ x. IfSome x (λ p. (from_place a.far ≤ p) × (p < a.crossing.place))) o.1 order.near in
                  (o.0, o.2, n.0, omega (arith, n.1), omega (arith, n.1))
              | inl at ↦ let o = one_is low t a.far at in
                  let f = far_stands v a.crossing.place o.0 a.near a.far o.1 is.near is.far in let start =
                  ap from_place o.1 in (o.0, o.2, omega arith, omega (arith, f.0), omega (arith, f.0))
            ]
          ]
        ]

    few_there : few_limits w a ≡ few_limits v a
    few_there =
        let from = order.from in
        let to = order.to in
        let here : here_at w a.crossing.place ≡ here_at v a.crossing.place =
        ap (λ q. cond (ltb 0 q) (Some a.crossing.place) None)
        (stands_there a.crossing.place from is.crossing.within to) in
        ap (λ low. ((tick_list low a.far ++ tick_list low a.near) ++ tick_list low (here_at w a.crossing.place))
        ++ tick_list low a.after) near.low
        ∙ ap (λ o. ((tick_list v.low a.far ++ tick_list v.low a.near) ++ tick_list v.low o) ++ tick_list v.low a.after)
        here

    -- and so are demand and supply at these limits
    amounts_there : (book other : List Order) (t : ℕ) → HasCurvesOf v book → HasCurvesOf w other
        → has t (few_limits v a) ≡ true
        → (demand book t ≡ demand other t) × (supply book t ≡ supply other t)
    amounts_there book other t tells others e = search (arith, few_place)

    candidates_there : (book other : List Order) (lanes : Lanes) → HasCurvesOf v book → HasCurvesOf w other
        → AreMarked lanes.ticks lanes.flags (few_limits v a) → AreCandidates book lanes → AreCandidates other lanes
    candidates_there book other lanes tells others marked are = record {
      demands_are =
          λ k e. are.demands_are k e
          ∙ (amounts_there book other (get_or lanes.ticks k 0) tells others (marked.there k e)).0;
      supplies_are =
          λ k e. are.supplies_are k e
          ∙ (amounts_there book other (get_or lanes.ticks k 0) tells others (marked.there k e)).1;
      rising = are.rising;
    }

    pub marked_there : (ticks flags : List ℕ) → AreMarked ticks flags (few_limits v a)
        → AreMarked ticks flags (few_limits w a)
    marked_there ticks flags marked = subst (AreMarked ticks flags) (sym few_there) marked

    -- what is best of them is so for the other book too
    pub best_there : (book other : List Order) (lanes : Lanes) (found : Option Leaders) → HasCurvesOf v book
        → HasCurvesOf w other
        → AreMarked lanes.ticks lanes.flags (few_limits v a) → AreCandidates book lanes
        → IsOfMarkedTicks lanes lanes.flags (λ list few. AreBest list few found) → AreBest other (few_limits w a) found
    best_there book other lanes found tells others marked are best =
        best other (few_limits w a) (candidates_there book other lanes tells others marked are) (λ k e. e)
        (marked_there lanes.ticks lanes.flags marked)

    pub market_there : (r : ℕ) → market_priced v r ≡ market_priced w r
    market_there r =
        let n = length v.bids in
        let order = in_order v a is in
        let last = order.last in
        let from = order.from in
        let inside = is.crossing.within in
        let none_v : before v.asks 0 ≡ 0 = refl in
        let none_w : before w.asks 0 ≡ 0 = refl in
        let bids : v.market_bids ≡ w.market_bids =
        omega (
          arith,
          near.above n (omega arith) (omega arith),
          before_all v.bids n (omega arith),
          before_all w.bids n (omega (arith, near.long)),
        ) in
        let asks : v.market_asks ≡ w.market_asks = omega (arith, near.below 0 (omega arith)) in
        rw (bids, asks) refl

-- ---- the ladder of another book

pub over_ladder : (low n : ℕ) (book : List Order) → IsBookOver low n book → IsLadderOf (ladder_of low n book) book
unfolding ladder_of
over_ladder low n book over = grind (arith, common_steps, length-tick_values)

pub over_flags : (low n : ℕ) (book : List Order) → IsBookOver low n book
    → (ladder_of low n book).present ≡ zip2 flag_of (ladder_of low n book).bids (ladder_of low n book).asks
unfolding ladder_of
over_flags low n book over = ladder_flags low n book over.positive

pub over_near : (v : LadderView) (a : Around) (book other : List Order) → IsAround v a → IsLadderOf v book
    → HasCurvesOf v book → IsSameWithin (v.low + from_place a.far) (v.low + to_place (length v.bids) a.after) book other
    → IsNear v a (ladder_of v.low (length v.bids) other)
unfolding ladder_of
over_near v a book other is ladder tells same =
    let n = length v.bids in
    let order = in_order v a is in
    let last = order.last in
    let bids : v.bids ≡ tick_values (quantity_at Bid book) v.low n = ap (λ (x : LadderView). x.bids) ladder.same in
    let asks : v.asks ≡ tick_values (quantity_at Ask book) v.low n = ap (λ (x : LadderView). x.asks) ladder.same in
    let mb : market_quantity Bid other ≡ v.market_bids =
    same.market_bids ∙ sym (ap (λ (x : LadderView). x.market_bids) ladder.same) in
    let ma : market_quantity Ask other ≡ v.market_asks =
    same.market_asks ∙ sym (ap (λ (x : LadderView). x.market_asks) ladder.same) in
    let long = length-tick_values (quantity_at Bid other) v.low n in
    let bid : (i : ℕ) → from_place a.far ≤ i → i < n → get_or (tick_values (quantity_at Bid other) v.low n) i 0
    ≡ get_or v.bids i 0 =
    λ i from lt. at_spread (quantity_at Bid other) v.low n i lt ∙ same.bids (v.low + i) (omega arith)
    ∙ sym (at_spread (quantity_at Bid book) v.low n i lt) ∙ sym (ap (λ l. get_or l i 0) bids) in
    let ask : (i : ℕ) → i ≤ to_place n a.after → get_or (tick_values (quantity_at Ask other) v.low n) i 0
    ≡ get_or v.asks i 0 =
    λ i to. at_spread (quantity_at Ask other) v.low n i (omega arith) ∙ same.asks (v.low + i) (omega arith)
    ∙ sym (at_spread (quantity_at Ask book) v.low n i (omega arith)) ∙ sym (ap (λ l. get_or l i 0) asks) in
    record {
      low = refl;
      long = long;
      above =
          λ k from most. omega (
            arith,
            mb,
            tail_same v.bids (tick_values (quantity_at Bid other) v.low n) (from_place a.far) n (n - k) k refl
                long bid (omega arith) from,
          );
      below =
          λ k to. omega (
            arith,
            ma,
            head_same v.asks (tick_values (quantity_at Ask other) v.low n) (to_place n a.after)
                k ask to,
          );
    }
