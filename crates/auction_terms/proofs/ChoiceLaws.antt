-- What the best of the limits make of the price.
use Rattle.std.proofs.Common.{◌≡◌, ℕ, ◌<◌, min, Bool, true, false, cond, ◌&&◌, not, eqb, ltb, List, [], ◌∷◌, filter}
use Rattle.std.proofs.Common.{All, Option, Some, None, is_some, option_map, inl, inr, refl, ap, ◌∙◌, arith}
use Rattle.std.specs.List.{list_any, list_all}
use Rattle.std.proofs.lemmas.Bool.{ltb-true, leb-true, eqb-true, lt-ltb, le-ltb, le-leb, eq-eqb, ne_eqb, cases_eq}
use Rattle.std.proofs.lemmas.Bool.{cases_Bool, and_parts, and_from, or_cases, or_parts, or_left, or_right, and_left}
use Rattle.std.proofs.lemmas.Bool.Decides.{nat_tests}
use Rattle.std.proofs.lemmas.List.Elements.{All-head, All-tail, All-weaker, filter_passes}
use Rattle.std.proofs.lemmas.List.Sums.{AllPass-from_list_all, list_all-from_AllPass}
use Rattle.std.proofs.lemmas.Grind.{common_steps}
use Rattle.auction_terms.specs.declared.Order.{Order}
use Rattle.auction_terms.specs.declared.Limit.{Limit}
use Rattle.auction_terms.specs.declared.Price.{Price}
use Rattle.auction_terms.specs.Book.{demand, supply, volume, surplus, has_bid_surplus, has_ask_surplus, limits, tick_of}
use Rattle.auction_terms.specs.Book.{is_bid, is_ask, is_market, is_eligible}
use Rattle.auction_terms.specs.AuctionPrice.{highest, lowest, is_empty, priced, is_no_better, is_best, best_limits}
use Rattle.auction_terms.specs.AuctionPrice.{lower_end, upper_end, clamp_between, has_market_orders, price_tick, price}
use Rattle.auction_terms.specs.Auxiliary.BestTicks.{Leaders, has_key, keyed, lower_among, upper_among, IsNoBetterThan}
use Rattle.auction_terms.specs.Auxiliary.BestTicks.{AreLeadersOf, AreBest}
use Rattle.auction_terms.proofs.BestLaws.{on_bid, on_ask, balanced, side_of}

-- ---- lists

filter_agree_on : (a b : ℕ → Bool) (ps : List ℕ) → All (λ p. a p ≡ b p) ps → filter a ps ≡ filter b ps
filter_agree_on a b [] same = refl
filter_agree_on a b (p ∷ ps) same =
    grind (arith, common_steps, All-head, All-tail, (filter_agree_on a b ps (All-tail (λ q. a q ≡ b q) p ps same)))

filter_none : (a : ℕ → Bool) (ps : List ℕ) → All (λ p. a p ≡ false) ps → filter a ps ≡ []
filter_none a [] none = refl
filter_none a (p ∷ ps) none =
    grind (arith, common_steps, All-head, All-tail, (filter_none a ps (All-tail (λ q. a q ≡ false) p ps none)))

pub filter_all : (a : ℕ → Bool) (ps : List ℕ) → list_all a ps ≡ true → filter a ps ≡ ps
filter_all a [] all = refl
filter_all a (p ∷ ps) all =
    let parts = and_parts (a p) (list_all a ps) all in
    ap (λ t. cond t (p ∷ filter a ps) (filter a ps)) parts.0 ∙ ap (λ qs. p ∷ qs) (filter_all a ps parts.1)

nonempty : (a : ℕ → Bool) (ps : List ℕ) → is_empty (filter a ps) ≡ false → is_empty ps ≡ false
nonempty a ps h = grind (arith, common_steps)

-- some element passes, and has what each has
pub some_kept : (a : ℕ → Bool) (P : ℕ → Type 0) (ps : List ℕ) → is_empty (filter a ps) ≡ false → All P ps
    → (q : ℕ) × (a q ≡ true) × P q
some_kept a P [] some all = absurd (let h : true ≡ false = some in cc)
some_kept a P (p ∷ ps) some all = elim (cases_Bool (a p)) [
  | inl passes ↦ (p, passes, All-head P p ps all)
  | inr fails ↦ some_kept a P ps (rw fails at some) (All-tail P p ps all)
]

-- all pass one of two opposite tests where none passes the other
pub all_or_some : (a b : ℕ → Bool) (ps : List ℕ) → All (λ p. a p ≡ not (b p)) ps
    → list_all a ps ≡ is_empty (filter b ps)
all_or_some a b [] opposite = refl
all_or_some a b (p ∷ ps) opposite =
    let here : a p ≡ not (b p) = All-head (λ q. a q ≡ not (b q)) p ps opposite in
    let rest = all_or_some a b ps (All-tail (λ q. a q ≡ not (b q)) p ps opposite) in
    grind (arith, common_steps, cases_Bool)

-- ---- the best limits are those with the leaders' key

is_best_from_key : (book : List Order) (leaders : Leaders) (p : ℕ) → AreLeadersOf book (limits book) leaders
    → has_key book leaders.volume leaders.surplus p ≡ true → is_best book p ≡ true
unfolding is_best is_no_better
is_best_from_key book leaders p lead key =
    grind (
      arith,
      common_steps,
      and_parts,
      eqb-true,
      and_from,
      lt-ltb,
      list_all-from_AllPass,
      All-weaker,
      cases_eq,
      or_right,
      eq-eqb,
      le-leb,
      or_left,
    )

key_from_is_best : (book : List Order) (leaders : Leaders) (p : ℕ) → AreLeadersOf book (limits book) leaders
    → IsNoBetterThan book leaders p → is_best book p ≡ true → has_key book leaders.volume leaders.surplus p ≡ true
unfolding is_best is_no_better
key_from_is_best book leaders p lead no_better best =
    let parts = and_parts (ltb 0 (volume book p)) (list_all (is_no_better book p) (limits book)) best in
    let found =
    some_kept (has_key book leaders.volume leaders.surplus) (λ q. is_no_better book p q ≡ true) (limits book)
    lead.some_among (AllPass-from_list_all (is_no_better book p) (limits book) parts.1) in
    grind (arith, common_steps, and_parts, eqb-true, or_cases, ltb-true, leb-true, and_from, eq-eqb)

pub best_limits_keyed : (book : List Order) (leaders : Leaders) → AreLeadersOf book (limits book) leaders
    → best_limits book ≡ keyed book leaders.volume leaders.surplus (limits book)
unfolding best_limits
best_limits_keyed book leaders lead =
    search (arith, filter_agree_on, All-weaker, key_from_is_best, is_best_from_key)

pub best_limits_none : (book : List Order) → All (λ p. volume book p ≡ 0) (limits book) → best_limits book ≡ []
unfolding best_limits is_best
best_limits_none book none = grind (arith, common_steps, filter_none, All-weaker, and_left, le-ltb)

-- ---- the choice among the best limits

-- the last three cases of the price, of any list of limits
abbrev choice : List Order → List ℕ → ℕ → Option ℕ
choice book ps r =
    cond (list_all (has_bid_surplus book) ps) (highest ps)
    (cond (list_all (has_ask_surplus book) ps) (lowest ps)
    (clamp_between
    (cond (list_all (λ p. eqb (surplus book p) 0) ps) (lowest ps) (highest (filter (has_bid_surplus book) ps)))
    (cond (list_all (λ p. eqb (surplus book p) 0) ps) (highest ps) (lowest (filter (has_ask_surplus book) ps))) r))

-- no best limit has a surplus
choice_balanced : (book : List Order) (p : ℕ) (ps : List ℕ) (r : ℕ) → All (λ q. surplus book q ≡ 0) (p ∷ ps)
    → choice book (p ∷ ps) r ≡ clamp_between (lowest (p ∷ ps)) (highest (p ∷ ps)) r
choice_balanced book p ps r even =
    let all : list_all (λ q. eqb (surplus book q) 0) (p ∷ ps) ≡ true =
    list_all-from_AllPass (λ q. eqb (surplus book q) 0) (p ∷ ps)
    (All-weaker (λ q. surplus book q ≡ 0) (λ q. eqb (surplus book q) 0 ≡ true) (λ q e. eq-eqb (surplus book q) 0 e)
    (p ∷ ps) even) in
    grind (arith, common_steps, (side_of book p), on_bid, on_ask, balanced)

-- the highest with a bid surplus and the lowest with an ask surplus, where each has the one or the other
held_of : (ps bids asks : List ℕ) (r : ℕ) → (is_empty asks ≡ true → bids ≡ ps) → (is_empty bids ≡ true → asks ≡ ps)
    → cond (is_empty asks) (highest ps)
    (cond (is_empty bids) (lowest ps) (clamp_between (highest bids) (lowest asks) r))
    ≡ clamp_between (highest bids) (lowest asks) r
held_of ps bids asks r only_bids only_asks = grind (arith, common_steps)

choice_uneven : (book : List Order) (p : ℕ) (ps : List ℕ) (r s : ℕ) → 0 < s → All (λ q. surplus book q ≡ s) (p ∷ ps)
    → choice book (p ∷ ps) r ≡ clamp_between (highest (filter (has_bid_surplus book) (p ∷ ps)))
    (lowest (filter (has_ask_surplus book) (p ∷ ps))) r
choice_uneven book p ps r s some even =
    let qs = p ∷ ps in
    let bids = filter (has_bid_surplus book) qs in
    let asks = filter (has_ask_surplus book) qs in
    let here : surplus book p ≡ s = All-head (λ q. surplus book q ≡ s) p ps even in
    let not_zero : list_all (λ q. eqb (surplus book q) 0) qs ≡ false =
    and_left (eqb (surplus book p) 0) _ (ne_eqb (surplus book p) 0 (λ e. omega arith)) in
    let no_bids : list_all (has_bid_surplus book) qs ≡ is_empty asks =
    all_or_some (has_bid_surplus book) (has_ask_surplus book) qs
    (All-weaker (λ q. surplus book q ≡ s) (λ q. has_bid_surplus book q ≡ not (has_ask_surplus book q))
    (λ q e. bid_or_ask book q (omega arith)) qs even) in
    let no_asks : list_all (has_ask_surplus book) qs ≡ is_empty bids =
    all_or_some (has_ask_surplus book) (has_bid_surplus book) qs
    (All-weaker (λ q. surplus book q ≡ s) (λ q. has_ask_surplus book q ≡ not (has_bid_surplus book q))
    (λ q e. ask_or_bid book q (omega arith)) qs even) in
    let bids_alone : is_empty asks ≡ true → bids ≡ qs = λ e. filter_all (has_bid_surplus book) qs (no_bids ∙ e) in
    let asks_alone : is_empty bids ≡ true → asks ≡ qs = λ e. filter_all (has_ask_surplus book) qs (no_asks ∙ e) in
    rw (no_bids, no_asks, not_zero) (held_of qs bids asks r bids_alone asks_alone)
  where
    bid_or_ask : (book : List Order) (q : ℕ) → 0 < surplus book q
        → has_bid_surplus book q ≡ not (has_ask_surplus book q)
    bid_or_ask book q some = elim (side_of book q) [
      | on_bid side bid ask more ↦ rw (bid, ask) refl
      | on_ask side bid ask more ↦ rw (bid, ask) refl
      | balanced side bid ask none ↦ absurd (omega arith)
    ]

    ask_or_bid : (book : List Order) (q : ℕ) → 0 < surplus book q
        → has_ask_surplus book q ≡ not (has_bid_surplus book q)
    ask_or_bid book q some = elim (side_of book q) [
      | on_bid side bid ask more ↦ rw (bid, ask) refl
      | on_ask side bid ask more ↦ rw (bid, ask) refl
      | balanced side bid ask none ↦ absurd (omega arith)
    ]

choice_is : (book : List Order) (ps : List ℕ) (r s : ℕ) → is_empty ps ≡ false → All (λ q. surplus book q ≡ s) ps
    → choice book ps r ≡ clamp_between (lower_among book s ps) (upper_among book s ps) r
choice_is book [] r s some even = absurd (let h : true ≡ false = some in cc)
choice_is book (p ∷ ps) r s some even = elim (cases_eq s 0) [
  | inl zero ↦
      rw (eq-eqb s 0 zero)
      (choice_balanced book p ps r (All-weaker (λ q. surplus book q ≡ s) (λ q. surplus book q ≡ 0) (λ q e. omega arith)
      (p ∷ ps) even))
  | inr positive ↦ rw (ne_eqb s 0 positive) (choice_uneven book p ps r s (omega arith) even)
]

-- ---- the price

pub tick_found : (book : List Order) (r : ℕ) (leaders : Leaders) → AreLeadersOf book (limits book) leaders
    → price_tick book r ≡ clamp_between leaders.lower leaders.upper r
unfolding price_tick lower_end upper_end
tick_found book r leaders lead =
    let v = leaders.volume in
    let s = leaders.surplus in
    let best = keyed book v s (limits book) in
    let even : All (λ q. surplus book q ≡ s) best =
    All-weaker (λ q. has_key book v s q ≡ true) (λ q. surplus book q ≡ s)
    (λ q e. let parts = and_parts (eqb (volume book q) v) (eqb (surplus book q) s) e in
    eqb-true (surplus book q) s parts.1) best (filter_passes (has_key book v s) (limits book)) in
    rw (
      nonempty (has_key book v s) (limits book) lead.some_among,
      best_limits_keyed book leaders lead,
      lead.some_among,
      lead.lower,
      lead.upper,
    )
    (choice_is book best r s lead.some_among even)

-- a book with no limit is one of market orders
abbrev pub is_limited : Order → Bool
is_limited order = is_some (tick_of order.limit)

limits_empty-cons : (limit : Limit) (order : Order) (book : List Order) → order.limit ≡ limit
    → is_empty (limits book) ≡ not (list_any is_limited book)
    → is_empty (limits (order ∷ book)) ≡ not (list_any is_limited (order ∷ book))
unfolding limits
limits_empty-cons limit order book e rest = grind (arith, common_steps)

pub limits_empty : (book : List Order) → is_empty (limits book) ≡ not (list_any is_limited book)
unfolding limits
limits_empty [] = refl
limits_empty (order ∷ book) = limits_empty-cons order.limit order book refl (limits_empty book)

-- with no limits, the eligible orders are the market orders
market_kept : (t : Order → Bool) (book : List Order) (p : ℕ) → list_any is_limited book ≡ false
    → filter (λ o. t o && is_eligible p o) book ≡ filter (λ o. t o && is_market o.limit) book
market_kept t [] p none = refl
market_kept t (order ∷ book) p none =
    let parts = or_parts (is_limited order) (list_any is_limited book) none in
    grind (arith, common_steps, (market_kept t book p parts.1))

positive_min : (a b : ℕ) → (ltb 0 a && ltb 0 b) ≡ ltb 0 (min a b)
positive_min a b = grind (arith, nat_tests)

pub has_market_volume : (book : List Order) (p : ℕ) → list_any is_limited book ≡ false
    → has_market_orders book ≡ ltb 0 (volume book p)
unfolding volume demand supply
has_market_volume book p none =
    rw (← market_kept is_bid book p none, ← market_kept is_ask book p none) (positive_min _ _)

-- the price that the scan gives
abbrev pub scanned : List Order → ℕ → Option Leaders → Option Price
scanned book r None = cond (list_any is_limited book) None (cond (ltb 0 (volume book r)) (Some (priced book r)) None)
scanned book r (Some leaders) = option_map (priced book) (clamp_between leaders.lower leaders.upper r)

pub price_scanned : (book : List Order) (r : ℕ) (leaders : Option Leaders) → AreBest book (limits book) leaders
    → price book r ≡ scanned book r leaders
unfolding price price_tick
price_scanned book r leaders lead =
    grind (arith, common_steps, tick_found, cases_Bool, limits_empty, best_limits_none, has_market_volume)
