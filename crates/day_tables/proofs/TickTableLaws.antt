-- What the kernels make of a ladder, tick by tick.
use Rattle.std.specs.Int.{abs_diff}
use Rattle.std.specs.List.{list_all}
use Rattle.std.specs.Simd.Lanes.{zip2}
use Rattle.std.proofs.Common.{◌≡◌, ℕ, zero, suc, ◌+◌, ◌-◌, ◌≤◌, ◌<◌, min, Bool, true, false, cond, eqb, List, [], ◌∷◌}
use Rattle.std.proofs.Common.{All, Option, Some, None, IfSome, length, get_or, take, replicate, sum, inl, inr, refl}
use Rattle.std.proofs.Common.{sym, ap, subst, ◌∙◌, arith}
use Rattle.std.proofs.lemmas.Bool.{cases_Bool, cases_lt, eq-eqb, lt-ltb, le-ltb, or_left, or_right}
use Rattle.std.proofs.lemmas.List.{get_or-replicate}
use Rattle.std.proofs.lemmas.Simd.{length-zip2}
use Rattle.std.proofs.lemmas.Grind.{common_steps}
use Rattle.auction_terms.specs.declared.Order.{Order}
use Rattle.auction_terms.specs.Book.{demand, supply, volume, surplus, has_bid_surplus, has_ask_surplus, limits}
use Rattle.auction_terms.specs.AuctionPrice.{best_limits, is_best, is_empty, has_market_orders, price_tick}
use Rattle.auction_terms.specs.Ladder.{LadderView, ladder_of, tick_values, limit_flag}
use Rattle.auction_terms.specs.Auxiliary.BestTicks.{Leaders, has, keyed, lower_among, upper_among}
use Rattle.auction_terms.proofs.LadderLaws.{length-tick_values, at_spread, limit_present, zip_spread}
use Rattle.auction_terms.proofs.TickListLaws.{All_at, filter-has, no_tick, none_empty, not_empty}
use Rattle.auction_terms.proofs.ChoiceLaws.{best_limits_keyed, best_limits_none}
use Rattle.auction_terms.proofs.DemandShape.{demand_falls, supply_rises}
use Rattle.lanes.specs.Meeting.{before}
use Rattle.lanes.specs.RunningSums.{rising_sums, falling_sums}
use Rattle.lanes.proofs.RunningSumLaws.{sum-cons}
use Rattle.lanes.specs.Selection.{NoFlagIn, IsFirstFlag, IsLastFlag, IsGreatestFlagged, IsLeastFlagged, kept_if_equal}
use Rattle.price_rules.specs.Candidates.{AreCandidates, AreMarked}
use Rattle.price_rules.proofs.CurveLaws.{HasCurvesOf, curves-of_ladder}
use Rattle.tick_ladder.specs.TickLadder.{IsLadder, IsLadderOf}
use Rattle.day_tables.specs.declared.curves.Curves.{Curves}
use Rattle.price_rules.proofs.MarkLaws.{flag-inside}
use Rattle.price_rules.proofs.SelectedLaws.{AreEven, none_flagged, none_positive, some_left, best_marked, best_lead}
use Rattle.day_tables.specs.DecidingRule.{is_one_tick, rule_of}
use Rattle.day_tables.specs.declared.rule.Rule.{Rule}
use Rattle.day_tables.specs.declared.rule.Rule.TheVariants.{Market, Single, Highest, Lowest, Reference}
use Rattle.day_tables.specs.TableCurves.{AreCurves, curve_lanes, ticks_from, LeavesBest, IsDecidingRule}
use Rattle.day_tables.proofs.RuleLaws.{price_cases, one_best}

-- ---- running sums

pub falling_spread : (f : ℕ → ℕ) (s a : ℕ) (xs : List ℕ)
    → ((i : ℕ) → i ≤ length xs → f (a + i) + before xs i ≡ s + sum xs) → falling_sums s xs ≡ tick_values f a (length xs)
falling_spread f s a [] h = refl
falling_spread f s a (x ∷ xs) h =
    let to : a + 0 ≡ a = omega arith in
    let first : s + (x + sum xs) ≡ f a = omega (arith, h 0 (omega arith), ap f to, sum-cons x xs) in
    let rest : falling_sums s xs ≡ tick_values f (a + 1) (length xs) = falling_spread f s (a + 1) xs (λ i l.
    let up : a + 1 + i ≡ a + suc i = omega arith in
    omega (arith, h (suc i) (omega arith), ap f up, sum-cons x (take i xs), sum-cons x xs)) in
    cc

pub rising_spread : (f : ℕ → ℕ) (s a : ℕ) (xs : List ℕ) → ((i : ℕ) → i < length xs → f (a + i) ≡ s + before xs (i + 1))
    → rising_sums s xs ≡ tick_values f a (length xs)
rising_spread f s a [] h = refl
rising_spread f s a (x ∷ xs) h =
    let to : a + 0 ≡ a = omega arith in
    let first : s + x ≡ f a = omega (arith, h 0 (omega arith), ap f to, sum-cons x []) in
    let rest : rising_sums (s + x) xs ≡ tick_values f (a + 1) (length xs) = rising_spread f (s + x) (a + 1) xs (λ i l.
    let up : a + 1 + i ≡ a + suc i = omega arith in
    let shifted : suc i + 1 ≡ suc (i + 1) = omega arith in
    omega (arith, h (suc i) (omega arith), ap f up, ap (before (x ∷ xs)) shifted, sum-cons x (take (i + 1) xs))) in
    cc

pub volumes_spread : (book : List Order) (low n : ℕ)
    → zip2 min (tick_values (demand book) low n) (tick_values (supply book) low n) ≡ tick_values (volume book) low n
unfolding volume
volumes_spread book low n = zip_spread min (demand book) (supply book) low n

pub surpluses_spread : (book : List Order) (low n : ℕ)
    → zip2 abs_diff (tick_values (demand book) low n) (tick_values (supply book) low n)
    ≡ tick_values (surplus book) low n
unfolding surplus
surpluses_spread book low n = zip_spread abs_diff (demand book) (supply book) low n

module _ (v : LadderView) (book : List Order) (curves : HasCurvesOf v book) where
  pub demands_spread : falling_sums v.market_bids v.bids ≡ tick_values (demand book) v.low (length v.bids)
  demands_spread = falling_spread (demand book) v.market_bids v.low v.bids curves.demand_is

  pub supplies_spread : rising_sums v.market_asks v.asks ≡ tick_values (supply book) v.low (length v.bids)
  supplies_spread =
      rising_spread (supply book) v.market_asks v.low v.asks (λ i l. curves.supply_is i (omega (arith, curves.same)))
      ∙ ap (tick_values (supply book) v.low) curves.same

-- ---- the limits, as candidates

one_true : (b : Bool) → ◌≡◌ {A = ℕ} (cond b 1 0) 1 → b ≡ true
one_true b h = grind (arith, common_steps)

pub present_limit : (book : List Order) (t : ℕ) → limit_flag book t ≡ 1 → has t (limits book) ≡ true
present_limit book t h = sym (limit_present book t) ∙ one_true _ h

pub limit_presence : (book : List Order) (t : ℕ) → has t (limits book) ≡ true → limit_flag book t ≡ 1
limit_presence book t h = rw (limit_present book t, h) refl

module _ (book : List Order) (low n : ℕ) (flags : List ℕ) (long : length flags ≡ n) where
  tick_at_place : (k : ℕ) → get_or flags k 0 ≡ 1 → get_or (ticks_from low n) k 0 ≡ low + k
  tick_at_place k h = let l = flag-inside flags k h in at_spread (λ t. t) low n k (omega arith)

  at_flag : (f : ℕ → ℕ) (k : ℕ) → get_or flags k 0 ≡ 1
      → get_or (tick_values f low n) k 0 ≡ f (get_or (ticks_from low n) k 0)
  at_flag f k h = let l = flag-inside flags k h in at_spread f low n k (omega arith) ∙ ap f (sym (tick_at_place k h))

  pub candidates_spread : AreCandidates book
      (curve_lanes (ticks_from low n) (tick_values (demand book) low n) (tick_values (supply book) low n) flags)
  candidates_spread = record {
    demands_are = λ k h. at_flag (demand book) k h;
    supplies_are = λ k h. at_flag (supply book) k h;
    rising = λ j k less f g. omega (arith, less, tick_at_place j f, tick_at_place k g);
  }

pub limits_marked : (book : List Order) (low n : ℕ) (flags : List ℕ) → flags ≡ tick_values (limit_flag book) low n
    → All (λ tick. (low ≤ tick) × (tick < low + n)) (limits book) → AreMarked (ticks_from low n) flags (limits book)
limits_marked book low n flags is within =
    let long : length flags ≡ n = ap length is ∙ length-tick_values (limit_flag book) low n in
    record {
      there = λ k h.
          let l = flag-inside flags k h in
          let flag : get_or flags k 0 ≡ limit_flag book (low + k) =
          ap (λ fs. get_or fs k 0) is ∙ at_spread (limit_flag book) low n k (omega arith) in
          ap (λ t. has t (limits book)) (tick_at_place book low n flags long k h)
          ∙ present_limit book (low + k) (sym flag ∙ h);
      place = λ t e.
          let w = All_at (λ tick. (low ≤ tick) × (tick < low + n)) (limits book) within t e in
          let back : low + (t - low) ≡ t = omega (arith, w.0) in
          let l : t - low < n = omega (arith, w.0, w.1) in
          let flag : get_or flags (t - low) 0 ≡ limit_flag book (low + (t - low)) =
          ap (λ fs. get_or fs (t - low) 0) is ∙ at_spread (limit_flag book) low n (t - low) l in (
            t - low,
            omega (arith, long),
            flag ∙ ap (limit_flag book) back ∙ limit_presence book t e,
            at_spread (λ tick. tick) low n (t - low) l ∙ back,
          );
    }

-- ---- the best limits

none_marked : (ticks flags : List ℕ) → NoFlagIn flags 0 (length flags) → AreMarked ticks flags []
none_marked ticks flags none = record {
  there = λ k h. absurd (none k (omega arith) (flag-inside flags k h) h);
  place = λ t e. no_tick t e;
}

no_flag : (n : ℕ) → NoFlagIn (replicate n 0) 0 n
no_flag n k from to h =
    let none : ◌≡◌ {A = ℕ} (get_or (replicate n 0) k 0) 0 = get_or-replicate n k 0 0 to in
    omega (arith, none, h)

long_zeros : (n : ℕ) → length {A = ℕ} (replicate n 0) ≡ n
long_zeros n = grind (arith, common_steps)

module _ (ticks demands supplies flags volumes : List ℕ) (book : List Order)
    (even : AreEven (curve_lanes ticks demands supplies flags))
    (cand : AreCandidates book (curve_lanes ticks demands supplies flags))
    (marked : AreMarked ticks flags (limits book)) (vols : volumes ≡ zip2 min demands supplies) where
  pub unflagged_best : NoFlagIn flags 0 (length flags) → AreMarked ticks flags (best_limits book)
  unflagged_best none =
      rw (best_limits_none book (none_flagged book (curve_lanes ticks demands supplies flags) even cand (limits book)
      volumes marked vols none))
      (none_marked ticks flags none)

  pub without_volume : (m : ℕ) (left : List ℕ) → m ≡ 0 → IsGreatestFlagged volumes flags m
      → left ≡ replicate (length flags) 0 → AreMarked ticks left (best_limits book)
  without_volume m left no_volume most is =
      rw (
        best_limits_none book (none_positive book (curve_lanes ticks demands supplies flags) even cand (limits book)
            volumes marked vols m no_volume most),
        is,
      )
      (none_marked ticks (replicate (length flags) 0) (rw (long_zeros (length flags)) (no_flag (length flags))))

  pub best_left : (m s : ℕ) (fs gaps gs : List ℕ) → 0 < m → IsGreatestFlagged volumes flags m
      → fs ≡ zip2 (kept_if_equal m) volumes flags → length fs ≡ length flags
      → gaps ≡ zip2 abs_diff demands supplies → IsLeastFlagged gaps fs s → gs ≡ zip2 (kept_if_equal s) gaps fs
      → AreMarked ticks gs (best_limits book)
  best_left m s fs gaps gs positive most left same apart least left_too =
      let lanes = curve_lanes ticks demands supplies flags in
      let best = keyed book m s (limits book) in
      let leaders : Leaders =
      record { volume = m; surplus = s; lower = lower_among book s best; upper = upper_among book s best } in
      let lead =
      best_lead book lanes even cand (limits book) volumes marked vols m fs most left gaps s gs apart same least
      left_too (lower_among book s best) (upper_among book s best) positive refl refl in
      rw (best_limits_keyed book leaders lead)
      (best_marked book lanes even cand (limits book) volumes marked vols m fs most left gaps s gs apart same least
      left_too)

  pub some_best : (m : ℕ) (fs : List ℕ) → IsGreatestFlagged volumes flags m → fs ≡ zip2 (kept_if_equal m) volumes flags
      → NoFlagIn fs 0 (length fs) → ⊥
  some_best m fs most left none =
      some_left book (curve_lanes ticks demands supplies flags) even cand (limits book) volumes marked vols m fs most
      left none

-- ---- the rule

all_has : (f : ℕ → Bool) (ps : List ℕ) (t : ℕ) → list_all f ps ≡ true → has t ps ≡ true → f t ≡ true
all_has f [] t all e = no_tick t e
all_has f (p ∷ ps) t all e = grind (arith, common_steps, (all_has f ps t))

all_if : (f : ℕ → Bool) (ps : List ℕ) → ((t : ℕ) → has t ps ≡ true → f t ≡ true) → list_all f ps ≡ true
all_if f [] h = refl
all_if f (p ∷ ps) h =
    let here : f p ≡ true = h p (or_left (eqb p p) (has p ps) (eq-eqb p p refl)) in
    let rest : list_all f ps ≡ true = all_if f ps (λ t e. h t (or_right (eqb p t) (has t ps) e)) in
    rw (here, rest) refl

not_all : (f : ℕ → Bool) (ps : List ℕ) (t : ℕ) → has t ps ≡ true → f t ≡ false → list_all f ps ≡ false
not_all f ps t e fails = elim (cases_Bool (list_all f ps)) [
  | inl all ↦ absurd (let wrong : true ≡ false = sym (all_has f ps t all e) ∙ fails in cc)
  | inr some ↦ some
]

one_if_same : (ps : List ℕ) (t : ℕ) → has t ps ≡ true → ((q : ℕ) → has q ps ≡ true → q ≡ t) → is_one_tick ps ≡ true
one_if_same [] t e same = no_tick t e
one_if_same (p ∷ ps) t e same =
    let first : p ≡ t = same p (or_left (eqb p p) (has p ps) (eq-eqb p p refl)) in
    all_if (λ q. eqb q p) ps (λ q h. eq-eqb q p (same q (or_right (eqb p q) (has q ps) h) ∙ sym first))

not_one : (ps : List ℕ) (p q : ℕ) → has p ps ≡ true → has q ps ≡ true → p < q → is_one_tick ps ≡ false
not_one ps p q at_p at_q less = elim (cases_Bool (is_one_tick ps)) [
  | inl one ↦
      let (best, all) = one_best ps one in
      let first : p ≡ best = All_at (λ tick. tick ≡ best) ps all.same p at_p in
      let second : q ≡ best = All_at (λ tick. tick ≡ best) ps all.same q at_q in
      absurd (omega arith)
  | inr several ↦ several
]

-- without a best limit the price is that of market orders alone
pub market_alone : (book : List Order) → best_limits book ≡ [] → IsDecidingRule book Market
unfolding rule_of
market_alone book none r = elim (cases_Bool (is_empty (limits book))) [
  | inl no_limit ↦ elim (cases_Bool (has_market_orders book)) [
    | inl market ↦ rw (price_cases book r, no_limit, market) refl
    | inr no_market ↦ rw (price_cases book r, no_limit, no_market) tt
  ]
  | inr limited ↦ rw (price_cases book r, limited, none) tt
]

some_rule : (book : List Order) (rule : Rule) → rule_of book ≡ Some rule → IsDecidingRule book rule
some_rule book rule is r = if_some (price_tick book r)
  where
    if_some : (o : Option ℕ) → IfSome o (λ tick. rule_of book ≡ Some rule)
    if_some None = tt
    if_some (Some t) = is

module _ (book : List Order) (low n : ℕ) (best : List ℕ) (long : length best ≡ n)
    (marked : AreMarked (ticks_from low n) best (best_limits book)) where
  pub unmarked_rule : NoFlagIn best 0 (length best) → IsDecidingRule book Market
  unmarked_rule none =
      market_alone book (none_empty (best_limits book) (λ t e. let p = marked.place t e in
      none p.0 (omega arith) p.1 p.2))

  module _ (i j : ℕ) (first : IsFirstFlag best i) (last : IsLastFlag best j) where
    at_first : has (low + i) (best_limits book) ≡ true
    at_first =
        subst (λ t. has t (best_limits book) ≡ true) (tick_at_place book low n best long i first.here)
        (marked.there i first.here)

    at_last : has (low + j) (best_limits book) ≡ true
    at_last =
        subst (λ t. has t (best_limits book) ≡ true) (tick_at_place book low n best long j last.here)
        (marked.there j last.here)

    among : (q : ℕ) → has q (best_limits book) ≡ true → (low + i ≤ q) × (q ≤ low + j)
    among q e =
        let p = marked.place q e in
        let is = tick_at_place book low n best long p.0 p.2 in (
          elim (cases_lt p.0 i) [
            | inl less ↦ absurd (first.before p.0 (omega arith) less p.2)
            | inr more ↦ omega (arith, is, p.3)
          ],
          elim (cases_lt j p.0) [
            | inl more ↦ absurd (last.after p.0 (omega arith) p.1 p.2)
            | inr less ↦ omega (arith, is, p.3)
          ],
        )

    limited : is_empty (limits book) ≡ false
    unfolding best_limits
    limited = not_empty (limits book) (low + i) (filter-has (is_best book) (limits book) (low + i) at_first).0

    some : is_empty (best_limits book) ≡ false
    some = not_empty (best_limits book) (low + i) at_first

    pub single_told : i ≡ j → IsDecidingRule book Single
    unfolding rule_of
    single_told same =
        let one : is_one_tick (best_limits book) ≡ true =
        one_if_same (best_limits book) (low + i) at_first (λ q e. let w =
        among q e in omega (arith, same, w.0, w.1)) in
        some_rule book Single (rw (limited, some, one) refl)

    module _ (apart : i ≡ j → ⊥) where
      several : is_one_tick (best_limits book) ≡ false
      several =
          let w = among (low + i) at_first in
          let less : low + i < low + j = omega (arith, w.1, apart) in
          not_one (best_limits book) (low + i) (low + j) at_first at_last less

      all_bid : supply book (low + j) < demand book (low + j) → list_all (has_bid_surplus book) (best_limits book)
          ≡ true
      unfolding has_bid_surplus
      all_bid more = all_if _ (best_limits book) (λ q e.
          let w = among q e in
          lt-ltb (supply book q) (demand book q)
          (omega (arith, more, demand_falls book q (low + j) w.1, supply_rises book q (low + j) w.1)))

      not_bid : demand book (low + j) ≤ supply book (low + j) → list_all (has_bid_surplus book) (best_limits book)
          ≡ false
      unfolding has_bid_surplus
      not_bid less =
          not_all _ (best_limits book) (low + j) at_last (le-ltb (supply book (low + j)) (demand book (low + j)) less)

      all_ask : demand book (low + i) < supply book (low + i) → list_all (has_ask_surplus book) (best_limits book)
          ≡ true
      unfolding has_ask_surplus
      all_ask more = all_if _ (best_limits book) (λ q e.
          let w = among q e in
          lt-ltb (demand book q) (supply book q)
          (omega (arith, more, demand_falls book (low + i) q w.0, supply_rises book (low + i) q w.0)))

      not_ask : supply book (low + i) ≤ demand book (low + i) → list_all (has_ask_surplus book) (best_limits book)
          ≡ false
      unfolding has_ask_surplus
      not_ask less =
          not_all _ (best_limits book) (low + i) at_first (le-ltb (demand book (low + i)) (supply book (low + i)) less)

      pub highest_told : supply book (low + j) < demand book (low + j) → IsDecidingRule book Highest
      unfolding rule_of
      highest_told more = some_rule book Highest (rw (limited, some, several, all_bid more) refl)

      module _ (not_above : demand book (low + j) ≤ supply book (low + j)) where
        pub lowest_told : demand book (low + i) < supply book (low + i) → IsDecidingRule book Lowest
        unfolding rule_of
        lowest_told more = some_rule book Lowest (rw (limited, some, several, not_bid not_above, all_ask more) refl)

        pub reference_told : supply book (low + i) ≤ demand book (low + i) → IsDecidingRule book Reference
        unfolding rule_of
        reference_told less =
            some_rule book Reference (rw (limited, some, several, not_bid not_above, not_ask less) refl)

-- ---- all curves of a ladder

present_of : (v : LadderView) (book : List Order) → IsLadderOf v book
    → v.present ≡ tick_values (limit_flag book) v.low (length v.bids)
unfolding ladder_of
present_of v book is = ap (λ (w : LadderView). w.present) is.same

pub curves_from : (v : LadderView) (book : List Order) (curves : Curves) (ds ss vs gs bs : List ℕ) → IsLadder v
    → IsLadderOf v book
    → curves.demands.items ≡ ds → curves.supplies.items ≡ ss → curves.volumes.items ≡ vs → curves.surpluses.items ≡ gs
    → curves.best.items ≡ bs
    → ds ≡ falling_sums v.market_bids v.bids → ss ≡ rising_sums v.market_asks v.asks → vs ≡ zip2 min ds ss
    → gs ≡ zip2 abs_diff ds ss
    → LeavesBest ds ss v.present bs → length bs ≡ length v.bids → AreCurves v.low (length v.bids) curves book
curves_from v book curves ds ss vs gs bs sound is to_ds to_ss to_vs to_gs to_bs fall rise least apart best long =
    let n = length v.bids in
    let all = curves-of_ladder v book is sound.flags in
    let demands : ds ≡ tick_values (demand book) v.low n = fall ∙ demands_spread v book all in
    let supplies : ss ≡ tick_values (supply book) v.low n = rise ∙ supplies_spread v book all in
    let present : v.present ≡ tick_values (limit_flag book) v.low n = present_of v book is in
    let same : length v.present ≡ n = ap length present ∙ length-tick_values (limit_flag book) v.low n in
    let volumes : vs ≡ tick_values (volume book) v.low n =
    least ∙ rw (demands, supplies) (volumes_spread book v.low n) in
    let surpluses : gs ≡ tick_values (surplus book) v.low n =
    apart ∙ rw (demands, supplies) (surpluses_spread book v.low n) in
    let candidates : AreCandidates book (curve_lanes (ticks_from v.low n) ds ss v.present) =
    rw (demands, supplies) (candidates_spread book v.low n v.present same) in
    let marked : AreMarked (ticks_from v.low n) bs (best_limits book) =
    best (ticks_from v.low n) book candidates (limits_marked book v.low n v.present present is.within) in
    record {
      demands = to_ds ∙ demands;
      supplies = to_ss ∙ supplies;
      volumes = to_vs ∙ volumes;
      surpluses = to_gs ∙ surpluses;
      best = rw to_bs marked;
      flags = ap length to_bs ∙ long;
    }

-- ---- lengths

pub long_as : (h : ℕ → ℕ → ℕ) (xs ds ss fs : List ℕ) → xs ≡ zip2 h ds ss → length ss ≡ length ds → length fs ≡ length ds
    → length xs ≡ length fs
long_as h xs ds ss fs is same flags = ap length is ∙ length-zip2 h ds ss (sym same) ∙ sym flags

pub long_left : (h : ℕ → ℕ → ℕ) (xs vs fs gs : List ℕ) → gs ≡ zip2 h vs fs → length vs ≡ length fs
    → length xs ≡ length fs → length xs ≡ length gs
long_left h xs vs fs gs is same long = long ∙ sym (ap length is ∙ length-zip2 h vs fs same ∙ same)
