-- Demand and supply at the limits next to the crossing, and the price from them.
use Rattle.std.proofs.Common.{◌≡◌, ℕ, zero, suc, ◌+◌, ◌-◌, ◌≤◌, ◌<◌, inl, inr, Bool, true, false, cond, ltb, not, List}
use Rattle.std.proofs.Common.{[], Some, None, length, get_or, min, refl, sym, ap, ◌∙◌, arith}
use Rattle.std.specs.List.{list_any}
use Rattle.std.proofs.lemmas.Bool.{cases_lt}
use Rattle.auction_terms.specs.declared.Order.{Order}
use Rattle.auction_terms.specs.Book.{demand, supply, volume, surplus, surplus_side, has_bid_surplus, has_ask_surplus}
use Rattle.auction_terms.specs.Book.{limits}
use Rattle.auction_terms.specs.AuctionPrice.{priced, price, is_empty}
use Rattle.auction_terms.specs.Ladder.{LadderView}
use Rattle.lanes.specs.Meeting.{before}
use Rattle.tick_ladder.proofs.BeforeLaws.{before_all, before_next}
use Rattle.auction_terms.specs.Auxiliary.BestTicks.{Leaders, AreBest, has}
use Rattle.auction_terms.proofs.ChoiceLaws.{is_limited, limits_empty, price_scanned}
use Rattle.price_rules.specs.declared.surroundings.Around.{Around}
use Rattle.price_rules.specs.Around.{IsAround, few_limits}
use Rattle.price_rules.specs.ClampedPrice.{price_from, priced_by, market_priced}
use Rattle.auction_terms.proofs.TickListLaws.{not_empty, none_empty, no_tick}
use Rattle.price_rules.proofs.CoverLaws.{Covered, among, beaten, behind, best_all}
use Rattle.price_rules.proofs.CurveLaws.{HasCurvesOf}
use Rattle.price_rules.proofs.ClampedPriceLaws.{price_led}
use Rattle.price_rules.proofs.NearbyLaws.{stand_around}

pub priced_there : (book : List Order) (p d s : ℕ) → d ≡ demand book p → s ≡ supply book p
    → priced_by p d s ≡ priced book p
unfolding priced volume surplus surplus_side has_bid_surplus has_ask_surplus
priced_there book p d s hd hs = ap (λ x. priced_by p x s) hd ∙ ap (priced_by p (demand book p)) hs

-- the price, with leaders
pub price_some : (v : LadderView) (book : List Order) (a : Around) (r : ℕ) (leaders : Leaders) → HasCurvesOf v book
    → IsAround v a → AreBest book (few_limits v a) (Some leaders) → price book r ≡ price_from leaders r
price_some v book a r leaders tells is best =
    price_led book r leaders (best_all book (few_limits v a) (Some leaders) (stand_around v book a tells is) best)

all_none : (v : LadderView) (book : List Order) (a : Around) → HasCurvesOf v book → IsAround v a
    → AreBest book (few_limits v a) None → AreBest book (limits book) None
all_none v book a tells is best = best_all book (few_limits v a) None (stand_around v book a tells is) best

-- and with none: there is a limit, but no volume
pub price_none_some : (v : LadderView) (book : List Order) (a : Around) (r t : ℕ) → HasCurvesOf v book → IsAround v a
    → AreBest book (few_limits v a) None → has t (few_limits v a) ≡ true → price book r ≡ None
price_none_some v book a r t tells is e at =
    let some = not_empty (limits book) t ((stand_around v book a tells is).limits_too t at) in
    price_scanned book r None (all_none v book a tells is e)
    ∙ cond-not_true None (cond (ltb 0 (volume book r)) (Some (priced book r)) None) (list_any is_limited book)
    (limits_empty book) some
  where
    cond-not_true : {X : Type 0} (x y : X) {k : Bool} (b : Bool) → k ≡ not b → k ≡ false → cond b x y ≡ x
    cond-not_true x y true e f = refl
    cond-not_true x y false e f = absurd (let wrong : true ≡ false = sym e ∙ f in cc)

-- where no number of a list is above 0, nor is any sum
all_blank : (xs : List ℕ) (n k : ℕ) → ((i : ℕ) → i < n → get_or xs i 0 ≡ 0) → k ≤ n → before xs k ≡ 0
all_blank xs n zero none h = refl
all_blank xs n (suc k) none h =
    let up : suc k ≡ k + 1 = omega arith in
    omega (arith, ap (before xs) up, before_next xs k, none k (omega arith), all_blank xs n k none (omega arith))

covered-not_none : (book : List Order) (few : List ℕ) (q : ℕ) → ((t : ℕ) → has t few ≡ true → ⊥) → Covered book few q
    → ⊥
covered-not_none book few q none (among h) = none q h
covered-not_none book few q none (beaten c h less worse) = none c h
covered-not_none book few q none (behind c h far ask_c ask_q less worse) = none c h

-- no limit at all
pub price_market : (v : LadderView) (book : List Order) (a : Around) (r : ℕ) → HasCurvesOf v book → IsAround v a
    → AreBest book (few_limits v a) None → ((t : ℕ) → has t (few_limits v a) ≡ true → ⊥) → v.low ≤ r
    → r < v.low + length v.bids → price book r ≡ market_priced v r
unfolding volume
price_market v book a r tells is e no_few from to =
    let n = length v.bids in
    let i = r - v.low in
    let back : v.low + (r - v.low) ≡ r = omega arith in
    let none : limits book ≡ [] =
    none_empty (limits book)
    (λ t h. covered-not_none book (few_limits v a) t no_few ((stand_around v book a tells is).covers t h)) in
    let nothing : (k : ℕ) → k < n → (0 < get_or v.bids k 0 + get_or v.asks k 0) → ⊥ =
    λ k lt some. let there : has (v.low + k) (limits book) ≡ true = tells.limit_at k lt some in
    no_tick (v.low + k) (ap (has (v.low + k)) (sym none) ∙ there) in
    let no_bid : (k : ℕ) → k < n → get_or v.bids k 0 ≡ 0 = λ k lt. elim (cases_lt 0 (get_or v.bids k 0)) [
      | inl some ↦
          absurd (nothing k lt (omega arith))
      | inr none ↦ omega arith
    ] in
    let no_ask : (k : ℕ) → k < n → get_or v.asks k 0 ≡ 0 = λ k lt. elim (cases_lt 0 (get_or v.asks k 0)) [
      | inl some ↦
          absurd (nothing k lt (omega arith))
      | inr none ↦ omega arith
    ] in
    let d : demand book r ≡ v.market_bids =
    omega (
      arith,
      ap (demand book) back,
      tells.demand_is (r - v.low) (omega arith),
      all_blank v.bids n (r - v.low) no_bid (omega arith),
      all_blank v.bids n n no_bid (omega arith),
      before_all v.bids n (omega arith),
    ) in
    let s : supply book r ≡ v.market_asks =
    omega (
      arith,
      ap (supply book) back,
      tells.supply_is (r - v.low) (omega arith),
      all_blank v.asks n (r - v.low + 1) no_ask (omega arith),
    ) in
    price_scanned book r None (all_none v book a tells is e)
    ∙ cond-not_false None (cond (ltb 0 (min (demand book r) (supply book r))) (Some (priced book r)) None)
    (list_any is_limited book) (limits_empty book) (ap is_empty none)
    ∙ ap (λ x. cond (ltb 0 (min x (supply book r))) (Some (priced book r)) None) d
    ∙ ap (λ x. cond (ltb 0 (min v.market_bids x)) (Some (priced book r)) None) s
    ∙ ap (λ x. cond (ltb 0 (min v.market_bids v.market_asks)) (Some x) None)
    (sym (priced_there book r v.market_bids v.market_asks (sym d) (sym s)))
  where
    cond-not_false : {X : Type 0} (x y : X) {k : Bool} (b : Bool) → k ≡ not b → k ≡ true → cond b x y ≡ y
    cond-not_false x y false e f = refl
    cond-not_false x y true e f = absurd (let wrong : false ≡ true = sym e ∙ f in cc)
