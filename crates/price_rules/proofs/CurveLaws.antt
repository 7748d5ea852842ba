-- What a ladder says of its orders.
use Rattle.std.proofs.Common.{◌≡◌, ℕ, zero, suc, ◌+◌, ◌-◌, ◌≤◌, ◌<◌, Bool, true, cond, ◌&&◌, not, ltb, List, [], ◌∷◌}
use Rattle.std.proofs.Common.{filter, All, length, get_or, sum, refl, sym, ap, ◌∙◌, zero-add, arith}
use Rattle.std.specs.Simd.Lanes.{zip2}
use Rattle.std.proofs.lemmas.Bool.{lt-ltb, ltb-true}
use Rattle.std.proofs.lemmas.Bool.Decides.{nat_tests}
use Rattle.auction_terms.specs.declared.Order.{Order}
use Rattle.auction_terms.specs.declared.Side.{Side}
use Rattle.auction_terms.specs.declared.Side.TheVariants.{Bid, Ask}
use Rattle.auction_terms.specs.declared.Limit.{Limit}
use Rattle.auction_terms.specs.Book.{demand, supply, quantity_of, is_bid_side, is_market, reaches, limits}
use Rattle.auction_terms.proofs.DemandShape.{AtTick, limits_parts}
use Rattle.auction_terms.proofs.DemandSums.{counted, quantity_of-cons}
use Rattle.auction_terms.specs.Ladder.{LadderView, tick_values, is_at, quantity_at, market_quantity, limit_flag}
use Rattle.auction_terms.specs.Ladder.{ladder_of, flag_of}
use Rattle.auction_terms.proofs.LadderLaws.{length-tick_values, at_spread, limit_present}
use Rattle.tick_ladder.specs.TickLadder.{IsLadderOf}
use Rattle.std.proofs.lemmas.Grind.{common_steps}
use Rattle.lanes.specs.Meeting.{before}
use Rattle.tick_ladder.proofs.BeforeLaws.{before_next, before_all}
use Rattle.auction_terms.specs.Auxiliary.BestTicks.{has}
use Rattle.auction_terms.proofs.TickListLaws.{All_at}

-- ---- lists by tick

flag_there : (b a : List ℕ) (i : ℕ) → length a ≡ length b → i < length b
    → get_or (zip2 flag_of b a) i 0 ≡ flag_of (get_or b i 0) (get_or a i 0)
flag_there [] a i e lt = absurd (omega (arith, lt))
flag_there (x ∷ xs) [] i e lt = absurd (omega (arith, e))
flag_there (x ∷ xs) (y ∷ ys) zero e lt = refl
flag_there (x ∷ xs) (y ∷ ys) (suc i) e lt = flag_there xs ys i (omega (arith, e)) (omega (arith, lt))

-- ---- sums over the orders

abbrev quantity_if : (Order → Bool) → List Order → ℕ
quantity_if t book = quantity_of (filter t book)

quantity_of-cond : (b : Bool) (order : Order) (orders : List Order) → quantity_of (cond b (order ∷ orders) orders)
    ≡ counted b order + quantity_of orders
quantity_of-cond b order orders = grind (arith, common_steps, quantity_of-cons, zero-add)

quantity_of-split : (P : ℕ → Type 0) (t a b : Order → Bool)
    → ((o : Order) → AtTick P o.limit → counted (t o) o ≡ counted (a o) o + counted (b o) o) → (book : List Order)
    → All P (limits book) → quantity_if t book ≡ quantity_if a book + quantity_if b book
quantity_of-split P t a b each [] all = refl
quantity_of-split P t a b each (o ∷ book) all =
    let parts = limits_parts P o.limit o book refl all in
    omega (arith, quantity_of-cond, each o parts.0, quantity_of-split P t a b each book parts.1)

quantity_of-agree : (P : ℕ → Type 0) (t a : Order → Bool)
    → ((o : Order) → AtTick P o.limit → counted (t o) o ≡ counted (a o) o)
    → (book : List Order) → All P (limits book) → quantity_if t book ≡ quantity_if a book
quantity_of-agree P t a each [] all = refl
quantity_of-agree P t a each (o ∷ book) all =
    let parts = limits_parts P o.limit o book refl all in
    omega (arith, quantity_of-cond, each o parts.0, quantity_of-agree P t a each book parts.1)

abbrev IsLadderTick : ℕ → ℕ → ℕ → Type 0
IsLadderTick low n l = (low ≤ l) × (l < low + n)

bid_step : (limit : Limit) (side : Side) (n t : ℕ) → cond (is_bid_side side && reaches limit side t) n 0
    ≡ cond (is_bid_side side && is_at t limit) n 0 + cond (is_bid_side side && reaches limit side (t + 1)) n 0
bid_step limit side n t = grind (arith, common_steps, nat_tests)

bid_end : (limit : Limit) (side : Side) (n low m : ℕ) → AtTick (IsLadderTick low m) limit
    → cond (is_bid_side side && reaches limit side (low + m)) n 0 ≡ cond (is_bid_side side && is_market limit) n 0
bid_end limit side n low m h = grind (arith, common_steps, nat_tests)

ask_step : (limit : Limit) (side : Side) (n t : ℕ) → cond (not (is_bid_side side) && reaches limit side (t + 1)) n 0
    ≡ cond (not (is_bid_side side) && reaches limit side t) n 0 + cond (not (is_bid_side side) && is_at (t + 1) limit) n
    0
ask_step limit side n t = grind (arith, common_steps, nat_tests)

ask_first : (limit : Limit) (side : Side) (n low m : ℕ) → AtTick (IsLadderTick low m) limit
    → cond (not (is_bid_side side) && reaches limit side low) n 0 ≡ cond (not (is_bid_side side) && is_market limit) n 0
    + cond (not (is_bid_side side) && is_at low limit) n 0
ask_first limit side n low m h = grind (arith, common_steps, nat_tests)

demand_next : (book : List Order) (low m t : ℕ) → All (IsLadderTick low m) (limits book)
    → demand book t ≡ quantity_at Bid book t + demand book (t + 1)
unfolding demand
demand_next book low m t all = search (arith, quantity_of-split, bid_step)

demand_end : (book : List Order) (low m : ℕ) → All (IsLadderTick low m) (limits book)
    → demand book (low + m) ≡ market_quantity Bid book
unfolding demand
demand_end book low m all = search (arith, quantity_of-agree, bid_end)

supply_next : (book : List Order) (low m t : ℕ) → All (IsLadderTick low m) (limits book)
    → supply book (t + 1) ≡ supply book t + quantity_at Ask book (t + 1)
unfolding supply
supply_next book low m t all = search (arith, quantity_of-split, ask_step)

supply_first : (book : List Order) (low m : ℕ) → All (IsLadderTick low m) (limits book)
    → supply book low ≡ market_quantity Ask book + quantity_at Ask book low
unfolding supply
supply_first book low m all = search (arith, quantity_of-split, ask_first)

-- ---- demand and supply from sums

demand_up : (book : List Order) (low n : ℕ) (b : List ℕ) (i : ℕ) → All (IsLadderTick low n) (limits book)
    → b ≡ tick_values (quantity_at Bid book) low n → i ≤ n → demand book (low + i) + before b i ≡ demand book low
demand_up book low n b zero all e h = grind (arith, common_steps)
demand_up book low n b (suc i) all e h =
    let here : get_or b i 0 ≡ quantity_at Bid book (low + i) =
    ap (λ l. get_or l i 0) e ∙ at_spread (quantity_at Bid book) low n i (omega arith) in
    let up : suc i ≡ i + 1 = omega arith in
    let next : demand book (low + suc i) ≡ demand book (low + i + 1) = ap (demand book) (omega arith) in
    omega (
      arith,
      here,
      next,
      ap (before b) up,
      before_next b i,
      demand_next book low n (low + i) all,
      demand_up book low n b i all e (omega arith),
    )

supply_up : (book : List Order) (low n : ℕ) (a : List ℕ) (i : ℕ) → All (IsLadderTick low n) (limits book)
    → a ≡ tick_values (quantity_at Ask book) low n → i < n
    → supply book (low + i) ≡ market_quantity Ask book + before a (i + 1)
supply_up book low n a zero all e h =
    grind (
      arith,
      common_steps,
      (at_spread (quantity_at Ask book) low n 0 (omega arith)),
      (before_next a 0),
      (supply_first book low n all),
    )
supply_up book low n a (suc i) all e h =
    let here : get_or a (suc i) 0 ≡ quantity_at Ask book (low + suc i) =
    ap (λ l. get_or l (suc i) 0) e ∙ at_spread (quantity_at Ask book) low n (suc i) (omega arith) in
    let same : low + suc i ≡ low + i + 1 = omega arith in
    let up : suc i ≡ i + 1 = omega arith in
    omega (
      arith,
      here,
      ap (supply book) same,
      ap (quantity_at Ask book) same,
      ap (before a) up,
      before_next a (suc i),
      supply_next book low n (low + i) all,
      supply_up book low n a i all e (omega arith),
    )

-- ---- what the ladder of a book says

pub record HasCurvesOf (v : LadderView) (book : List Order) : Type 0 where
  pub same : length v.asks ≡ length v.bids
  pub demand_is : (i : ℕ) → i ≤ length v.bids → demand book (v.low + i) + before v.bids i ≡ v.market_bids + sum v.bids
  pub supply_is : (i : ℕ) → i < length v.bids → supply book (v.low + i) ≡ v.market_asks + before v.asks (i + 1)
  pub place_of : (q : ℕ) → has q (limits book) ≡ true → (i : ℕ) × (i < length v.bids) × (v.low + i ≡ q)
      × (0 < get_or v.bids i 0 + get_or v.asks i 0)
  pub limit_at : (i : ℕ) → i < length v.bids → 0 < get_or v.bids i 0 + get_or v.asks i 0
      → has (v.low + i) (limits book) ≡ true

abbrev one_of : Bool → ℕ
one_of b = cond b 1 0

one_if : (b c : Bool) → one_of b ≡ one_of c → c ≡ true → b ≡ true
one_if b c e h = grind (arith, common_steps)

pub curves-of_ladder : (v : LadderView) (book : List Order) → IsLadderOf v book → v.present ≡ zip2 flag_of v.bids v.asks
    → HasCurvesOf v book
unfolding ladder_of
curves-of_ladder v book h flags =
    let n = length v.bids in
    let eb : v.bids ≡ tick_values (quantity_at Bid book) v.low n = ap (λ (w : LadderView). w.bids) h.same in
    let ea : v.asks ≡ tick_values (quantity_at Ask book) v.low n = ap (λ (w : LadderView). w.asks) h.same in
    let ep : v.present ≡ tick_values (limit_flag book) v.low n = ap (λ (w : LadderView). w.present) h.same in
    let mb : v.market_bids ≡ market_quantity Bid book = ap (λ (w : LadderView). w.market_bids) h.same in
    let ma : v.market_asks ≡ market_quantity Ask book = ap (λ (w : LadderView). w.market_asks) h.same in
    let long : length v.asks ≡ length v.bids = ap length ea ∙ length-tick_values (quantity_at Ask book) v.low n in
    let top : demand book (v.low + n) + before v.bids n ≡ demand book v.low =
    demand_up book v.low n v.bids n h.within eb (omega arith) in
    let all : before v.bids n ≡ sum v.bids = before_all v.bids n (omega arith) in
    let flag : (i : ℕ) → i < n → one_of (has (v.low + i) (limits book))
    ≡ one_of (ltb 0 (get_or v.bids i 0 + get_or v.asks i 0)) =
    λ i lt. ap one_of (sym (limit_present book (v.low + i))) ∙ sym (at_spread (limit_flag book) v.low n i lt)
    ∙ sym (ap (λ l. get_or l i 0) ep) ∙ ap (λ l. get_or l i 0) flags ∙ flag_there v.bids v.asks i long lt in
    record {
      same = long;
      demand_is =
          λ i lt. omega (
            arith,
            mb,
            top,
            all,
            demand_end book v.low n h.within,
            demand_up book v.low n v.bids i h.within eb lt,
          );
      supply_is = λ i lt. omega (arith, ma, supply_up book v.low n v.asks i h.within ea lt);
      place_of = λ q e.
          let w = All_at (IsLadderTick v.low n) (limits book) h.within q e in
          let back : v.low + (q - v.low) ≡ q = omega arith in
          let lt : q - v.low < n = omega arith in
          let there : has (v.low + (q - v.low)) (limits book) ≡ true = ap (λ t. has t (limits book)) back ∙ e in (
            q - v.low,
            lt,
            back,
            ltb-true 0 (get_or v.bids (q - v.low) 0 + get_or v.asks (q - v.low) 0)
                (one_if (ltb 0 (get_or v.bids (q - v.low) 0 + get_or v.asks (q - v.low) 0))
                (has (v.low + (q - v.low)) (limits book)) (sym (flag (q - v.low) lt)) there),
          );
      limit_at =
          λ i lt some. one_if (has (v.low + i) (limits book)) (ltb 0 (get_or v.bids i 0 + get_or v.asks i 0))
          (flag i lt) (lt-ltb 0 (get_or v.bids i 0 + get_or v.asks i 0) some);
    }
