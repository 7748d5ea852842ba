-- Demand falls and supply rises with the price, and neither changes where there is no limit. So the most volume is at a
-- limit.
use Rattle.std.proofs.Common.{◌≡◌, ℕ, ◌<◌, ◌≤◌, cond, ◌&&◌, not, List, [], ◌∷◌, All, ◌⊎◌, inl, inr, refl, arith}
use Rattle.std.proofs.lemmas.Bool.{cases_lt}
use Rattle.std.proofs.lemmas.List.Elements.{All-nil, All-cons, All-head, All-tail, All-weaker}
use Rattle.std.proofs.lemmas.Grind.{common_steps}
use Rattle.auction_terms.specs.declared.Order.{Order}
use Rattle.auction_terms.specs.declared.Side.{Side}
use Rattle.auction_terms.specs.declared.Limit.{Limit}
use Rattle.auction_terms.specs.declared.Limit.TheVariants.{Market, At}
use Rattle.auction_terms.specs.Book.{demand, supply, volume, is_bid_side, reaches, limits}
use Rattle.auction_terms.proofs.DemandSums.{demand-nil, demand-cons, supply-nil, supply-cons}

-- ---- an order at two ticks

-- P of the limit's tick, if it has one
abbrev pub AtTick : (ℕ → Type 0) → Limit → Type 0
AtTick P Market = Unit {0}
AtTick P (At l) = P l

bid_same : (limit : Limit) (side : Side) (n p q : ℕ) → p ≤ q → AtTick (λ l. (l < p) ⊎ (q ≤ l)) limit
    → cond (is_bid_side side && reaches limit side p) n 0 ≡ cond (is_bid_side side && reaches limit side q) n 0
bid_same limit side n p q h clear = grind (arith, common_steps)

ask_same : (limit : Limit) (side : Side) (n p q : ℕ) → p ≤ q → AtTick (λ l. (l ≤ p) ⊎ (q < l)) limit
    → cond (not (is_bid_side side) && reaches limit side p) n 0 ≡ cond (not (is_bid_side side) && reaches limit side q)
    n 0
ask_same limit side n p q h clear = grind (arith, common_steps)

-- what holds of each limit holds of the first order's and of the others'
pub limits_parts : (P : ℕ → Type 0) (limit : Limit) (order : Order) (book : List Order) → order.limit ≡ limit
    → All P (limits (order ∷ book)) → AtTick P order.limit × All P (limits book)
unfolding limits
limits_parts P Market order book e all = rw e (tt, rw e at all)
limits_parts P (At l) order book e all =
    rw e (All-head P l (limits book) (rw e at all), All-tail P l (limits book) (rw e at all))

-- ---- the book at two ticks

pub demand_falls : (book : List Order) (p q : ℕ) → p ≤ q → demand book q ≤ demand book p
demand_falls [] p q h = omega (arith, demand-nil q)
demand_falls (order ∷ book) p q h = search (arith, demand-cons, (demand_falls book p q h))

pub supply_rises : (book : List Order) (p q : ℕ) → p ≤ q → supply book p ≤ supply book q
supply_rises [] p q h = omega (arith, supply-nil p)
supply_rises (order ∷ book) p q h = search (arith, supply-cons, (supply_rises book p q h))

-- there is no limit from p on and below q
pub demand_same : (book : List Order) (p q : ℕ) → p ≤ q → All (λ l. (l < p) ⊎ (q ≤ l)) (limits book)
    → demand book p ≡ demand book q
demand_same [] p q h clear = omega (arith, demand-nil p, demand-nil q)
demand_same (order ∷ book) p q h clear =
    let parts = limits_parts (λ l. (l < p) ⊎ (q ≤ l)) order.limit order book refl clear in
    omega (
      arith,
      demand-cons order book p,
      demand-cons order book q,
      bid_same order.limit order.side order.quantity p q h parts.0,
      demand_same book p q h parts.1,
    )

-- there is no limit above p and up to q
pub supply_same : (book : List Order) (p q : ℕ) → p ≤ q → All (λ l. (l ≤ p) ⊎ (q < l)) (limits book)
    → supply book p ≡ supply book q
supply_same [] p q h clear = omega (arith, supply-nil p, supply-nil q)
supply_same (order ∷ book) p q h clear =
    let parts = limits_parts (λ l. (l ≤ p) ⊎ (q < l)) order.limit order book refl clear in
    omega (
      arith,
      supply-cons order book p,
      supply-cons order book q,
      ask_same order.limit order.side order.quantity p q h parts.0,
      supply_same book p q h parts.1,
    )

-- ---- the limit next to a tick

data Nearest (P : ℕ → Type 0) (ps : List ℕ) (t : ℕ) : Type 0 where
  above : (l : ℕ) → P l → t ≤ l → All (λ q. (q < t) ⊎ (l ≤ q)) ps → Nearest P ps t
  below : (l : ℕ) → P l → l < t → All (λ q. q ≤ l) ps → Nearest P ps t

nearest : (P : ℕ → Type 0) (p : ℕ) (ps : List ℕ) (t : ℕ) → All P (p ∷ ps) → Nearest P (p ∷ ps) t
nearest P p [] t all = elim (cases_lt p t) [
  | inl less ↦ below p (All-head P p [] all) less (All-cons (λ q. q ≤ p) p [] (omega arith) (All-nil (λ q. q ≤ p)))
  | inr more ↦
      above p (All-head P p [] all) more
      (All-cons (λ q. (q < t) ⊎ (p ≤ q)) p [] (inr (omega arith)) (All-nil (λ q. (q < t) ⊎ (p ≤ q))))
]
nearest P p (q ∷ qs) t all =
    let here = All-head P p (q ∷ qs) all in
    elim (nearest P q qs t (All-tail P p (q ∷ qs) all)) [
      | above l at_l more clear ↦ elim (cases_lt p t) [
        | inl less ↦ above l at_l more (All-cons (λ q. (q < t) ⊎ (l ≤ q)) p (q ∷ qs) (inl less) clear)
        | inr no_less ↦ elim (cases_lt p l) [
          | inl closer ↦ above p here no_less (All-cons (λ q. (q < t) ⊎ (p ≤ q)) p (q ∷ qs) (inr (omega arith))
              (All-weaker (λ q. (q < t) ⊎ (l ≤ q)) (λ q. (q < t) ⊎ (p ≤ q)) (λ q h. elim h [
                | inl a ↦ inl a
                | inr b ↦
                    inr (omega arith)
              ]) (q ∷ qs) clear))
          | inr farther ↦ above l at_l more (All-cons (λ q. (q < t) ⊎ (l ≤ q)) p (q ∷ qs) (inr farther) clear)
        ]
      ]
      | below l at_l less all_below ↦ elim (cases_lt p t) [
        | inl small ↦ elim (cases_lt l p) [
          | inl closer ↦
              below p here small
              (All-cons (λ q. q ≤ p) p (q ∷ qs) (omega arith)
              (All-weaker (λ q. q ≤ l) (λ q. q ≤ p) (λ q h. omega arith) (q ∷ qs) all_below))
          | inr farther ↦ below l at_l less (All-cons (λ q. q ≤ l) p (q ∷ qs) farther all_below)
        ]
        | inr large ↦ above p here large (All-cons (λ q. (q < t) ⊎ (p ≤ q)) p (q ∷ qs) (inr (omega arith))
            (All-weaker (λ q. q ≤ l) (λ q. (q < t) ⊎ (p ≤ q)) (λ q h. inl (omega arith)) (q ∷ qs) all_below))
      ]
    ]

-- no tick has more volume than m, if no limit has
volume_at : (book : List Order) (m t p : ℕ) (ps : List ℕ) → limits book ≡ p ∷ ps → All (λ l. volume book l ≤ m) (p ∷ ps)
    → volume book t ≤ m
unfolding volume
volume_at book m t p ps same all = elim (nearest (λ l. volume book l ≤ m) p ps t all) [
  | above l at_l more clear ↦ omega (arith, at_l, demand_same book t l more (rw same clear), supply_rises book t l more)
  | below l at_l less all_below ↦
      let clear = All-weaker (λ q. q ≤ l) (λ q. (q ≤ l) ⊎ (t < q)) (λ q h. inl h) (p ∷ ps) all_below in
      omega (arith, at_l, supply_same book l t (omega arith) (rw same clear), demand_falls book l t (omega arith))
]

volume_all : (ps : List ℕ) (book : List Order) (m t : ℕ) → limits book ≡ ps → All (λ l. volume book l ≤ m) ps
    → (ps ≡ [] → volume book t ≤ m) → volume book t ≤ m
volume_all [] book m t same all empty = empty refl
volume_all (p ∷ ps) book m t same all empty = volume_at book m t p ps same all

pub volume_le : (book : List Order) (m t : ℕ) → All (λ l. volume book l ≤ m) (limits book)
    → (limits book ≡ [] → volume book t ≤ m) → volume book t ≤ m
volume_le book m t all empty = volume_all (limits book) book m t refl all empty
