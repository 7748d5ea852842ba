-- What is in the ladder of a book, at one limit and in all.
use Rattle.std.proofs.Common.{◌≡◌, ℕ, zero, suc, ◌+◌, ◌≤◌, Bool, true, false, cond, ◌&&◌, List, [], ◌∷◌, sum, sum_by}
use Rattle.std.proofs.Common.{refl, ap, arith, nat_eq}
use Rattle.std.proofs.lemmas.Bool.Decides.{nat_tests}
use Rattle.std.proofs.lemmas.List.Sums.{sum_by-cons}
use Rattle.std.proofs.lemmas.Grind.{common_steps}
use Rattle.auction_terms.specs.declared.Order.{Order}
use Rattle.auction_terms.specs.declared.Side.{Side}
use Rattle.auction_terms.specs.declared.Side.TheVariants.{Bid, Ask}
use Rattle.auction_terms.specs.declared.Limit.{Limit}
use Rattle.auction_terms.specs.declared.Limit.TheVariants.{Market, At}
use Rattle.auction_terms.specs.Book.{is_same_side, is_market, quantity_of}
use Rattle.auction_terms.specs.Ladder.{is_at, quantity_at, market_quantity, tick_values, ladder_of, IsTickOf}
use Rattle.auction_terms.proofs.LadderLaws.{same_spread, at_spread, stands_by, market_by, by_order, by_market}
use Rattle.auction_terms.proofs.LadderLaws.{standing_is, market_is}
use Rattle.auction_terms.proofs.LadderSums.{HasOrderMore, order_additive, market_additive}
use Rattle.auction_terms.specs.Ladder.{quantity_in}
use Rattle.lanes.proofs.RunningSumLaws.{sum-cons}
use Rattle.tick_ladder.specs.TickLadder.{total_quantity}

-- ---- at one limit

nat_eq-same : (l : ℕ) → nat_eq l l ≡ true
nat_eq-same l = grind (arith, nat_tests)

cond-same : (l q : ℕ) → cond (nat_eq l l) q 0 ≡ q
cond-same l q = ap (λ b. cond b q 0) (nat_eq-same l)

at_limit : (low n : ℕ) (book : List Order) (side : Side) (limit : Limit) (q : ℕ) → IsTickOf low n limit
    → ((s : Side) (t : ℕ) → stands_by s t side limit q ≤ quantity_at s book t)
    → ((s : Side) → market_by s side limit q ≤ market_quantity s book)
    → q ≤ quantity_in (ladder_of low n book) side limit
unfolding ladder_of
at_limit low n book side limit q tick stands sums = grind (arith, common_steps, at_spread, stands, cond-same)

-- the ladder has an order of the book at its limit
pub quantity_in-least : (low n : ℕ) (old new : List Order) (o : Order) → IsTickOf low n o.limit → HasOrderMore o old new
    → o.quantity ≤ quantity_in (ladder_of low n new) o.side o.limit
unfolding by_order by_market
quantity_in-least low n old new o tick is =
    grind (arith, common_steps, at_limit, by_order, order_additive, standing_is, by_market, market_additive, market_is)

-- ---- in all

sum-spread_none : (f : ℕ → ℕ) (a n : ℕ) → ((t : ℕ) → a ≤ t → f t ≡ 0) → sum (tick_values f a n) ≡ 0
sum-spread_none f a zero none = refl
sum-spread_none f a (suc n) none =
    omega (
      arith,
      sum-cons (f a) (tick_values f (a + 1) n),
      none a (omega arith),
      sum-spread_none f (a + 1) n (λ t h. none t (omega arith)),
    )

sum-spread_plus : (f g : ℕ → ℕ) (a n : ℕ) → sum (tick_values (λ t. f t + g t) a n) ≡ sum (tick_values f a n)
    + sum (tick_values g a n)
sum-spread_plus f g a zero = refl
sum-spread_plus f g a (suc n) = grind (arith, common_steps, sum-cons, (sum-spread_plus f g (a + 1) n))

nat_eq-later : (l a t : ℕ) → nat_eq l a ≡ true → a + 1 ≤ t → nat_eq l t ≡ false
nat_eq-later l a t e h = grind (arith, nat_tests)

-- one tick has it, at most
sum-one_tick : (l q a n : ℕ) → sum (tick_values (λ t. cond (nat_eq l t) q 0) a n) ≤ q
sum-one_tick l q a zero = omega arith
sum-one_tick l q a (suc n) =
    grind (arith, common_steps, sum-spread_none, nat_eq-later, sum-cons, (sum-one_tick l q (a + 1) n))

-- what an order adds to the ticks and the market sum of a side
sum-one_order : (b : Bool) (limit : Limit) (q low n : ℕ) → sum (tick_values (λ t. cond (b && is_at t limit) q 0) low n)
    + cond (b && is_market limit) q 0 ≤ cond b q 0
sum-one_order false limit q low n = let none = sum-spread_none (λ t. 0) low n (λ t h. refl) in omega arith
sum-one_order true Market q low n = let none = sum-spread_none (λ t. 0) low n (λ t h. refl) in omega arith
sum-one_order true (At l) q low n = let one = sum-one_tick l q low n in omega arith

on : Side → Order → ℕ
on s o = cond (is_same_side s o.side) o.quantity 0

side_within : (s : Side) (book : List Order) (low n : ℕ) → sum (tick_values (λ t. sum_by (by_order s t) book) low n)
    + sum_by (by_market s) book ≤ sum_by (on s) book
unfolding by_order by_market on
side_within s [] low n = let none = sum-spread_none (λ t. 0) low n (λ t h. refl) in omega arith
side_within s (o ∷ book) low n =
    let split =
    ap sum (same_spread (λ t. sum_by (by_order s t) (o ∷ book)) (λ t. by_order s t o + sum_by (by_order s t) book)
    low n (λ t. sum_by-cons (by_order s t) o book)) in
    let parts = sum-spread_plus (λ t. by_order s t o) (λ t. sum_by (by_order s t) book) low n in
    let one = sum-one_order (is_same_side s o.side) o.limit o.quantity low n in
    omega (
      arith,
      split,
      parts,
      one,
      sum_by-cons (by_market s) o book,
      sum_by-cons (on s) o book,
      side_within s book low n,
    )

both_sides : (book : List Order) → sum_by (on Bid) book + sum_by (on Ask) book ≡ quantity_of book
unfolding on
both_sides [] = refl
both_sides (o ∷ book) = grind (arith, common_steps, sum_by-cons, on, (both_sides book))

-- the ladder has no more than the book
pub all_within : (low n : ℕ) (book : List Order) → total_quantity (ladder_of low n book) ≤ quantity_of book
unfolding ladder_of
all_within low n book =
    let bids =
    ap sum (same_spread (quantity_at Bid book) (λ t. sum_by (by_order Bid t) book) low n (standing_is Bid book)) in
    let asks =
    ap sum (same_spread (quantity_at Ask book) (λ t. sum_by (by_order Ask t) book) low n (standing_is Ask book)) in
    omega (
      arith,
      bids,
      asks,
      market_is Bid book,
      market_is Ask book,
      side_within Bid book low n,
      side_within Ask book low n,
      both_sides book,
    )
