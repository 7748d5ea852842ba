-- What the formula on ranks gives, going down the orders in rank order.
use Rattle.std.proofs.Common.{◌≡◌, ℕ, ◌+◌, ◌-◌, ◌<◌, min, Bool, cond, List, [], ◌∷◌, length, get_or, map, filter, refl}
use Rattle.std.proofs.Common.{sym, ap, ◌∙◌, arith, sum_by, zero, suc}
use Rattle.std.proofs.lemmas.List.Sums.{sum_by-cons}
use Rattle.std.proofs.lemmas.Cmp.{tied_itself, nat_cmp_total, on_total, then_total}
use Rattle.std.proofs.lemmas.Bool.Decides.{nat_tests}
use Rattle.std.specs.Cmp.{IsTotalOrder}
use Rattle.std.specs.List.{enumerate_from}
use Rattle.std.specs.Ordering.{is_lt, nat_cmp, ordering_reverse}
use Rattle.std.specs.declared.cmp.Ordering.{Ordering}
use Rattle.std.specs.declared.cmp.Ordering.TheVariants.{Less, Equal}
use Rattle.std.proofs.lemmas.Grind.{common_steps}
use Rattle.auction_terms.specs.declared.Side.{Side}
use Rattle.auction_terms.specs.declared.Limit.{Limit}
use Rattle.auction_terms.specs.declared.Order.{Order}
use Rattle.auction_terms.specs.declared.Fill.{Fill}
use Rattle.auction_terms.specs.Auxiliary.RankedFills.{requested_fill, allot, allot_by, ranked_orders}
use Rattle.auction_terms.specs.Auxiliary.Sort.{in_order}
use Rattle.auction_terms.specs.Allotment.{by_limit, by_price, by_rank, PlacedOrder, placed_orders, eligible_orders}
use Rattle.auction_terms.specs.Allotment.{quantity_ahead, fill, fills_of, is_positive}
use Rattle.auction_terms.specs.Auxiliary.Sort.{PlaceBelow, PlacesRise}
use Rattle.auction_terms.specs.Book.{is_eligible_on, volume}
use Rattle.auction_terms.proofs.SortLaws.{Before, Rising, Apart, AllApart, rising_in_order, sum_by-in_order, Agree}
use Rattle.auction_terms.proofs.SortLaws.{AllAgree, map-in_order}

by_price_antisymm : (side : Side) (x y : Limit) → by_price side x y ≡ ordering_reverse (by_price side y x)
by_price_antisymm side x y = grind (arith, common_steps)

by_price_trans : (side : Side) (x y z : Limit) → by_price side x y ≡ Less → by_price side y z ≡ Less
    → by_price side x z ≡ Less
by_price_trans side x y z f g = grind (arith, common_steps)

nat_tie : (m n : ℕ) → nat_cmp m n ≡ Equal → m ≡ n
nat_tie m n h = grind (arith, nat_tests)

by_price_congr : (side : Side) (x y z : Limit) → by_price side x y ≡ Equal → by_price side x z ≡ by_price side y z
by_price_congr side x y z f = grind (arith, common_steps, nat_tie)

pub by_price_total : (side : Side) → IsTotalOrder (by_price side)
by_price_total side = record {
  antisymm = by_price_antisymm side;
  trans = by_price_trans side;
  congr =
      by_price_congr side;
}

pub by_rank_total : (side : Side) → IsTotalOrder (by_rank side)
by_rank_total side =
    then_total (on_total (λ (x : PlacedOrder). x.1.limit) (by_price_total side))
    (on_total (λ (x : PlacedOrder). x.0) nat_cmp_total)

module _ {X : Type 0} (p : ℕ × X → Bool) where
  PlaceBelow-filter : (n : ℕ) (xs : List (ℕ × X)) → PlaceBelow n xs → PlaceBelow n (filter p xs)
  PlaceBelow-filter n [] b = tt
  PlaceBelow-filter n (x ∷ xs) b = grind (arith, common_steps, (PlaceBelow-filter n xs b.1))

  pub PlacesRise-filter : (xs : List (ℕ × X)) → PlacesRise xs → PlacesRise (filter p xs)
  PlacesRise-filter [] r = tt
  PlacesRise-filter (x ∷ xs) r = grind (arith, common_steps, PlaceBelow-filter, (PlacesRise-filter xs r.1))

PlaceBelow-enumerate : {X : Type 0} (m n : ℕ) (xs : List X) → m < n → PlaceBelow m (enumerate_from n xs)
PlaceBelow-enumerate m n [] l = tt
PlaceBelow-enumerate m n (x ∷ xs) l = (l, PlaceBelow-enumerate m (n + 1) xs (omega arith))

pub PlacesRise-enumerate : {X : Type 0} (n : ℕ) (xs : List X) → PlacesRise (enumerate_from n xs)
PlacesRise-enumerate n [] = tt
PlacesRise-enumerate n (x ∷ xs) = (PlaceBelow-enumerate n (n + 1) xs (omega arith), PlacesRise-enumerate (n + 1) xs)

pub map-enumerate : {X : Type 0} (n : ℕ) (xs : List X) → map (λ (x : ℕ × X). x.1) (enumerate_from n xs) ≡ xs
map-enumerate n [] = refl
map-enumerate n (x ∷ xs) = ap (λ l. x ∷ l) (map-enumerate (n + 1) xs)

apart_by_place : (side : Side) (x : PlacedOrder) (ys : List PlacedOrder) → PlaceBelow x.0 ys → Apart (by_rank side) x ys
apart_by_place side x [] b = tt
apart_by_place side x (y ∷ ys) b = search (arith, (apart_by_place side x ys b.1))

pub all_apart_by_place : (side : Side) (xs : List PlacedOrder) → PlacesRise xs → AllApart (by_rank side) xs
all_apart_by_place side [] r = tt
all_apart_by_place side (x ∷ xs) r = (apart_by_place side x xs r.0, all_apart_by_place side xs r.1)

agree_by_place : (side : Side) (x : PlacedOrder) (ys : List PlacedOrder) → PlaceBelow x.0 ys
    → Agree (by_rank side) (by_limit side) (λ z. z.1) x ys
agree_by_place side x [] b = tt
agree_by_place side x (y ∷ ys) b = grind (arith, (agree_by_place side x ys b.1))

pub all_agree_by_place : (side : Side) (xs : List PlacedOrder) → PlacesRise xs
    → AllAgree (by_rank side) (by_limit side) (λ z. z.1) xs
all_agree_by_place side [] r = tt
all_agree_by_place side (x ∷ xs) r = (agree_by_place side x xs r.0, all_agree_by_place side xs r.1)

pub map-filter : {X Y : Type 0} (p : Y → Bool) (h : X → Y) (xs : List X)
    → map h (filter (λ x. p (h x)) xs) ≡ filter p (map h xs)
map-filter p h [] = refl
map-filter p h (x ∷ xs) = grind (arith, common_steps, (map-filter p h xs))

-- whatever the places are, as long as they rise
pub ranked_orders_is : (side : Side) (price : ℕ) (xs : List PlacedOrder) → PlacesRise xs
    → map (λ z. z.1) (in_order (by_rank side) (eligible_orders side price xs))
    ≡ ranked_orders side price (map (λ z. z.1) xs)
unfolding ranked_orders
ranked_orders_is side price xs r =
    map-in_order (by_rank side) (by_limit side) (λ z. z.1) (eligible_orders side price xs)
    (all_agree_by_place side _ (PlacesRise-filter (λ x. is_eligible_on side price x.1) xs r))
    ∙ ap (in_order (by_limit side)) (map-filter (is_eligible_on side price) (λ (z : PlacedOrder). z.1) xs)

if_before : Side → PlacedOrder → PlacedOrder → ℕ
if_before side x y = cond (is_lt (by_rank side y x)) y.1.quantity 0

pub sum_by-filter : {X : Type 0} (f : X → ℕ) (p : X → Bool) (xs : List X)
    → sum_by f (filter p xs) ≡ sum_by (λ x. cond (p x) (f x) 0) xs
sum_by-filter f p [] = refl
sum_by-filter f p (x ∷ xs) = grind (arith, common_steps, sum_by-cons, (sum_by-filter f p xs))

none_before : (side : Side) (x : PlacedOrder) (ys : List PlacedOrder) → Before (by_rank side) x ys
    → sum_by (if_before side x) ys ≡ 0
unfolding if_before
none_before side x [] b = refl
none_before side x (y ∷ ys) b = grind (arith, common_steps, (none_before side x ys b.1))

before_each : {X : Type 0} (R : X → X → Ordering) (x : X) (ys : List X) (k : ℕ) (z : X) → Before R x ys → k < length ys
    → get_or ys k z ≡ z → R x z ≡ Less
before_each R x [] k z b l e = absurd (omega arith)
before_each R x (y ∷ ys) zero z b l e = ap (R x) (sym e) ∙ b.0
before_each R x (y ∷ ys) (suc k) z b l e = before_each R x ys k z b.1 (omega arith) e

module _ {Y : Type 0} (g : ℕ → Order → Y) (side : Side) (v : ℕ) (before : PlacedOrder → ℕ) where
  running : (done : ℕ) (xs : List PlacedOrder) → Rising (by_rank side) xs
      → ((k : ℕ) (z : PlacedOrder) → k < length xs → get_or xs k z ≡ z → before z ≡ done + sum_by (if_before side z) xs)
      → map (λ (x : PlacedOrder). g (min (v - before x) x.1.quantity) x.1) xs
      ≡ allot_by g (v - done) (map (λ (z : PlacedOrder). z.1) xs)
  unfolding if_before
  running done [] r h = refl
  running done (x ∷ xs) r h =
      let own : if_before side x x ≡ 0 = ap (λ c. cond (is_lt c) x.1.quantity 0) (tied_itself (by_rank_total side) x) in
      let first : before x ≡ done =
      omega (
        arith,
        h 0 x (omega arith) refl,
        own,
        none_before side x xs r.0,
        sum_by-cons (if_before side x) x xs,
      ) in
      let step : v - (done + x.1.quantity) ≡ v - done - x.1.quantity = omega arith in
      let more = running (done + x.1.quantity) xs r.1 (λ k z l e.
      let ahead_of_it : if_before side z x ≡ x.1.quantity =
      ap (λ c. cond (is_lt c) x.1.quantity 0) (before_each (by_rank side) x xs k z r.0 l e) in
      omega (arith, h (suc k) z (omega arith) e, ahead_of_it, sum_by-cons (if_before side z) x xs)) in
      cc

sub-zero : (n : ℕ) → n - 0 ≡ n
sub-zero n = omega arith

-- what is made of each order and of what it gets, down the ranks
pub ranked_fills : {Y : Type 0} (g : ℕ → Order → Y) (side : Side) (book : List Order) (price : ℕ)
    → map (λ (x : PlacedOrder). g (fill side price book x) x.1)
    (in_order (by_rank side) (eligible_orders side price (placed_orders book)))
    ≡ allot_by g (volume book price) (ranked_orders side price book)
unfolding if_before
ranked_fills g side book price =
    let xs = placed_orders book in
    let rise = PlacesRise-enumerate 0 book in
    let es = eligible_orders side price xs in
    let rs = in_order (by_rank side) es in
    let apart = all_apart_by_place side es (PlacesRise-filter (λ x. is_eligible_on side price x.1) xs rise) in
    let down =
    running g side (volume book price) (quantity_ahead side price xs) 0 rs
    (rising_in_order (by_rank side) (by_rank_total side) es apart)
    (grind (arith, common_steps, sum_by-filter, sum_by-in_order, if_before)) in
    grind (arith, common_steps, ranked_orders_is, map-enumerate, sub-zero)

abbrev filled_as : ℕ → Order → Fill
filled_as n x = record { id = x.id; quantity = n }

allot_by-filled : (left : ℕ) (xs : List Order) → allot_by filled_as left xs ≡ allot left (map requested_fill xs)
allot_by-filled left [] = refl
allot_by-filled left (x ∷ xs) = ap (λ l. filled_as (min left x.quantity) x ∷ l) (allot_by-filled (left - x.quantity) xs)

-- the fills by the formula are those that go down the ranked orders
pub fills_of_is : (side : Side) (book : List Order) (price : ℕ)
    → fills_of side book price
    ≡ filter is_positive (allot (volume book price) (map requested_fill (ranked_orders side price book)))
unfolding fills_of
fills_of_is side book price =
    ap (filter is_positive) (ranked_fills filled_as side book price
    ∙ allot_by-filled (volume book price) (ranked_orders side price book))
