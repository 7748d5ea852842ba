-- What trades execute, by the ids of orders; no trade is larger than an order may be.
use Rattle.std.proofs.Common.{◌≡◌, ◌≢◌, ℕ, zero, suc, ◌+◌, ◌-◌, ◌*◌, ◌<◌, ◌≤◌, nat_eq, cond, inl, inr, List, []}
use Rattle.std.proofs.Common.{◌∷◌, ◌++◌, All, length, map, take, get_or, set, replicate, refl, sym, ap, subst, ◌∙◌}
use Rattle.std.proofs.Common.{arith}
use Rattle.std.proofs.lemmas.Bool.{cases_lt}
use Rattle.std.proofs.lemmas.Bool.Decides.{nat_tests}
use Rattle.std.proofs.lemmas.Grind.{common_steps}
use Rattle.std.proofs.lemmas.List.{get_or_past, length-take, set_past}
use Rattle.std.proofs.lemmas.List.Elements.{All-append, All-cons, All-filter, All-head, All-map, All-nil, All-tail}
use Rattle.std.proofs.lemmas.List.Elements.{filter-append}
use Rattle.std.proofs.lemmas.List.Sums.{sum_by-append, sum_by-cons}
use Rattle.std.specs.List.{filter_map}
use Rattle.std.specs.declared.cmp.Ordering.{Ordering}
use Rattle.auction_terms.specs.declared.limits.TheConstants.{MAX_OPEN_ORDERS, MAX_QUANTITY}
use Rattle.auction_terms.specs.declared.AuctionKind.{AuctionKind}
use Rattle.auction_terms.specs.declared.Fill.{Fill}
use Rattle.auction_terms.specs.declared.OpenOrder.{OpenOrder}
use Rattle.auction_terms.specs.declared.Order.{Order}
use Rattle.auction_terms.specs.declared.Side.{Side}
use Rattle.auction_terms.specs.declared.Side.TheVariants.{Bid}
use Rattle.auction_terms.specs.declared.Trade.{Trade}
use Rattle.auction_terms.specs.Allotment.{by_limit, fills_of, is_positive, pairings, spans, trade_of_overlap, trades}
use Rattle.auction_terms.specs.Auxiliary.OrderLists.{IsOrderly}
use Rattle.auction_terms.specs.Auxiliary.RankedFills.{allot, ranked_orders, requested_fill}
use Rattle.auction_terms.specs.Auxiliary.Sort.{in_order, place_in}
use Rattle.auction_terms.specs.Book.{auction_orders, is_eligible_on, participates_in, volume}
use Rattle.auction_terms.specs.Day.{visible_of}
use Rattle.auction_terms.specs.Ladder.{tick_values}
use Rattle.auction_terms.specs.Priority.{executed_of, listed_on, traded_on, with_executions}
use Rattle.auction_terms.proofs.LadderLaws.{at_spread, length-tick_values, set_spread}
use Rattle.auction_terms.proofs.RankLaws.{fills_of_is}
use Rattle.allocation.specs.declared.listing.Listed.{Listed}
use Rattle.allocation.specs.declared.listing.RankedOrder.{RankedOrder}
use Rattle.allocation.specs.Listing.{AreInPriority}
use Rattle.auction.specs.Executions.{AreSmall, executed_by_id, HaveIdsUpTo, with_executed}
use Rattle.auction.proofs.EmptyBookLaws.{spread_zero}

-- ---- no trade is larger than an order may be

All-place_in : {X : Type 0} (P : X → Type 0) (cmp : X → X → Ordering) (x : X) (ys : List X) → P x → All P ys
    → All P (place_in cmp x ys)
All-place_in P cmp x [] h all = All-cons P x [] h all
All-place_in P cmp x (y ∷ ys) h all =
    grind (
      arith,
      common_steps,
      All-cons,
      (All-head P y ys all),
      (All-tail P y ys all),
      (All-place_in P cmp x ys h (All-tail P y ys all)),
    )

All-in_order : {X : Type 0} (P : X → Type 0) (cmp : X → X → Ordering) (xs : List X) → All P xs → All P (in_order cmp xs)
All-in_order P cmp [] all = all
All-in_order P cmp (x ∷ xs) all =
    All-place_in P cmp x (in_order cmp xs) (All-head P x xs all) (All-in_order P cmp xs (All-tail P x xs all))

abbrev IsSmall : Fill → Type 0
IsSmall f = f.quantity ≤ MAX_QUANTITY

small-allot : (left : ℕ) (fs : List Fill) → All IsSmall fs → All IsSmall (allot left fs)
small-allot left [] all = all
small-allot left (f ∷ fs) all =
    let first : IsSmall f = All-head IsSmall f fs all in
    All-cons IsSmall _ _ (omega arith) (small-allot (left - f.quantity) fs (All-tail IsSmall f fs all))

small-fills_of : (side : Side) (book : List Order) (price : ℕ) → All (λ o. o.quantity ≤ MAX_QUANTITY) book
    → All IsSmall (fills_of side book price)
unfolding ranked_orders
small-fills_of side book price all =
    let ranked =
    All-in_order (λ (o : Order). o.quantity ≤ MAX_QUANTITY) (by_limit side) _
    (All-filter (is_eligible_on side price) (λ (o : Order). o.quantity ≤ MAX_QUANTITY) book all) in
    let asked = All-map IsSmall requested_fill _ ranked in
    subst (All IsSmall) (sym (fills_of_is side book price))
    (All-filter is_positive IsSmall _ (small-allot (volume book price) _ asked))

abbrev IsSmallSpan : ℕ × Fill → Type 0
IsSmallSpan x = x.1.quantity ≤ MAX_QUANTITY

small-spans : (n : ℕ) (fs : List Fill) → All IsSmall fs → All IsSmallSpan (spans n fs)
small-spans n [] all = All-nil IsSmallSpan
small-spans n (f ∷ fs) all =
    All-cons IsSmallSpan (n, f) _ (All-head IsSmall f fs all)
    (small-spans (n + f.quantity) fs (All-tail IsSmall f fs all))

abbrev IsSmallTrade : Trade → Type 0
IsSmallTrade t = t.quantity ≤ MAX_QUANTITY

small-row : (price : ℕ) (b : ℕ × Fill) (asks : List (ℕ × Fill)) → IsSmallSpan b
    → All IsSmallTrade (filter_map (trade_of_overlap price b) asks)
small-row price b [] small = All-nil IsSmallTrade
small-row price b (a ∷ asks) small =
    grind (arith, common_steps, All-cons, (small-row price b asks small))

small-pairings : (price : ℕ) (bids asks : List (ℕ × Fill)) → All IsSmallSpan bids
    → All IsSmallTrade (pairings price bids asks)
small-pairings price [] asks all = All-nil IsSmallTrade
small-pairings price (b ∷ bids) asks all =
    All-append IsSmallTrade _ _ (small-row price b asks (All-head IsSmallSpan b bids all))
    (small-pairings price bids asks (All-tail IsSmallSpan b bids all))

pub small_trades : (kind : AuctionKind) (book : List Order) (price : ℕ) → IsOrderly book
    → AreSmall (trades (auction_orders book kind) price)
unfolding trades
small_trades kind book price is =
    let counted = All-filter (participates_in kind) (λ (o : Order). o.quantity ≤ MAX_QUANTITY) book is.bounded in
    small-pairings price _ _ (small-spans 0 _ (small-fills_of Bid (auction_orders book kind) price counted))

-- ---- what is executed, trade by trade

executed_most : (side : Side) (id : ℕ) (tape : List Trade) → AreSmall tape
    → executed_of tape side id ≤ length tape * MAX_QUANTITY
executed_most side id [] small = omega arith
executed_most side id (t ∷ tape) small =
    grind (
      arith,
      common_steps,
      sum_by-cons,
      (All-head IsSmallTrade t tape small),
      (executed_most side id tape (All-tail IsSmallTrade t tape small)),
    )

pub executed_more : (side : Side) (id : ℕ) (tape : List Trade) (t : Trade)
    → executed_of (tape ++ t ∷ []) side id
    ≡ executed_of tape side id + cond (nat_eq (traded_on side t) id) t.quantity 0
executed_more side id tape t =
    grind (arith, common_steps, filter-append, sum_by-append, sum_by-cons)

-- rules that agree at each id of the table give the same table
pub same_below : (f g : ℕ → ℕ) (a n : ℕ) → ((t : ℕ) → t < a + n → f t ≡ g t) → tick_values f a n ≡ tick_values g a n
same_below f g a zero h = refl
same_below f g a (suc n) h =
    let first : f a ≡ g a = h a (omega arith) in
    let rest = same_below f g (a + 1) n (λ t l. h t (omega arith)) in
    cc

other_id : (side : Side) (tape : List Trade) (t : Trade) (id : ℕ) → (id ≢ traded_on side t)
    → executed_of tape side id ≡ executed_of (tape ++ t ∷ []) side id
other_id side tape t id differs = grind (arith, common_steps, nat_tests, executed_more)

same_id : (side : Side) (tape : List Trade) (t : Trade)
    → executed_of tape side (traded_on side t) + t.quantity ≡ executed_of (tape ++ t ∷ []) side (traded_on side t)
same_id side tape t = grind (arith, common_steps, nat_tests, executed_more)

-- one more trade
pub executed_by_id-more : (tape : List Trade) (side : Side) (last : ℕ) (t : Trade)
    → set (executed_by_id tape side last) (traded_on side t)
    (get_or (executed_by_id tape side last) (traded_on side t) 0 + t.quantity)
    ≡ executed_by_id (tape ++ t ∷ []) side last
executed_by_id-more tape side last t =
    let id = traded_on side t in
    let old = executed_of tape side in
    let new = executed_of (tape ++ t ∷ []) side in
    let size = last + 1 in
    let zero_id : 0 + id ≡ id = omega arith in
    elim (cases_lt id size) [
      | inl within ↦
          set_spread old new 0 size id (get_or (tick_values old 0 size) id 0 + t.quantity) within
          (ap (λ n. n + t.quantity) (at_spread old 0 size id within ∙ ap old zero_id) ∙ same_id side tape t
          ∙ ap new (sym zero_id))
          (λ other differs. other_id side tape t other (λ same. differs (same ∙ sym zero_id)))
      | inr past ↦
          set_past (tick_values old 0 size) id _ (omega (arith, past, length-tick_values old 0 size))
          ∙ same_below old new 0 size (λ other l. other_id side tape t other (λ same. omega (arith, same, l, past)))
    ]

pub executed_of_none : (side : Side) (last : ℕ) → executed_by_id [] side last ≡ replicate (last + 1) 0
executed_of_none side last = spread_zero (executed_of [] side) 0 (last + 1) (λ id. refl)

All-take : {X : Type 0} (P : X → Type 0) (n : ℕ) (xs : List X) → All P xs → All P (take n xs)
All-take P zero xs all = All-nil P
All-take P (suc n) [] all = All-nil P
All-take P (suc n) (x ∷ xs) all = All-cons P x (take n xs) (All-head P x xs all) (All-take P n xs (All-tail P x xs all))

-- the first `k` trades don't overflow
pub executed_fits : (tape : List Trade) (side : Side) (last k : ℕ) (id : ℕ) → AreSmall tape
    → k ≤ 3 * MAX_OPEN_ORDERS
    → get_or (executed_by_id (take k tape) side last) id 0 ≤ 3 * MAX_OPEN_ORDERS * MAX_QUANTITY
executed_fits tape side last k id small few =
    let most = executed_most side (0 + id) (take k tape) (All-take IsSmallTrade k tape small) in
    let long = length-take k tape in
    elim (cases_lt id (last + 1)) [
      | inl within ↦ omega (arith, at_spread (executed_of (take k tape) side) 0 (last + 1) id within, most, long)
      | inr past ↦
          omega (
            arith,
            get_or_past (executed_by_id (take k tape) side last) id 0 (omega (
              arith,
              past,
              length-tick_values (executed_of (take k tape) side) 0 (last + 1),
            )),
          )
    ]

-- ---- the orders that are listed

abbrev with_filled : Order → ℕ → OpenOrder
with_filled order n = record { order = order; visible = visible_of order; filled = n }

listed_one : (tape : List Trade) (side : Side) (last : ℕ) (r : RankedOrder) → r.order.id ≤ last
    → with_executed (executed_by_id tape side last) r ≡ with_executions tape side r.order
listed_one tape side last r within =
    let zero_id : 0 + r.order.id ≡ r.order.id = omega arith in
    let same : get_or (tick_values (executed_of tape side) 0 (last + 1)) r.order.id 0
    ≡ executed_of tape side r.order.id =
    at_spread (executed_of tape side) 0 (last + 1) r.order.id (omega arith) ∙ ap (executed_of tape side) zero_id in
    ap (λ n. with_filled r.order n) same

pub listed_is : (tape : List Trade) (side : Side) (last : ℕ) (ranked : List RankedOrder) → HaveIdsUpTo last ranked
    → map (with_executed (executed_by_id tape side last)) ranked
    ≡ map (with_executions tape side) (map (λ r. r.order) ranked)
listed_is tape side last [] all = refl
listed_is tape side last (r ∷ ranked) all =
    let first = listed_one tape side last r (All-head (λ (x : RankedOrder). x.order.id ≤ last) r ranked all) in
    let rest = listed_is tape side last ranked (All-tail (λ (x : RankedOrder). x.order.id ≤ last) r ranked all) in
    cc

-- the whole of a side
pub side_listed : (tape : List Trade) (listed : Listed) (last : ℕ) (book : List Order) (ranked : List RankedOrder)
    (executed : List ℕ) → HaveIdsUpTo last ranked → executed ≡ executed_by_id tape listed.side last
    → AreInPriority listed book ranked
    → map (with_executed executed) ranked ≡ listed_on listed.side listed.member book tape
side_listed tape listed last book ranked executed upto is in_priority =
    ap (λ l. map (with_executed l) ranked) is ∙ listed_is tape listed.side last ranked upto
    ∙ ap (map (with_executions tape listed.side)) in_priority
