-- Listed orders by their ranks are those orders in priority.
use Rattle.std.proofs.Common.{◌≡◌, ℕ, ◌+◌, Bool, ◌&&◌, cond, sum_by, List, [], ◌∷◌, ◌++◌, Option, Some}
use Rattle.std.proofs.Common.{None, map, filter, take, sym, ap, ◌∙◌, arith, subst}
use Rattle.std.proofs.lemmas.Cmp.{nat_cmp_total, on_total}
use Rattle.std.proofs.lemmas.Grind.{common_steps}
use Rattle.std.proofs.lemmas.List.{map-append}
use Rattle.std.proofs.lemmas.List.Elements.{filter-append}
use Rattle.std.proofs.lemmas.List.Sorted.{sum_by-IsPermutation}
use Rattle.std.proofs.lemmas.List.Sums.{sum_by-cons}
use Rattle.std.specs.List.Sorted.{IsPermutation}
use Rattle.std.specs.Option.{option_to_list}
use Rattle.std.specs.Ordering.{nat_cmp}
use Rattle.auction_terms.specs.declared.Side.{Side}
use Rattle.auction_terms.specs.declared.Side.TheVariants.{Bid, Ask}
use Rattle.auction_terms.specs.declared.Limit.{Limit}
use Rattle.auction_terms.specs.declared.Limit.TheVariants.{Market, At}
use Rattle.auction_terms.specs.declared.Restriction.{Restriction}
use Rattle.auction_terms.specs.declared.Restriction.TheVariants.{Unrestricted, OpeningOnly, ClosingOnly}
use Rattle.auction_terms.specs.declared.Order.{Order}
use Rattle.auction_terms.specs.declared.Stamped.{Stamped}
use Rattle.auction_terms.specs.Allotment.{by_limit, by_rank, PlacedOrder}
use Rattle.auction_terms.specs.Book.{is_on}
use Rattle.auction_terms.specs.Priority.{is_by, orders_by, side_in_priority}
use Rattle.auction_terms.specs.Auxiliary.Sort.{in_order, SameItems}
use Rattle.auction_terms.specs.Auxiliary.StampedOrders.{placed_by_stamp, orders_of, IsLineOf}
use Rattle.auction_terms.proofs.FillLaws.{sum_by-map}
use Rattle.auction_terms.proofs.RankLaws.{by_rank_total, all_agree_by_place, all_apart_by_place, map-filter}
use Rattle.auction_terms.proofs.RankLaws.{PlacesRise-filter, sum_by-filter}
use Rattle.auction_terms.proofs.SortLaws.{Before, Rising, map-in_order, rising_in_order, sum_by-in_order}
use Rattle.auction_terms.proofs.SortLaws.{up_from_sorted}
use Rattle.order_book.specs.Orders.{OrdersView, PassesAllOrders, present, slot_at}
use Rattle.order_book.proofs.WalkLaws.{present_more, present_all}
use Rattle.allocation.specs.declared.listing.Listed.{Listed}
use Rattle.allocation.specs.declared.listing.RankedOrder.{RankedOrder}
use Rattle.allocation.specs.Claim.{AreNarrow}
use Rattle.allocation.specs.Listing.{AreByRank, AreInPriority, is_listed, ranked_order, ranked_orders_of}
use Rattle.allocation.proofs.ClaimLaws.{filter_both, map-map, none_left, rank_less, same_rising, wide, wide_at}

-- ---- an order is known by its numbers

abbrev side_code : Side → ℕ
side_code Bid = 0
side_code Ask = 1

abbrev limit_code : Limit → ℕ
limit_code Market = 0
limit_code (At tick) = tick + 1

abbrev restriction_code : Restriction → ℕ
restriction_code Unrestricted = 0
restriction_code OpeningOnly = 1
restriction_code ClosingOnly = 2

abbrev peak_code : Option ℕ → ℕ
peak_code None = 0
peak_code (Some peak) = peak + 1

exact_side : (x y : Side) → side_code x ≡ side_code y → x ≡ y
exact_side x y e = grind (arith, common_steps)

exact_limit : (x y : Limit) → limit_code x ≡ limit_code y → x ≡ y
exact_limit x y e = grind (arith, common_steps)

exact_restriction : (x y : Restriction) → restriction_code x ≡ restriction_code y → x ≡ y
exact_restriction x y e = grind (arith, common_steps)

exact_peak : (x y : Option ℕ) → peak_code x ≡ peak_code y → x ≡ y
exact_peak x y e = grind (arith, common_steps)

exact_order : (x y : Order) → ((g : Order → ℕ) → g x ≡ g y) → x ≡ y
exact_order x y h =
    let made : ℕ → ℕ → Side → Restriction → Limit → ℕ → Option ℕ → Order = λ i m s r l q p.
    record { id = i; member = m; side = s; restriction = r; limit = l; quantity = q; peak = p } in
    ap (λ i. made i x.member x.side x.restriction x.limit x.quantity x.peak) (h (λ o. o.id))
    ∙ ap (λ m. made y.id m x.side x.restriction x.limit x.quantity x.peak) (h (λ o. o.member))
    ∙ ap (λ s. made y.id y.member s x.restriction x.limit x.quantity x.peak)
    (exact_side x.side y.side (h (λ o. side_code o.side)))
    ∙ ap (λ r. made y.id y.member y.side r x.limit x.quantity x.peak)
    (exact_restriction x.restriction y.restriction (h (λ o. restriction_code o.restriction)))
    ∙ ap (λ l. made y.id y.member y.side y.restriction l x.quantity x.peak)
    (exact_limit x.limit y.limit (h (λ o. limit_code o.limit)))
    ∙ ap (λ q. made y.id y.member y.side y.restriction y.limit q x.peak) (h (λ o. o.quantity))
    ∙ ap (λ p. made y.id y.member y.side y.restriction y.limit y.quantity p)
    (exact_peak x.peak y.peak (h (λ o. peak_code o.peak)))

exact_ranked : (x y : RankedOrder) → ((g : RankedOrder → ℕ) → g x ≡ g y) → x ≡ y
exact_ranked x y h =
    let made : ℕ → Order → RankedOrder = λ r o. record { rank = r; order = o } in
    ap (λ r. made r x.order) (h (λ c. c.rank))
    ∙ ap (λ o. made y.rank o) (exact_order x.order y.order (λ g. h (λ c. g c.order)))

-- ---- ranks are numbers

abbrev ranked_at : Listed → PlacedOrder → RankedOrder
ranked_at listed x = ranked_order listed (record { order = x.1; stamp = x.0 })

before_ranked : (listed : Listed) (x : PlacedOrder) (ys : List PlacedOrder) → wide_at x ≡ 0 → sum_by wide_at ys ≡ 0
    → Before (by_rank listed.side) x ys
    → Before (λ a b. nat_cmp a.rank b.rank) (ranked_at listed x) (map (ranked_at listed) ys)
before_ranked listed x [] n m b = tt
before_ranked listed x (y ∷ ys) n m b =
    let parts = sum_by-cons wide_at y ys in
    (rank_less listed.side x y n (omega arith) b.0, before_ranked listed x ys n (omega arith) b.1)

rising_ranked : (listed : Listed) (xs : List PlacedOrder) → sum_by wide_at xs ≡ 0 → Rising (by_rank listed.side) xs
    → Rising (λ a b. nat_cmp a.rank b.rank) (map (ranked_at listed) xs)
rising_ranked listed [] n r = tt
rising_ranked listed (x ∷ xs) n r =
    let parts = sum_by-cons wide_at x xs in
    (before_ranked listed x xs (omega arith) (omega arith) r.0, rising_ranked listed xs (omega arith) r.1)

module _ (listed : Listed) (walk line : List Stamped) (is : IsLineOf walk line) where
  abbrev is_wanted : Order → Bool
  is_wanted order = is_by listed.member order && is_on listed.side order

  -- the listed orders of the line, with their places
  abbrev places : List PlacedOrder
  places = filter (λ x. is_wanted x.1) (map placed_by_stamp line)

  abbrev in_rank : List PlacedOrder
  in_rank = in_order (by_rank listed.side) places

  same_ranked : (ranked : List RankedOrder) → IsPermutation (ranked_orders_of listed walk) ranked
      → SameItems ranked (map (ranked_at listed) in_rank)
  same_ranked ranked moved f =
      let h : Stamped → ℕ = λ s. f (ranked_order listed s) in
      let g : PlacedOrder → ℕ = λ x. f (ranked_at listed x) in
      sum_by-IsPermutation f _ ranked moved ∙ sum_by-map f (ranked_order listed) (filter (is_listed listed) walk)
      ∙ sum_by-filter h (is_listed listed) walk ∙ sym (is.same (λ s. cond (is_listed listed s) (h s) 0))
      ∙ sym (sum_by-map (λ (x : PlacedOrder). cond (is_wanted x.1) (g x) 0) placed_by_stamp line)
      ∙ sym (sum_by-filter g (λ (x : PlacedOrder). is_wanted x.1) (map placed_by_stamp line))
      ∙ sym (sum_by-in_order (by_rank listed.side) g places) ∙ sym (sum_by-map f (ranked_at listed) in_rank)

  none_wide : AreNarrow walk → sum_by wide_at in_rank ≡ 0
  unfolding wide wide_at
  none_wide narrow =
      sum_by-in_order (by_rank listed.side) wide_at places
      ∙ none_left wide_at (λ x. is_wanted x.1) (map placed_by_stamp line)
      (sum_by-map wide_at placed_by_stamp line ∙ is.same wide ∙ narrow)

  -- without their places they are the listed orders by their limits
  in_rank_is : map (λ x. x.1) in_rank ≡ side_in_priority listed.side (orders_by listed.member (orders_of line))
  in_rank_is =
      map-in_order (by_rank listed.side) (by_limit listed.side) (λ x. x.1) places
      (all_agree_by_place listed.side places
      (PlacesRise-filter (λ x. is_wanted x.1) (map placed_by_stamp line) is.rising))
      ∙ ap (in_order (by_limit listed.side)) (map-filter is_wanted (λ (x : PlacedOrder). x.1) (map placed_by_stamp line)
      ∙ ap (filter is_wanted) (map-map (λ (x : PlacedOrder). x.1) placed_by_stamp line)
      ∙ filter_both (is_by listed.member) (is_on listed.side) (orders_of line))

  ranked_in_priority : (ranked : List RankedOrder) → AreNarrow walk
      → IsPermutation (ranked_orders_of listed walk) ranked → AreByRank ranked
      → map (λ r. r.order) ranked ≡ side_in_priority listed.side (orders_by listed.member (orders_of line))
  ranked_in_priority ranked narrow moved sorted =
      let rise = all_apart_by_place listed.side places
      (PlacesRise-filter (λ x. is_wanted x.1) (map placed_by_stamp line) is.rising) in
      let rising =
      rising_ranked listed in_rank (none_wide narrow)
      (rising_in_order (by_rank listed.side) (by_rank_total listed.side) places rise) in
      let up =
      up_from_sorted (λ a b. nat_cmp a.rank b.rank) (on_total (λ (c : RankedOrder). c.rank) nat_cmp_total) ranked
      sorted in
      let one =
      same_rising (λ (c : RankedOrder). c.rank) exact_ranked ranked (map (ranked_at listed) in_rank) up rising
      (same_ranked ranked moved) in
      ap (map (λ (r : RankedOrder). r.order)) one ∙ map-map (λ (r : RankedOrder). r.order) (ranked_at listed) in_rank
      ∙ in_rank_is

-- ---- the orders of a walk

-- one more place
pub ranked_more : (listed : Listed) (slots : List (Option Stamped)) (i : ℕ) (ranked more : List RankedOrder)
    (found : Option Stamped) → ranked ≡ ranked_orders_of listed (present (take i slots)) → found ≡ slot_at slots i
    → more ≡ ranked ++ ranked_orders_of listed (option_to_list found)
    → more ≡ ranked_orders_of listed (present (take (i + 1) slots))
ranked_more listed slots i ranked more found so_far at pushed =
    grind (arith, common_steps, map-append, filter-append, present_more)

-- all orders, sorted
pub listed_in_priority : (listed : Listed) (orders : OrdersView) (places : ℕ) (gathered ranked : List RankedOrder)
    → PassesAllOrders places orders → gathered ≡ ranked_orders_of listed (present (take places orders.slots))
    → AreNarrow (present (take places orders.slots)) → IsPermutation gathered ranked → AreByRank ranked
    → AreInPriority listed (orders_of orders.line) ranked
listed_in_priority listed orders places gathered ranked walk is passed permuted sorted =
    let whole = present_all orders.slots places walk.all in
    ranked_in_priority listed (present orders.slots) orders.line walk.line ranked (subst AreNarrow whole passed)
    (subst (λ l. IsPermutation l ranked) (is ∙ ap (ranked_orders_of listed) whole) permuted) sorted
