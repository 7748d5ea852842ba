-- Claims by their ranks are the orders in rank order.
use Rattle.std.proofs.Common.{◌≡◌, ℕ, ◌+◌, ◌≤◌, Bool, ◌&&◌, not, cond, if◌then◌else◌, nat_lt, nat_eq, sum_by, length}
use Rattle.std.proofs.Common.{count_by, List, [], ◌∷◌, ◌++◌, Option, true, false, map, filter, take, refl, sym, ap}
use Rattle.std.proofs.Common.{subst, ◌∙◌, arith}
use Rattle.std.proofs.lemmas.Bool.Decides.{nat_tests}
use Rattle.std.proofs.lemmas.Cmp.{nat_cmp_total, on_total}
use Rattle.std.proofs.lemmas.List.{length-map, map-append}
use Rattle.std.proofs.lemmas.List.Elements.{filter-append}
use Rattle.std.specs.Option.{option_to_list}
use Rattle.std.proofs.lemmas.List.Sorted.{sum_by-IsPermutation}
use Rattle.std.proofs.lemmas.List.Filters.{sum_by-filter_both}
use Rattle.std.proofs.lemmas.List.Sums.{sum_by-cons, sum_by-append, length-filter}
use Rattle.std.specs.List.Sorted.{IsPermutation}
use Rattle.std.specs.Ordering.{nat_cmp, is_le}
use Rattle.std.specs.List.{IsAllAdjacentAnswer}
use Rattle.std.specs.declared.cmp.Ordering.{Ordering}
use Rattle.std.specs.declared.cmp.Ordering.TheVariants.{Less}
use Rattle.std.proofs.lemmas.Grind.{common_steps}
use Rattle.auction_terms.specs.declared.Side.{Side}
use Rattle.auction_terms.specs.declared.Side.TheVariants.{Bid, Ask}
use Rattle.auction_terms.specs.declared.AuctionKind.{AuctionKind}
use Rattle.auction_terms.specs.declared.Stamped.{Stamped}
use Rattle.auction_terms.specs.Allotment.{by_limit, by_rank, PlacedOrder, eligible_orders}
use Rattle.auction_terms.specs.Book.{eligible_quantity, participates_in, is_eligible_on}
use Rattle.auction_terms.specs.Auxiliary.StampedOrders.{placed_by_stamp, order_of, orders_of, open_quantity_of}
use Rattle.auction_terms.specs.Auxiliary.StampedOrders.{auction_line, IsLineOf}
use Rattle.auction_terms.specs.Auxiliary.RankedFills.{requested_fill, ranked_orders}
use Rattle.auction_terms.specs.declared.Order.{Order}
use Rattle.auction_terms.specs.Auxiliary.Sort.{in_order, SameItems}
use Rattle.auction_terms.proofs.SortLaws.{Before, Rising, Upto, Up, up_from_sorted, sum_by-in_order, rising_in_order}
use Rattle.auction_terms.proofs.RankLaws.{by_rank_total, all_apart_by_place, PlacesRise-filter, ranked_orders_is}
use Rattle.auction_terms.proofs.RankLaws.{sum_by-filter}
use Rattle.auction_terms.proofs.FillLaws.{sum_by-map, total-requested_fill}
use Rattle.auction_terms.proofs.CountedLaws.{counted_is_line, orders_of-auction_orders, sum-auction_line}
use Rattle.auction_terms.proofs.CountedLaws.{few-auction_orders}
use Rattle.order_book.specs.Orders.{OrdersView, PassesAllOrders, present, slot_at}
use Rattle.order_book.proofs.WalkLaws.{present_more, present_all, length-ones}
use Rattle.allocation.specs.declared.claims.Claim.{Claim}
use Rattle.allocation.specs.declared.claims.Claimants.{Claimants}
use Rattle.allocation.specs.Claim.{is_narrow, claim_of, claims_of, claimed, claimed_by, orders_in_auction, AreInOrder}
use Rattle.allocation.specs.Claim.{AreNarrow, IsRanked}

-- ---- lists by rising numbers

module _ {X : Type 0} (key : X → ℕ) (exact : (x y : X) → ((g : X → ℕ) → g x ≡ g y) → x ≡ y) where
  abbrev by_key : X → X → Ordering
  by_key x y = nat_cmp (key x) (key y)

  -- what counts below a number, and what counts of those at it
  lesser : ℕ → X → ℕ
  lesser n z = cond (nat_lt (key z) n) 1 0

  of_those_at : ℕ → (X → ℕ) → X → ℕ
  of_those_at n g z = cond (nat_eq (key z) n) (g z) 0

  none_lesser : (x : X) (zs : List X) → Upto by_key x zs → sum_by (lesser (key x)) zs ≡ 0
  unfolding lesser
  none_lesser x [] u = refl
  none_lesser x (z ∷ zs) u = grind (arith, common_steps, nat_tests, sum_by-cons, (none_lesser x zs u.1))

  none_at : (x : X) (g : X → ℕ) (zs : List X) → Before by_key x zs → sum_by (of_those_at (key x) g) zs ≡ 0
  unfolding of_those_at
  none_at x g [] b = refl
  none_at x g (z ∷ zs) b = grind (arith, common_steps, nat_tests, sum_by-cons, (none_at x g zs b.1))

  none_of_none : (n : ℕ) (g : X → ℕ) (zs : List X) → sum_by (of_those_at n (λ _. 1)) zs ≡ 0
      → sum_by (of_those_at n g) zs ≡ 0
  unfolding of_those_at
  none_of_none n g [] e = refl
  none_of_none n g (z ∷ zs) e = grind (arith, common_steps, nat_tests, sum_by-cons, (none_of_none n g zs))

  upto_before : (x : X) (zs : List X) → Before by_key x zs → Upto by_key x zs
  upto_before x [] b = tt
  upto_before x (z ∷ zs) b = grind (arith, common_steps, (upto_before x zs b.1))

  not_lesser : (x y : X) (xs ys : List X) → Upto by_key x xs → SameItems (x ∷ xs) (y ∷ ys) → key x ≤ key y
  unfolding lesser
  not_lesser x y xs ys u same =
      grind (
        arith,
        common_steps,
        nat_tests,
        none_lesser,
        (same (lesser (key x))),
        (sum_by-cons (lesser (key x)) x xs),
        (sum_by-cons (lesser (key x)) y ys),
      )

  same_first : (x y : X) (xs ys : List X) → key x ≡ key y → Before by_key y ys → SameItems (x ∷ xs) (y ∷ ys)
      → (g : X → ℕ) → g x ≡ g y
  unfolding of_those_at
  same_first x y xs ys e b same g =
      let at : (X → ℕ) → X → ℕ = λ h. of_those_at (key y) h in
      let one = none_at y (λ _. 1) ys b in
      let all = none_at y g ys b in
      let rest : sum_by (of_those_at (key y) (λ _. 1)) xs ≡ 0 =
      grind (
        arith,
        common_steps,
        nat_tests,
        (same (at (λ _. 1))),
        (sum_by-cons (at (λ _. 1)) x xs),
        (sum_by-cons (at (λ _. 1)) y ys),
        one,
      ) in
      grind (
        arith,
        common_steps,
        nat_tests,
        (none_of_none (key y) g xs rest),
        (same (at g)),
        (sum_by-cons (at g) x xs),
        (sum_by-cons (at g) y ys),
        all,
      )

  -- a list in order of its numbers is the one in which they rise, with the same elements
  pub same_rising : (xs ys : List X) → Up by_key xs → Rising by_key ys → SameItems xs ys → xs ≡ ys
  same_rising [] [] u r same = refl
  same_rising [] (y ∷ ys) u r same = absurd (omega (arith, same (λ _. 1), sum_by-cons (λ _. 1) y ys))
  same_rising (x ∷ xs) [] u r same = absurd (omega (arith, same (λ _. 1), sum_by-cons (λ _. 1) x xs))
  same_rising (x ∷ xs) (y ∷ ys) u r same =
      let above = not_lesser x y xs ys u.0 same in
      let below = not_lesser y x ys xs (upto_before y ys r.0) (λ f. sym (same f)) in
      let heads : x ≡ y = exact x y (same_first x y xs ys (omega arith) r.0 same) in
      let rest : SameItems xs ys = λ f. omega (arith, same f, sum_by-cons f x xs, sum_by-cons f y ys, ap f heads) in
      grind (arith, common_steps, (same_rising xs ys u.1 r.1 rest))

exact_claim : (x y : Claim) → ((g : Claim → ℕ) → g x ≡ g y) → x ≡ y
exact_claim x y h =
    let made : ℕ → ℕ → ℕ → Claim = λ r q i. record { rank = r; quantity = q; id = i } in
    ap (λ r. made r x.quantity x.id) (h (λ c. c.rank)) ∙ ap (λ q. made y.rank q x.id) (h (λ c. c.quantity))
    ∙ ap (λ i. made y.rank y.quantity i) (h (λ c. c.id))

-- what one look at each says
pub in_order_if : (claims : List Claim) (told : Bool)
    → IsAllAdjacentAnswer (λ x y b. b ≡ is_le (nat_cmp x.rank y.rank)) claims told → told ≡ true → AreInOrder claims
in_order_if claims true all e = λ k d low high. grind (arith, common_steps, nat_tests, (all k d high))
in_order_if claims false all e = absurd (cc)

-- ---- ranks are numbers

-- the claim of an order at its place
abbrev claim_at : Side → PlacedOrder → Claim
claim_at side x = claim_of side (record { order = x.1; stamp = x.0 })

-- what counts the orders that are wider
unfoldable pub wide : Stamped → ℕ
wide s = if is_narrow s then 0 else 1

unfoldable pub wide_at : PlacedOrder → ℕ
wide_at x = wide (record { order = x.1; stamp = x.0 })

-- a better rank is a lesser number
pub rank_less : (side : Side) (x y : PlacedOrder) → wide_at x ≡ 0 → wide_at y ≡ 0 → by_rank side x y ≡ Less
    → nat_cmp (claim_at side x).rank (claim_at side y).rank ≡ Less
unfolding wide wide_at
rank_less side x y n m less = grind (arith, common_steps, nat_tests)

before_claims : (side : Side) (x : PlacedOrder) (ys : List PlacedOrder) → wide_at x ≡ 0 → sum_by wide_at ys ≡ 0
    → Before (by_rank side) x ys → Before (λ a b. nat_cmp a.rank b.rank) (claim_at side x) (map (claim_at side) ys)
before_claims side x [] n m b = tt
before_claims side x (y ∷ ys) n m b =
    let parts = sum_by-cons wide_at y ys in
    (rank_less side x y n (omega arith) b.0, before_claims side x ys n (omega arith) b.1)

rising_claims : (side : Side) (xs : List PlacedOrder) → sum_by wide_at xs ≡ 0 → Rising (by_rank side) xs
    → Rising (λ a b. nat_cmp a.rank b.rank) (map (claim_at side) xs)
rising_claims side [] n r = tt
rising_claims side (x ∷ xs) n r =
    let parts = sum_by-cons wide_at x xs in
    (before_claims side x xs (omega arith) (omega arith) r.0, rising_claims side xs (omega arith) r.1)

pub map-map : {X Y Z : Type 0} (f : Y → Z) (g : X → Y) (xs : List X) → map f (map g xs) ≡ map (λ x. f (g x)) xs
map-map f g [] = refl
map-map f g (x ∷ xs) = ap (λ l. f (g x) ∷ l) (map-map f g xs)

-- where nothing counts, nothing of a part does
pub none_left : {X : Type 0} (f : X → ℕ) (p : X → Bool) (xs : List X) → sum_by f xs ≡ 0 → sum_by f (filter p xs) ≡ 0
none_left f p [] e = refl
none_left f p (x ∷ xs) e = grind (arith, common_steps, sum_by-cons, (none_left f p xs))

module _ (side : Side) (price : ℕ) (walk line : List Stamped) (is : IsLineOf walk line) where
  -- the claims of the line, in rank order
  abbrev in_rank : List PlacedOrder
  in_rank = in_order (by_rank side) (eligible_orders side price (map placed_by_stamp line))

  same_claims : (claims : List Claim)
      → IsPermutation (map (claim_of side) (filter (λ s. is_eligible_on side price s.order) walk)) claims
      → SameItems claims (map (claim_at side) in_rank)
  same_claims claims moved f =
      let h : Stamped → ℕ = λ s. f (claim_of side s) in
      let g : PlacedOrder → ℕ = λ x. f (claim_at side x) in
      sum_by-IsPermutation f _ claims moved
      ∙ sum_by-map f (claim_of side) (filter (λ s. is_eligible_on side price s.order) walk)
      ∙ sum_by-filter h (λ s. is_eligible_on side price s.order) walk
      ∙ sym (is.same (λ s. cond (is_eligible_on side price s.order) (h s) 0))
      ∙ sym (sum_by-map (λ (x : PlacedOrder). cond (is_eligible_on side price x.1) (g x) 0) placed_by_stamp line)
      ∙ sym (sum_by-filter g (λ (x : PlacedOrder). is_eligible_on side price x.1) (map placed_by_stamp line))
      ∙ sym (sum_by-in_order (by_rank side) g (eligible_orders side price (map placed_by_stamp line)))
      ∙ sym (sum_by-map f (claim_at side) in_rank)

  -- none of them is wide
  none_wide : AreNarrow walk → sum_by wide_at in_rank ≡ 0
  unfolding wide wide_at
  none_wide narrow =
      sum_by-in_order (by_rank side) wide_at (eligible_orders side price (map placed_by_stamp line))
      ∙ none_left wide_at (λ x. is_eligible_on side price x.1) (map placed_by_stamp line)
      (sum_by-map wide_at placed_by_stamp line ∙ is.same wide ∙ narrow)

  -- claims in order are the orders in rank order
  pub ranked_claims : (claims : List Claim) → AreNarrow walk
      → IsPermutation (map (claim_of side) (filter (λ s. is_eligible_on side price s.order) walk)) claims
      → AreInOrder claims → map claimed claims ≡ map requested_fill (ranked_orders side price (orders_of line))
  ranked_claims claims narrow moved sorted =
      let es = eligible_orders side price (map placed_by_stamp line) in
      let rise =
      all_apart_by_place side es (PlacesRise-filter (λ x. is_eligible_on side price x.1) (map placed_by_stamp line)
      is.rising) in
      let rising =
      rising_claims side in_rank (none_wide narrow) (rising_in_order (by_rank side) (by_rank_total side) es rise) in
      let up =
      up_from_sorted (λ a b. nat_cmp a.rank b.rank) (on_total (λ (c : Claim). c.rank) nat_cmp_total) claims
      sorted in
      let one =
      same_rising (λ (c : Claim). c.rank) exact_claim claims (map (claim_at side) in_rank) up rising
      (same_claims claims moved) in
      ap (map claimed) one ∙ map-map claimed (claim_at side) in_rank
      ∙ sym (map-map requested_fill (λ (x : PlacedOrder). x.1) in_rank)
      ∙ ap (map requested_fill) (ranked_orders_is side price (map placed_by_stamp line) is.rising
      ∙ ap (ranked_orders side price) (map-map (λ (x : PlacedOrder). x.1) placed_by_stamp line))

  -- the claims ask for no more than what is open
  claimed_within : (claims : List Claim)
      → IsPermutation (map (claim_of side) (filter (λ s. is_eligible_on side price s.order) walk)) claims
      → claimed_by claims ≤ open_quantity_of line
  claimed_within claims moved =
      let whole =
      sum_by-IsPermutation (λ (c : Claim). c.quantity) _ claims moved
      ∙ sum_by-map (λ (c : Claim). c.quantity) (claim_of side)
      (filter (λ s. is_eligible_on side price s.order) walk) in
      let both =
      sum_by-filter_both (λ (s : Stamped). is_eligible_on side price s.order)
      (λ s. not (is_eligible_on side price s.order)) (λ _. refl) (λ (s : Stamped). s.order.quantity) walk in
      omega (arith, whole, both, is.same (λ (s : Stamped). s.order.quantity))

-- ---- the claims of a walk

-- one more place
pub claims_more : (claimants : Claimants) (slots : List (Option Stamped)) (i : ℕ) (claims more : List Claim)
    (found : Option Stamped) → claims ≡ claims_of claimants (present (take i slots)) → found ≡ slot_at slots i
    → more ≡ claims ++ claims_of claimants (option_to_list found)
    → more ≡ claims_of claimants (present (take (i + 1) slots))
claims_more claimants slots i claims more found so_far at pushed =
    grind (arith, common_steps, map-append, filter-append, present_more)

-- one more place, whose order is no wider either
pub narrow_more : (slots : List (Option Stamped)) (i : ℕ) (found : Option Stamped) → AreNarrow (present (take i slots))
    → found ≡ slot_at slots i → AreNarrow (option_to_list found) → AreNarrow (present (take (i + 1) slots))
narrow_more slots i found so_far at narrow = grind (arith, common_steps, sum_by-append, present_more)

pub filter_both : {X : Type 0} (p q : X → Bool) (xs : List X) → filter (λ x. p x && q x) xs ≡ filter q (filter p xs)
filter_both p q [] = refl
filter_both p q (x ∷ xs) = grind (arith, common_steps, (filter_both p q xs))

-- all claims, sorted
pub claims-ranked : (claimants : Claimants) (orders : OrdersView) (places : ℕ) (gathered claims : List Claim)
    → PassesAllOrders places orders → gathered ≡ claims_of claimants (present (take places orders.slots))
    → AreNarrow (present (take places orders.slots)) → IsPermutation gathered claims → AreInOrder claims
    → IsRanked claimants.side claimants.price (orders_in_auction claimants.kind orders) claims
unfolding wide
claims-ranked claimants orders places gathered claims walk is passed permuted sorted =
    let all : List Stamped = present orders.slots in
    let narrow : AreNarrow (auction_line all claimants.kind) =
    none_left wide (λ s. participates_in claimants.kind s.order) all
    (subst AreNarrow (present_all orders.slots places walk.all) passed) in
    let of_walk : gathered
    ≡ map (claim_of claimants.side)
    (filter (λ s. is_eligible_on claimants.side claimants.price s.order) (auction_line all claimants.kind)) =
    is ∙ ap (claims_of claimants) (present_all orders.slots places walk.all)
    ∙ ap (map (claim_of claimants.side))
    (filter_both (λ (s : Stamped). participates_in claimants.kind s.order)
    (λ s. is_eligible_on claimants.side claimants.price s.order) all) in
    let moved = subst (λ l. IsPermutation l claims) of_walk permuted in
    let line = counted_is_line all orders.line claimants.kind walk.line in
    let within =
    claimed_within claimants.side claimants.price (auction_line all claimants.kind)
    (auction_line orders.line claimants.kind) line claims moved in
    record {
      named =
          ranked_claims claimants.side claimants.price (auction_line all claimants.kind)
          (auction_line orders.line claimants.kind) line claims narrow moved sorted
          ∙ ap (λ book. map requested_fill (ranked_orders claimants.side claimants.price book))
          (orders_of-auction_orders orders.line claimants.kind);
      bounded = omega (arith, within, walk.bounded, sum-auction_line orders.line claimants.kind);
    }

-- ---- ranked claims

-- they ask for the demand or supply of their side
pub claimed-eligible_quantity : (side : Side) (price : ℕ) (book : List Order) (claims : List Claim)
    → IsRanked side price book claims → claimed_by claims ≡ eligible_quantity side book price
unfolding ranked_orders
claimed-eligible_quantity side price book claims is =
    grind (arith, common_steps, sum_by-map, total-requested_fill, sum_by-in_order, is.named)

length-ranked : (side : Side) (price : ℕ) (book : List Order) → length (ranked_orders side price book)
    ≡ count_by (is_eligible_on side price) book
unfolding ranked_orders
length-ranked side price book =
    length-ones (in_order (by_limit side) (filter (is_eligible_on side price) book))
    ∙ sum_by-in_order (by_limit side) (λ _. 1) (filter (is_eligible_on side price) book)
    ∙ sym (length-ones (filter (is_eligible_on side price) book)) ∙ length-filter (is_eligible_on side price) book

length-claims : (side : Side) (price : ℕ) (book : List Order) (claims : List Claim) → IsRanked side price book claims
    → length claims ≡ count_by (is_eligible_on side price) book
length-claims side price book claims is =
    sym (length-map claims claimed) ∙ ap length is.named ∙ length-map (ranked_orders side price book) requested_fill
    ∙ length-ranked side price book

-- no order takes part on both sides
one_side : (price : ℕ) (book : List Order)
    → count_by (is_eligible_on Bid price) book + count_by (is_eligible_on Ask price) book ≤ length book
one_side price [] = omega arith
one_side price (o ∷ book) = grind (arith, common_steps, sum_by-cons, (one_side price book))

-- so there are no more claims than orders
few_claims : (price : ℕ) (book : List Order) (bids asks : List Claim) → IsRanked Bid price book bids
    → IsRanked Ask price book asks → length bids + length asks ≤ length book
few_claims price book bids asks b a =
    omega (arith, length-claims Bid price book bids b, length-claims Ask price book asks a, one_side price book)

pub claims_fit : (price : ℕ) (orders : OrdersView) (kind : AuctionKind) (bids asks : List Claim)
    → IsRanked Bid price (orders_in_auction kind orders) bids → IsRanked Ask price (orders_in_auction kind orders) asks
    → length bids + length asks ≤ length orders.line
claims_fit price orders kind bids asks b a =
    omega (
      arith,
      few_claims price (orders_in_auction kind orders) bids asks b a,
      ap length (orders_of-auction_orders orders.line kind),
      length-map (auction_line orders.line kind) order_of,
      few-auction_orders orders.line kind,
    )
