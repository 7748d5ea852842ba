-- What is known of a price, after each edit of the orders.
use Rattle.std.proofs.Common.{◌≡◌, ℕ, ◌+◌, ◌≤◌, ◌<◌, Bool, true, false, cond, not, ◌&&◌, List, [], ◌∷◌, ◌++◌, Option}
use Rattle.std.proofs.Common.{Some, None, IfSome, All, inl, inr, filter, refl, sym, subst, arith}
use Rattle.std.specs.Prelude.{IfNone}
use Rattle.std.proofs.lemmas.Bool.{cases_lt}
use Rattle.std.proofs.lemmas.Bool.Decides.{nat_tests}
use Rattle.auction_terms.specs.declared.Order.{Order}
use Rattle.auction_terms.specs.declared.AuctionKind.{AuctionKind}
use Rattle.auction_terms.specs.declared.Side.{Side}
use Rattle.auction_terms.specs.declared.Side.TheVariants.{Bid, Ask}
use Rattle.auction_terms.specs.declared.Limit.{Limit}
use Rattle.auction_terms.specs.declared.Limit.TheVariants.{Market, At}
use Rattle.auction_terms.specs.Book.{participates_in, auction_orders, is_on, limits}
use Rattle.auction_terms.specs.AuctionPrice.{highest, lowest}
use Rattle.auction_terms.specs.Auxiliary.BestTicks.{has}
use Rattle.auction_terms.specs.Ladder.{quantity_at}
use Rattle.auction_terms.specs.Edits.{without_id, changed_at, with_terms, keeps_place}
use Rattle.auction_terms.specs.Auxiliary.OrderLists.{moved_to_end, IdsDiffer}
use Rattle.auction_terms.specs.declared.Display.TheVariants.{Unpriced}
use Rattle.auction_terms.specs.Day.{display_of}
use Rattle.auction_terms.proofs.EditLaws.{change_is}
use Rattle.auction_terms.proofs.LadderLaws.{stands_by, market_by, by_order, by_market, standing_is, market_is}
use Rattle.auction_terms.proofs.LadderSums.{HasOrderMore, more-push, more-without_id}
use Rattle.auction_terms.proofs.LadderSums.{more-changed, more-moved, counted_sums}
use Rattle.auction_terms.proofs.LadderSums.{order_additive, market_additive}
use Rattle.auction_terms.proofs.TickListLaws.{All_at, has-highest, has-lowest, highest_agree, lowest_agree}
use Rattle.auction_terms.proofs.StandingLaws.{standing_limit, limit_standing, side_limit}
use Rattle.tick_ladder.specs.TickLadder.{best_limit}
use Rattle.price_rules.specs.Decision.{IsBookOver, IsSameWithin}
use Rattle.auction.specs.declared.book.known.KnownPrice.{KnownPrice}
use Rattle.auction.specs.OpenOrders.{OpenOrders, with_order, with_change, without_order, IsOpenIn}
use Rattle.auction.specs.KnownPrice.{is_beyond, still_known, known_after, known_after_both, IsPriceAt, IsKnown}
use Rattle.auction.specs.KnownPrice.{KeepsKnown}
use Rattle.std.proofs.lemmas.Grind.{common_steps}

-- ---- what an order beyond adds where it decides

no_bids : (s : KnownPrice) (side : Side) (limit : Limit) (t q : ℕ) (b : Bool)
    → b && not (is_beyond s side limit) ≡ false → s.lowest ≤ t → cond b (stands_by Bid t side limit q) 0 ≡ 0
no_bids s side limit t q false e h = refl
no_bids s Ask Market t q true e h = refl
no_bids s Ask (At l) t q true e h = refl
no_bids s Bid Market t q true e h = refl
no_bids s Bid (At l) t q true e h = grind (arith, nat_tests)

no_asks : (s : KnownPrice) (side : Side) (limit : Limit) (t q : ℕ) (b : Bool)
    → b && not (is_beyond s side limit) ≡ false → t ≤ s.highest → cond b (stands_by Ask t side limit q) 0 ≡ 0
no_asks s side limit t q false e h = refl
no_asks s Ask Market t q true e h = refl
no_asks s Ask (At l) t q true e h = grind (arith, nat_tests)
no_asks s Bid Market t q true e h = refl
no_asks s Bid (At l) t q true e h = refl

no_market : (s : KnownPrice) (on side : Side) (limit : Limit) (q : ℕ) (b : Bool)
    → b && not (is_beyond s side limit) ≡ false → cond b (market_by on side limit q) 0 ≡ 0
no_market s on side limit q false e = refl
no_market s Bid Bid Market q true e = absurd (cc)
no_market s Bid Bid (At l) q true e = refl
no_market s Bid Ask Market q true e = refl
no_market s Bid Ask (At l) q true e = refl
no_market s Ask Bid Market q true e = refl
no_market s Ask Bid (At l) q true e = refl
no_market s Ask Ask Market q true e = absurd (cc)
no_market s Ask Ask (At l) q true e = refl

-- the books with and without an order that is beyond, or doesn't count
more_same : (kind : AuctionKind) (s : KnownPrice) (o : Order) (old new : List Order) → HasOrderMore o old new
    → participates_in kind o && not (is_beyond s o.side o.limit) ≡ false
    → IsSameWithin s.lowest s.highest (auction_orders old kind) (auction_orders new kind)
unfolding by_order by_market
more_same kind s o old new is e = record {
  bids =
      λ t h. omega (
        arith,
        standing_is Bid (auction_orders new kind) t,
        standing_is Bid (auction_orders old kind) t,
        counted_sums kind o old new is (by_order Bid t) (order_additive Bid t),
        no_bids s o.side o.limit t o.quantity (participates_in kind o) e h,
      );
  asks =
      λ t h. omega (
        arith,
        standing_is Ask (auction_orders new kind) t,
        standing_is Ask (auction_orders old kind) t,
        counted_sums kind o old new is (by_order Ask t) (order_additive Ask t),
        no_asks s o.side o.limit t o.quantity (participates_in kind o) e h,
      );
  market_bids =
      omega (
        arith,
        market_is Bid (auction_orders new kind),
        market_is Bid (auction_orders old kind),
        counted_sums kind o old new is (by_market Bid) (market_additive Bid),
        no_market s Bid o.side o.limit o.quantity (participates_in kind o) e,
      );
  market_asks =
      omega (
        arith,
        market_is Ask (auction_orders new kind),
        market_is Ask (auction_orders old kind),
        counted_sums kind o old new is (by_market Ask) (market_additive Ask),
        no_market s Ask o.side o.limit o.quantity (participates_in kind o) e,
      );
}

IsSameWithin-sym : (from to : ℕ) (book other : List Order) → IsSameWithin from to book other
    → IsSameWithin from to other book
IsSameWithin-sym from to book other is = grind (arith, common_steps)

-- ---- what is known of one book is known of the other

known_of : (low n : ℕ) (s : KnownPrice) (book new : List Order) → IsSameWithin s.lowest s.highest book new
    → IsKnown low n book s → IsKnown low n new s
known_of low n s book new same known other over is = grind (arith, common_steps)

-- after an order came, or went
known_once : (low n : ℕ) (kind : AuctionKind) (found : Option KnownPrice) (o : Order) (old new : List Order)
    → ((s : KnownPrice) → participates_in kind o && not (is_beyond s o.side o.limit) ≡ false
    → IsSameWithin s.lowest s.highest (auction_orders old kind) (auction_orders new kind))
    → IfSome found (IsKnown low n (auction_orders old kind))
    → IfSome (still_known found kind o) (IsKnown low n (auction_orders new kind))
known_once low n kind None o old new same known = tt
known_once low n kind (Some s) o old new same known =
    by_test (participates_in kind o && not (is_beyond s o.side o.limit)) refl
  where
    by_test : (b : Bool) → participates_in kind o && not (is_beyond s o.side o.limit) ≡ b
        → IfSome (cond b None (Some s)) (IsKnown low n (auction_orders new kind))
    by_test true e = tt
    by_test false e = known_of low n s (auction_orders old kind) (auction_orders new kind) (same s e) known

known_more : (low n : ℕ) (kind : AuctionKind) (found : Option KnownPrice) (o : Order) (old new : List Order)
    → HasOrderMore o old new → IfSome found (IsKnown low n (auction_orders old kind))
    → IfSome (still_known found kind o) (IsKnown low n (auction_orders new kind))
known_more low n kind found o old new is known =
    known_once low n kind found o old new (λ s e. more_same kind s o old new is e) known

known_fewer : (low n : ℕ) (kind : AuctionKind) (found : Option KnownPrice) (o : Order) (old new : List Order)
    → HasOrderMore o new old → IfSome found (IsKnown low n (auction_orders old kind))
    → IfSome (still_known found kind o) (IsKnown low n (auction_orders new kind))
known_fewer low n kind found o old new is known =
    known_once low n kind found o old new
    (λ s e. IsSameWithin-sym s.lowest s.highest (auction_orders new kind) (auction_orders old kind)
    (more_same kind s o new old is e)) known

-- each with the orders that are open then
module _ (old new : OpenOrders) where
  pub known-push : (o : Order) → new ≡ with_order o old → KeepsKnown (known_after o) old new
  known-push o e found was =
      rw e (known_more old.low old.ticks old.kind found o old.orders (old.orders ++ o ∷ []) (more-push old.orders o)
      was)

  pub known-without_id : (o : Order) → IdsDiffer old.orders → IsOpenIn old.orders o → new ≡ without_order o old
      → KeepsKnown (known_after o) old new
  known-without_id o d is e found was =
      rw e (known_fewer old.low old.ticks old.kind found o old.orders (without_id o.id old.orders)
      (more-without_id o.id old.orders o d is) was)

  -- an order went, and came back with other terms
  pub known-change : (limit : Limit) (quantity : ℕ) (o : Order) → IdsDiffer old.orders → IsOpenIn old.orders o
      → new ≡ with_change o limit quantity old → KeepsKnown (known_after_both o (with_terms limit quantity o)) old new
  known-change limit quantity o d is e found was =
      let changed = with_terms limit quantity o in
      let gone =
      known_fewer old.low old.ticks old.kind found o old.orders (without_id o.id old.orders)
      (more-without_id o.id old.orders o d is) was in
      rw e
      (subst
      (λ l. IfSome (still_known (still_known found old.kind o) old.kind changed)
      (IsKnown old.low old.ticks (auction_orders l old.kind))) (change_is o.id limit quantity old.orders o d is)
      (known_more old.low old.ticks old.kind (still_known found old.kind o) changed (without_id o.id old.orders)
      (list (keeps_place o limit quantity)) (back (keeps_place o limit quantity)) gone))
    where
      list : Bool → List Order
      list k =
          cond k (changed_at o.id (with_terms limit quantity) old.orders)
          (moved_to_end o.id (with_terms limit quantity) old.orders)

      back : (k : Bool) → HasOrderMore (with_terms limit quantity o) (without_id o.id old.orders) (list k)
      back true = more-changed o.id (with_terms limit quantity) old.orders o d is
      back false = more-moved o.id (with_terms limit quantity) old.orders o d is

-- what is known of a book is its price
pub known_price : (low n : ℕ) (book : List Order) (s : KnownPrice) → IsBookOver low n book → IsKnown low n book s
    → IsPriceAt s.reference book s
known_price low n book s over known =
    known book over (record { bids = λ t h. refl; asks = λ t h. refl; market_bids = refl; market_asks = refl })

-- ---- the best limits, where there is no price

has_still : (s : Side) (book other : List Order) (t : ℕ) → All (λ o. 0 < o.quantity) book
    → quantity_at s other t ≡ quantity_at s book t → has t (limits (filter (is_on s) book)) ≡ true
    → has t (limits (filter (is_on s) other)) ≡ true
has_still s book other t positive same e =
    standing_limit s other t (let some = limit_standing s book t positive e in omega (arith, same))

pub best_bid_same : (low n from to : ℕ) (book other : List Order) → IsBookOver low n book → IsBookOver low n other
    → IsSameWithin from to book other → IfSome (best_limit book Bid) (λ t. from ≤ t)
    → IfNone (best_limit book Bid) (from ≡ 0) → best_limit book Bid ≡ best_limit other Bid
best_bid_same low n from to book other over others same some none =
    highest_agree xs ys
    (λ q e. elim (cases_lt q from) [
      | inl below ↦ (let b = top q below in
          (b.0, has_still Bid book other b.0 over.positive (same.bids b.0 b.2) b.1, omega (arith, b.2)))
      | inr above ↦
          (q, has_still Bid book other q over.positive (same.bids q above) e, omega arith)
    ])
    (λ q e. elim (cases_lt q from) [
      | inl below ↦ (let b = top q below in (b.0, b.1, omega (arith, b.2)))
      | inr above ↦
          (q, has_still Bid other book q others.positive (sym (same.bids q above)) e, omega arith)
    ])
  where
    xs : List ℕ
    xs = limits (filter (is_on Bid) book)

    ys : List ℕ
    ys = limits (filter (is_on Bid) other)

    top_of : (o : Option ℕ) → highest xs ≡ o → IfSome o (λ t. from ≤ t) → IfNone o (from ≡ 0) → (q : ℕ) → q < from
        → (b : ℕ) × (has b xs ≡ true) × (from ≤ b)
    top_of None e h k q lt = absurd (omega (arith, k))
    top_of (Some b) e h k q lt = (b, has-highest xs b e, h)

    top : (q : ℕ) → q < from → (b : ℕ) × (has b xs ≡ true) × (from ≤ b)
    top q lt = top_of (highest xs) refl some none q lt

pub best_ask_same : (low n from to : ℕ) (book other : List Order) → IsBookOver low n book → IsBookOver low n other
    → IsSameWithin from to book other → IfSome (best_limit book Ask) (λ t. t ≤ to)
    → IfNone (best_limit book Ask) (low + n ≤ to + 1) → best_limit book Ask ≡ best_limit other Ask
best_ask_same low n from to book other over others same some none =
    lowest_agree xs ys
    (λ q e. elim (cases_lt to q) [
      | inl above ↦ (let b = bottom q above (ticks_within book over q e) in
          (b.0, has_still Ask book other b.0 over.positive (same.asks b.0 b.2) b.1, omega (arith, b.2)))
      | inr below ↦
          (q, has_still Ask book other q over.positive (same.asks q below) e, omega arith)
    ])
    (λ q e. elim (cases_lt to q) [
      | inl above ↦ (let b = bottom q above (ticks_within other others q e) in
          (b.0, b.1, omega (arith, b.2)))
      | inr below ↦
          (q, has_still Ask other book q others.positive (sym (same.asks q below)) e, omega arith)
    ])
  where
    xs : List ℕ
    xs = limits (filter (is_on Ask) book)

    ys : List ℕ
    ys = limits (filter (is_on Ask) other)

    ticks_within : (l : List Order) → IsBookOver low n l → (q : ℕ) → has q (limits (filter (is_on Ask) l)) ≡ true
        → q < low + n
    ticks_within l is q e =
        (All_at (λ tick. (low ≤ tick) × (tick < low + n)) (limits l) is.within q (side_limit Ask l q e)).1

    bottom_of : (o : Option ℕ) → lowest xs ≡ o → IfSome o (λ t. t ≤ to) → IfNone o (low + n ≤ to + 1) → (q : ℕ) → to < q
        → q < low + n → (b : ℕ) × (has b xs ≡ true) × (b ≤ to)
    bottom_of None e h k q lt most = absurd (omega (arith, k))
    bottom_of (Some b) e h k q lt most = (b, has-lowest xs b e, h)

    bottom : (q : ℕ) → to < q → q < low + n → (b : ℕ) × (has b xs ≡ true) × (b ≤ to)
    bottom q lt most = bottom_of (lowest xs) refl some none q lt most

pub display_of-none : (book : List Order) (bid ask : Option ℕ) → bid ≡ best_limit book Bid → ask ≡ best_limit book Ask
    → display_of book None ≡ Unpriced bid ask
display_of-none book bid ask b a = grind (arith, common_steps)

pub same_wider : (from to lowest highest : ℕ) (book other : List Order) → from ≤ lowest → highest ≤ to
    → IsSameWithin from to book other → IsSameWithin lowest highest book other
same_wider from to lowest highest book other h k is = grind (arith, common_steps)

pub none_then : {X A B : Type 0} (o : Option X) → (A → B) → IfNone o A → IfNone o B
none_then None f h = f h
none_then (Some x) f h = tt
