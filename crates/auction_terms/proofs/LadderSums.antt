-- One order more or less in a book, by the sums over it, and what that makes of the ladder.
use Rattle.std.proofs.Common.{◌≡◌, ℕ, ◌+◌, ◌-◌, ◌<◌, ◌≤◌, Bool, true, false, cond, List, [], ◌∷◌, ◌++◌, All, Some}
use Rattle.std.proofs.Common.{sum_by, sym, ap, ◌∙◌, arith}
use Rattle.std.proofs.lemmas.List.Elements.{All-filter}
use Rattle.std.proofs.lemmas.Grind.{common_steps}
use Rattle.auction_terms.specs.declared.Order.{Order}
use Rattle.auction_terms.specs.declared.Fill.{Fill}
use Rattle.auction_terms.specs.declared.Side.{Side}
use Rattle.auction_terms.specs.declared.Side.TheVariants.{Bid, Ask}
use Rattle.auction_terms.specs.declared.AuctionKind.{AuctionKind}
use Rattle.auction_terms.specs.Book.{participates_in, auction_orders}
use Rattle.auction_terms.specs.Edits.{order_with, without_id, changed_at, less_quantity}
use Rattle.auction_terms.specs.Auxiliary.OrderLists.{moved_to_end, book_after_fill, IdsDiffer}
use Rattle.auction_terms.specs.Ladder.{quantity_at, market_quantity, tick_values, ladder_of, with_added, with_removed}
use Rattle.auction_terms.specs.Ladder.{IsTickOf}
use Rattle.auction_terms.proofs.EditSums.{sum-push, sum-auction_orders, sum-without_id, sum-changed, sum-moved}
use Rattle.auction_terms.proofs.EditSums.{sum-book_after_fill}
use Rattle.auction_terms.proofs.LadderLaws.{same_spread, stands_by, market_by, by_order, by_market, standing_is}
use Rattle.auction_terms.proofs.LadderLaws.{market_is, ladder_is, view_same, ladder-added, ladder-removed}

abbrev pub with_quantity : ℕ → Order → Order
with_quantity quantity order = record order { quantity = quantity }

-- an order in two parts weighs as much as they do, and nothing where nothing is open
pub record IsAdditive (w : Order → ℕ) : Type 0 where
  pub split : (o : Order) (q : ℕ) → q ≤ o.quantity → w o ≡ w (less_quantity q o) + w (with_quantity q o)
  pub nothing : (o : Order) → o.quantity ≡ 0 → w o ≡ 0

-- the second book has the order, or part of an order, more
pub record HasOrderMore (o : Order) (old new : List Order) : Type 0 where
  pub sums : (w : Order → ℕ) → IsAdditive w → sum_by w new ≡ sum_by w old + w o

-- ---- the edits of a book

pub more-push : (book : List Order) (o : Order) → HasOrderMore o book (book ++ o ∷ [])
more-push book o = record { sums = λ w additive. sum-push w book o }

pub more-without_id : (id : ℕ) (book : List Order) (o : Order) → IdsDiffer book → order_with id book ≡ Some o
    → HasOrderMore o (without_id id book) book
more-without_id id book o d e = record { sums = λ w additive. sym (sum-without_id w id book o d e) }

pub more-changed : (id : ℕ) (change : Order → Order) (book : List Order) (o : Order) → IdsDiffer book
    → order_with id book ≡ Some o → HasOrderMore (change o) (without_id id book) (changed_at id change book)
more-changed id change book o d e =
    record { sums = λ w additive. omega (arith, sum-changed w change id book o d e, sum-without_id w id book o d e) }

pub more-moved : (id : ℕ) (change : Order → Order) (book : List Order) (o : Order) → IdsDiffer book
    → order_with id book ≡ Some o → HasOrderMore (change o) (without_id id book) (moved_to_end id change book)
more-moved id change book o d e =
    record { sums = λ w additive. omega (arith, sum-moved w id change book o d e, sum-without_id w id book o d e) }

pub more-book_after_fill : (f : Fill) (book : List Order) (o : Order) → IdsDiffer book → order_with f.id book ≡ Some o
    → f.quantity ≤ o.quantity → HasOrderMore (with_quantity f.quantity o) (book_after_fill f book) book
more-book_after_fill f book o d e within = grind (arith, common_steps, sum-book_after_fill)

-- ---- what counts

counted_weight : AuctionKind → (Order → ℕ) → Order → ℕ
counted_weight kind w o = cond (participates_in kind o) (w o) 0

pub counted_sums : (kind : AuctionKind) (o : Order) (old new : List Order) → HasOrderMore o old new → (w : Order → ℕ)
    → IsAdditive w → sum_by w (auction_orders new kind) ≡ sum_by w (auction_orders old kind)
    + cond (participates_in kind o) (w o) 0
unfolding counted_weight
counted_sums kind o old new is w additive = search (arith, sum-auction_orders)

pub more-auction_orders : (kind : AuctionKind) (o : Order) (old new : List Order) → participates_in kind o ≡ true
    → HasOrderMore o old new → HasOrderMore o (auction_orders old kind) (auction_orders new kind)
more-auction_orders kind o old new e is = record {
  sums =
      λ w additive. counted_sums kind o old new is w additive
      ∙ ap (λ b. sum_by w (auction_orders old kind) + cond b (w o) 0) e;
}

-- ---- the ladder

cond-parts : (b : Bool) (q r : ℕ) → r ≤ q → cond b q 0 ≡ cond b (q - r) 0 + cond b r 0
cond-parts b q r h = grind (arith, common_steps)

pub order_additive : (s : Side) (t : ℕ) → IsAdditive (by_order s t)
unfolding by_order
order_additive s t = grind (arith, common_steps, cond-parts)

pub market_additive : (s : Side) → IsAdditive (by_market s)
unfolding by_market
market_additive s = grind (arith, common_steps, cond-parts)

module _ (low n : ℕ) (old new : List Order) (was : All (λ o. 0 < o.quantity) old) (now : All (λ o. 0 < o.quantity) new)
  where
    -- books with the same sums have the same ladder
    pub ladder-same : ((w : Order → ℕ) → IsAdditive w → sum_by w new ≡ sum_by w old)
        → ladder_of low n new ≡ ladder_of low n old
    ladder-same sums =
        view_same low n old new was now (tick_values (quantity_at Bid old) low n)
        (tick_values (quantity_at Ask old) low n) (market_quantity Bid old) (market_quantity Ask old)
        (same_spread _ _ low n (λ t. standing_is Bid new t ∙ sums (by_order Bid t) (order_additive Bid t)
        ∙ sym (standing_is Bid old t)))
        (same_spread _ _ low n (λ t. standing_is Ask new t ∙ sums (by_order Ask t) (order_additive Ask t)
        ∙ sym (standing_is Ask old t)))
        (market_is Bid new ∙ sums (by_market Bid) (market_additive Bid) ∙ sym (market_is Bid old))
        (market_is Ask new ∙ sums (by_market Ask) (market_additive Ask) ∙ sym (market_is Ask old))
        ∙ sym (ladder_is low n old was)

    module _ (o : Order) (tick : IsTickOf low n o.limit) where
      pub ladder-more : HasOrderMore o old new
          → ladder_of low n new ≡ with_added (ladder_of low n old) o.side o.limit o.quantity
      unfolding by_order by_market
      ladder-more is =
          ladder-added low n old new was now o.quantity o.side o.limit tick
          (λ s t. standing_is s new t ∙ is.sums (by_order s t) (order_additive s t)
          ∙ ap (λ k. k + stands_by s t o.side o.limit o.quantity) (sym (standing_is s old t)))
          (λ s. market_is s new ∙ is.sums (by_market s) (market_additive s)
          ∙ ap (λ k. k + market_by s o.side o.limit o.quantity) (sym (market_is s old)))

      pub ladder-fewer : HasOrderMore o new old
          → ladder_of low n new ≡ with_removed (ladder_of low n old) o.side o.limit o.quantity
      unfolding by_order by_market
      ladder-fewer is =
          ladder-removed low n old new was now o.quantity o.side o.limit tick
          (λ s t. ap (λ k. k + stands_by s t o.side o.limit o.quantity) (standing_is s new t)
          ∙ sym (is.sums (by_order s t) (order_additive s t)) ∙ sym (standing_is s old t))
          (λ s. ap (λ k. k + market_by s o.side o.limit o.quantity) (market_is s new)
          ∙ sym (is.sums (by_market s) (market_additive s)) ∙ sym (market_is s old))

-- the ladder of those that count, where the order counts and where it doesn't
pub ladder-others : (low n : ℕ) (kind : AuctionKind) (o : Order) (old new : List Order) → All (λ o. 0 < o.quantity) old
    → All (λ o. 0 < o.quantity) new → participates_in kind o ≡ false → HasOrderMore o old new
    → ladder_of low n (auction_orders new kind) ≡ ladder_of low n (auction_orders old kind)
ladder-others low n kind o old new was now e is =
    ladder-same low n (auction_orders old kind) (auction_orders new kind)
    (All-filter (participates_in kind) (λ o. 0 < o.quantity) old was)
    (All-filter (participates_in kind) (λ o. 0 < o.quantity) new now)
    (λ w additive. let b = ap (λ b. cond b (w o) 0) e in omega (arith, counted_sums kind o old new is w additive, b))
