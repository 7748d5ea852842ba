-- The ladder is kept by each edit of the orders.
use Rattle.std.proofs.Common.{◌≡◌, ℕ, ◌<◌, ◌≤◌, Bool, true, false, cond, List, [], ◌∷◌, ◌++◌, All, Some, length, refl}
use Rattle.std.proofs.Common.{sym, ap, subst, ◌∙◌, arith}
use Rattle.std.proofs.lemmas.List.Elements.{All-filter, All-push, All-map, All-weaker}
use Rattle.std.proofs.lemmas.List.Sums.{sum_by-le}
use Rattle.std.proofs.lemmas.Grind.{common_steps}
use Rattle.auction_terms.specs.declared.limits.TheConstants.{MAX_OPEN_ORDERS, MAX_QUANTITY}
use Rattle.auction_terms.specs.declared.Order.{Order}
use Rattle.auction_terms.specs.declared.Fill.{Fill}
use Rattle.auction_terms.specs.declared.Limit.{Limit}
use Rattle.auction_terms.specs.declared.AuctionKind.{AuctionKind}
use Rattle.auction_terms.specs.Book.{participates_in, auction_orders}
use Rattle.auction_terms.specs.Edits.{has_id, order_with, without_id, changed_at, with_terms, less_quantity}
use Rattle.auction_terms.specs.Edits.{keeps_place}
use Rattle.auction_terms.specs.Auxiliary.OrderLists.{is_open, moved_to_end, book_after_fill, IsOrderly}
use Rattle.auction_terms.specs.Day.{book_with_change}
use Rattle.auction_terms.specs.Ladder.{LadderView, ladder_of, IsTickOf}
use Rattle.auction_terms.proofs.LadderLaws.{length-tick_values}
use Rattle.auction_terms.proofs.RestIdLaws.{IdsDiffer-filter}
use Rattle.auction_terms.proofs.EditLaws.{change_is, moved_is}
use Rattle.auction_terms.proofs.LadderSums.{with_quantity, HasOrderMore, more-push}
use Rattle.auction_terms.proofs.LadderSums.{more-without_id, more-changed, more-moved}
use Rattle.auction_terms.proofs.LadderSums.{more-book_after_fill, more-auction_orders, ladder-more, ladder-fewer}
use Rattle.auction_terms.proofs.LadderSums.{ladder-others}
use Rattle.auction_terms.specs.Ladder.{quantity_in}
use Rattle.tick_ladder.specs.TickLadder.{total_quantity}
use Rattle.auction.specs.LadderBook.{ladder_with, ladder_less, HasLadder, FitsIn}
use Rattle.auction.proofs.FoundOrderLaws.{all_found}
use Rattle.auction.proofs.BookLengthLaws.{length-filter_le}
use Rattle.auction.proofs.LadderTotalLaws.{quantity_in-least, all_within}

abbrev pub IsOpen : Order → Type 0
IsOpen o = 0 < o.quantity

abbrev pub HasTick : ℕ → ℕ → Order → Type 0
HasTick low n o = IsTickOf low n o.limit

pub open_counted : (kind : AuctionKind) (book : List Order) → IsOrderly book → All IsOpen (auction_orders book kind)
open_counted kind book is = All-filter (participates_in kind) IsOpen book is.positive

-- ---- the ticks

pub low_of : (low n : ℕ) (book : List Order) (ladder : LadderView) → ladder ≡ ladder_of low n book → ladder.low ≡ low
unfolding ladder_of
low_of low n book ladder same = ap (λ (v : LadderView). v.low) same

pub ticks_of : (low n : ℕ) (book : List Order) (ladder : LadderView) → ladder ≡ ladder_of low n book
    → length ladder.bids ≡ n
unfolding ladder_of
ticks_of low n book ladder same = ap (λ (v : LadderView). length v.bids) same ∙ length-tick_values _ low n

-- ---- one order more, or less

module _ {low n : ℕ} {kind : AuctionKind} {old : List Order} {ladder : LadderView}
    (was : HasLadder low n kind old ladder) (new : List Order) (o : Order) (orderly : IsOrderly new)
    (within : All (HasTick low n) new) (tick : IsTickOf low n o.limit) where
  kept_more : HasOrderMore o old new → HasLadder low n kind new (ladder_with kind o ladder)
  kept_more is = grind (arith, common_steps, ladder-more, open_counted, more-auction_orders, ladder-others)

  kept_fewer : HasOrderMore o new old → HasLadder low n kind new (ladder_less kind o o.quantity ladder)
  kept_fewer is = grind (arith, common_steps, ladder-fewer, open_counted, more-auction_orders, ladder-others)

changed_ticks : (low n id : ℕ) (change : Order → Order) (book : List Order)
    → ((o : Order) → HasTick low n o → HasTick low n (change o)) → All (HasTick low n) book
    → All (HasTick low n) (changed_at id change book)
changed_ticks low n id change book keeps all =
    All-map (HasTick low n) (λ o. cond (has_id id o) (change o) o) book
    (grind (arith, common_steps, All-weaker))

module _ {low n : ℕ} {kind : AuctionKind} {book : List Order} {ladder : LadderView}
    (was : HasLadder low n kind book ladder) where
  -- ---- the ticks, as the ladder itself has them

  pub own_ticks : HasLadder ladder.low (length ladder.bids) kind book ladder
  own_ticks = search (arith, low_of, ticks_of)

  -- ---- what the calls of the ladder ask

  pub kept_tick : (id : ℕ) (o : Order) → order_with id book ≡ Some o → IsTickOf low n o.limit
  kept_tick id o e = all_found (HasTick low n) id book o was.within e

  -- the part of an order that leaves is in the ladder
  pub kept_stands : (f : Fill) (o : Order) → order_with f.id book ≡ Some o → f.quantity ≤ o.quantity
      → participates_in kind o ≡ true → f.quantity ≤ quantity_in ladder o.side o.limit
  kept_stands f o e within c =
      let part = with_quantity f.quantity o in
      let more =
      more-auction_orders kind part (book_after_fill f book) book c
      (more-book_after_fill f book o was.orderly.ids e within) in
      subst (λ v. f.quantity ≤ quantity_in v o.side o.limit) (sym was.same)
      (quantity_in-least low n (auction_orders (book_after_fill f book) kind) (auction_orders book kind) part
      (kept_tick f.id o e) more)

  -- an order more fits
  pub kept_fits : (q : ℕ) → length book < MAX_OPEN_ORDERS → q ≤ MAX_QUANTITY → FitsIn ladder q
  kept_fits q few bounded =
      let same = ap total_quantity was.same in
      let all = all_within low n (auction_orders book kind) in
      let each =
      sum_by-le (λ (o : Order). o.quantity) MAX_QUANTITY (auction_orders book kind)
      (All-filter (participates_in kind) (λ o. o.quantity ≤ MAX_QUANTITY) book was.orderly.bounded) in
      let fewer = length-filter_le (participates_in kind) book in
      omega arith

  -- ---- the edits

  pub kept-same : {new : List Order} {view : LadderView} → new ≡ book → view ≡ ladder → HasLadder low n kind new view
  kept-same {new} {view} e f =
      subst (λ v. HasLadder low n kind new v) (sym f) (subst (λ l. HasLadder low n kind l ladder) (sym e) was)

  kept_removed : (id : ℕ) (o : Order) → order_with id book ≡ Some o
      → HasLadder low n kind (without_id id book) (ladder_less kind o o.quantity ladder)
  kept_removed id o e = search (arith, kept_fewer, IdsDiffer-filter, All-filter, kept_tick, more-without_id)

  kept_part : (f : Fill) (o : Order) → order_with f.id book ≡ Some o → f.quantity ≤ o.quantity
      → IsOrderly (book_after_fill f book)
      → HasLadder low n kind (book_after_fill f book) (ladder_less kind o f.quantity ladder)
  kept_part f o e within orderly =
      kept_fewer was (book_after_fill f book) (with_quantity f.quantity o) orderly
      (All-filter is_open (HasTick low n) (changed_at f.id (less_quantity f.quantity) book)
      (changed_ticks low n f.id (less_quantity f.quantity) book (λ o h. h) was.within))
      (kept_tick f.id o e) (more-book_after_fill f book o was.orderly.ids e within)

-- each with the list and the ladder that are there then
module _ {low n : ℕ} {kind : AuctionKind} {book new : List Order} {ladder view : LadderView}
    (was : HasLadder low n kind book ladder) where
  pub kept-without_id : (id : ℕ) (o : Order) → order_with id book ≡ Some o → new ≡ without_id id book
      → view ≡ ladder_less kind o o.quantity ladder → HasLadder low n kind new view
  kept-without_id id o e is after = kept-same (kept_removed was id o e) is after

  pub kept-book_after_fill : (f : Fill) (o : Order) → order_with f.id book ≡ Some o → f.quantity ≤ o.quantity
      → IsOrderly new → new ≡ book_after_fill f book → view ≡ ladder_less kind o f.quantity ladder
      → HasLadder low n kind new view
  kept-book_after_fill f o e within orderly is after =
      kept-same (kept_part was f o e within (subst IsOrderly is orderly)) is after

  pub kept-push : (o : Order) → IsTickOf low n o.limit → IsOrderly new → new ≡ book ++ o ∷ []
      → view ≡ ladder_with kind o ladder → HasLadder low n kind new view
  kept-push o tick orderly is after =
      kept-same
      (kept_more was (book ++ o ∷ []) o (subst IsOrderly is orderly)
      (All-push (HasTick low n) book o was.within tick) tick (more-push book o)) is after

  -- a change: all of the order is taken from the ladder, and then added with its new terms
  pub kept-change : (id : ℕ) (limit : Limit) (quantity : ℕ) (o : Order) (between : LadderView)
      → order_with id book ≡ Some o → IsTickOf low n limit → IsOrderly new
      → new ≡ book_with_change book o limit quantity → between ≡ ladder_less kind o o.quantity ladder
      → view ≡ ladder_with kind (with_terms limit quantity o) between → HasLadder low n kind new view
  kept-change id limit quantity o between e tick orderly is before after =
      kept-same
      (subst (λ l. HasLadder low n kind l (ladder_with kind changed between)) same
      (by_test (keeps_place o limit quantity) (subst IsOrderly (is ∙ sym same) orderly))) is after
    where
      changed : Order
      changed = with_terms limit quantity o

      here : List Order
      here = changed_at id (with_terms limit quantity) book

      there : List Order
      there = moved_to_end id (with_terms limit quantity) book

      same : cond (keeps_place o limit quantity) here there ≡ book_with_change book o limit quantity
      same = change_is id limit quantity book o was.orderly.ids e

      less : HasLadder low n kind (without_id id book) between
      less = kept-same (kept_removed was id o e) refl before

      by_test : (b : Bool) → IsOrderly (cond b here there)
          → HasLadder low n kind (cond b here there) (ladder_with kind changed between)
      by_test true h =
          kept_more less here changed h
          (changed_ticks low n id (with_terms limit quantity) book (λ o h. tick) was.within) tick
          (more-changed id (with_terms limit quantity) book o was.orderly.ids e)
      by_test false h =
          kept_more less there changed h
          (subst (All (HasTick low n)) (sym (moved_is id (with_terms limit quantity) book o was.orderly.ids e))
          (All-push (HasTick low n) (without_id id book) changed less.within tick)) tick
          (more-moved id (with_terms limit quantity) book o was.orderly.ids e)
