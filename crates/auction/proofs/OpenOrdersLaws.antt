-- What is seen of the open orders after each step.
use Rattle.std.proofs.Common.{◌≡◌, ℕ, ◌+◌, ◌<◌, ◌≤◌, Bool, false, cond, List, length, ap, ◌∙◌, arith}
use Rattle.std.proofs.Common.{Option, None, Some}
use Rattle.std.proofs.lemmas.Bool.Decides.{nat_tests}
use Rattle.auction_terms.specs.declared.limits.TheConstants.{MAX_QUANTITY, MAX_OPEN_ORDERS}
use Rattle.auction_terms.specs.declared.Limit.{Limit}
use Rattle.auction_terms.specs.declared.Order.{Order}
use Rattle.auction_terms.specs.declared.AuctionKind.{AuctionKind}
use Rattle.auction_terms.specs.Book.{auction_orders}
use Rattle.auction_terms.specs.Auxiliary.StampedOrders.{orders_of}
use Rattle.auction_terms.specs.Day.{is_bad_peak, is_bad_quantity}
use Rattle.auction_terms.specs.Ladder.{LadderView}
use Rattle.order_book.specs.Orders.{OrdersView as Orders}
use Rattle.order_book.specs.Packing.{HasShortPeak}
use Rattle.auction.specs.OpenOrders.{OpenOrders}
use Rattle.auction.specs.LadderBook.{open_orders, HasLadder, IsLadderBook}
use Rattle.auction.proofs.LadderBookLaws.{low_of, ticks_of, own_ticks}

pub good_quantity : (q : ℕ) → is_bad_quantity q ≡ false → (0 < q) × (q ≤ MAX_QUANTITY)
good_quantity q e = (quantity-positive q e, quantity-bounded q e)
  where
    quantity-positive : (q : ℕ) → is_bad_quantity q ≡ false → 0 < q
    quantity-positive q e = grind (arith, nat_tests)

    quantity-bounded : (q : ℕ) → is_bad_quantity q ≡ false → q ≤ MAX_QUANTITY
    quantity-bounded q e = grind (arith, nat_tests)

-- the peak of an order that isn't refused for its quantity or its peak
pub short_peak : (limit : Limit) (quantity : ℕ) (peak : Option ℕ) → is_bad_quantity quantity ≡ false
    → is_bad_peak limit quantity peak ≡ false → HasShortPeak peak
short_peak limit quantity None good fine = tt
short_peak limit quantity (Some peak) good fine =
    let high = (good_quantity quantity good).1 in (grind (arith, nat_tests), grind (arith, nat_tests))

-- the book holds after a step
pub counted_again : {low n : ℕ} {kind : AuctionKind} {ladder : LadderView} (orders : Orders) (max_open : ℕ)
    → HasLadder low n kind (orders_of orders.line) ladder → orders.max_open ≡ max_open
    → length (orders_of orders.line) ≤ max_open → max_open ≤ MAX_OPEN_ORDERS → IsLadderBook orders ladder kind
counted_again orders max_open is same few small = record { kept = own_ticks is; few = omega arith; small = omega arith }

-- what is seen after a step that leaves the bounds, with the ticks of the ladder before
module _ (old new : Orders) (was now : LadderView) (was_kind kind next : AuctionKind) (view : OpenOrders)
    (seen : open_orders old was was_kind ≡ view)
    (is : HasLadder was.low (length was.bids) kind (orders_of new.line) now) (named : kind ≡ next) (orders : List Order)
    (listed : orders_of new.line ≡ orders) where
  seen_next : (entered stamps : ℕ) → new.entered ≡ entered → new.stamps ≡ stamps → new.max_open ≡ old.max_open
      → new.max_calls ≡ old.max_calls → open_orders new now kind ≡ record view {
        orders = orders;
        kind = next;
        entered =
            entered;
        stamps = stamps;
      }
  seen_next entered stamps e f g h =
      let low = low_of was.low (length was.bids) (auction_orders (orders_of new.line) kind) now is.same in
      let ticks = ticks_of was.low (length was.bids) (auction_orders (orders_of new.line) kind) now is.same in
      let here : open_orders new now kind ≡ record (open_orders old was was_kind) {
        orders = orders;
        kind =
            next;
        entered = entered;
        stamps = stamps;
      } = cc in
      here ∙ ap (λ (v : OpenOrders). record v { orders = orders; kind = next; entered = entered; stamps = stamps }) seen

  -- only the orders have changed
  pub seen_rest : new ≡ record old {
    line = new.line;
    slots =
        new.slots;
  } → open_orders new now kind ≡ record view { orders = orders; kind = next }
  seen_rest rest =
      seen_next view.entered view.stamps
      (ap (λ (o : Orders). o.entered) rest ∙ ap (λ (v : OpenOrders). v.entered) seen)
      (ap (λ (o : Orders). o.stamps) rest ∙ ap (λ (v : OpenOrders). v.stamps) seen)
      (ap (λ (o : Orders). o.max_open) rest) (ap (λ (o : Orders). o.max_calls) rest)

  -- an order was entered
  pub seen_entered : new ≡ record old {
    line = new.line;
    slots = new.slots;
    stamps = old.stamps + 1;
    entered = old.entered + 1;
  } → open_orders new now kind ≡ record view {
    orders = orders;
    kind = next;
    entered =
        view.entered + 1;
    stamps = view.stamps + 1;
  }
  seen_entered rest =
      seen_next (view.entered + 1) (view.stamps + 1)
      (ap (λ (o : Orders). o.entered) rest ∙ ap (λ (v : OpenOrders). v.entered + 1) seen)
      (ap (λ (o : Orders). o.stamps) rest ∙ ap (λ (v : OpenOrders). v.stamps + 1) seen)
      (ap (λ (o : Orders). o.max_open) rest) (ap (λ (o : Orders). o.max_calls) rest)

  -- an order was changed
  pub seen_changed : (kept : Bool) → new ≡ record old {
    line = new.line;
    slots = new.slots;
    stamps = cond kept old.stamps (old.stamps + 1);
  } → open_orders new now kind ≡ record view {
    orders =
        orders;
    kind = next;
    stamps = cond kept view.stamps (view.stamps + 1);
  }
  seen_changed kept rest =
      seen_next view.entered (cond kept view.stamps (view.stamps + 1))
      (ap (λ (o : Orders). o.entered) rest ∙ ap (λ (v : OpenOrders). v.entered) seen)
      (ap (λ (o : Orders). o.stamps) rest ∙ ap (λ (v : OpenOrders). cond kept v.stamps (v.stamps + 1)) seen)
      (ap (λ (o : Orders). o.max_open) rest) (ap (λ (o : Orders). o.max_calls) rest)
