-- Answers of `LadderBook::change` (src/book/counted.rt): what the prover left open; rt looks here.
use Rattle.std.proofs.Common.{◌≡◌, ◌+◌, cond, length, sym, ap, subst, ◌∙◌, refl, arith}
use Rattle.auction_terms.specs.Auxiliary.StampedOrders.{orders_of}
use Rattle.auction_terms.specs.Edits.{keeps_place}
use Rattle.auction_terms.specs.Auxiliary.OrderLists.{IdsDiffer}
use Rattle.auction_terms.specs.Day.{book_with_change}
use Rattle.order_book.specs.Orders.{OrdersView as Orders}
use Rattle.order_book.proofs.OrderLaws.{orders_of-book_with_change}
use Rattle.auction.specs.OpenOrders.{OpenOrders, IsOpenIn, IsLimitIn}
use Rattle.auction.specs.LadderBook.{LadderBookView, HasLadder}
use Rattle.auction.proofs.FoundOrderLaws.{seen_open, open_in_line, open_is}
use Rattle.auction.proofs.BookLengthLaws.{one_less, length-change}
use Rattle.auction.proofs.LadderBookLaws.{kept_tick, kept_stands, kept_fits, kept-without_id, kept-change}
use Rattle.auction.proofs.OpenOrdersLaws.{good_quantity, counted_again, seen_changed}
use Rattle.auction.proofs.KnownPriceLaws.{known-change}
use Rattle.auction.proofs.book.counted.LadderBook.change.Goals as goal

pub change-kept-requires-clause-open : goal.change-kept-requires-clause-open
change-kept-requires-clause-open c =
    open_in_line c.args.order c.self.inside.orders.line
    (seen_open c.self.inside.orders c.self.inside.ladder c.self.inside.kind c.args.self.now c.args.order
    c.self.view_is c.requires.open)

pub take-requires-clause-in_bounds : goal.take-requires-clause-in_bounds
take-requires-clause-in_bounds c =
    kept_tick c.self.invariant.kept c.args.order.id c.args.order
    (seen_open c.self.inside.orders c.self.inside.ladder c.self.inside.kind c.args.self.now c.args.order
    c.self.view_is c.requires.open)

pub take-requires-clause-stands : goal.take-requires-clause-stands
take-requires-clause-stands c =
    kept_stands c.self.invariant.kept (record { id = c.args.order.id; quantity = c.args.order.quantity }) c.args.order
    (seen_open c.self.inside.orders c.self.inside.ladder c.self.inside.kind c.args.self.now c.args.order c.self.view_is
    c.requires.open) (omega arith)

pub add-requires-clause-fits : goal.add-requires-clause-fits
add-requires-clause-fits c =
    let is =
    seen_open c.self.inside.orders c.self.inside.ladder c.self.inside.kind c.args.self.now c.args.order
    c.self.view_is c.requires.open in
    kept_fits (kept-without_id c.self.invariant.kept c.args.order.id c.args.order is refl c.take.ensures)
    c.args.quantity
    (omega (
      arith,
      one_less c.args.order.id (orders_of c.self.inside.orders.line) c.args.order is,
      c.self.invariant.few,
      c.self.invariant.small,
    ))
    (good_quantity c.args.quantity c.requires.quantity).1

open_still : (c : goal.After-add) → IsOpenIn (orders_of c.self.inside.orders.line) c.args.order
open_still c =
    seen_open c.self.inside.orders c.self.inside.ladder c.self.inside.kind c.args.self.now c.args.order c.self.view_is
    c.requires.open

pub returns-clause-kept : goal.returns-clause-kept
returns-clause-kept c =
    open_is (λ o. c.change-kept.result ≡ keeps_place o c.args.limit c.args.quantity) c.args.order
    c.self.inside.orders.line (open_still c) c.change-kept.ensures.kept

changed : (c : goal.After-add) → orders_of c.change-kept.new.self.line
    ≡ book_with_change (orders_of c.self.inside.orders.line) c.args.order c.args.limit c.args.quantity
changed c =
    ap orders_of c.change-kept.ensures.line
    ∙ orders_of-book_with_change c.self.inside.orders c.args.order.id c.args.limit c.args.quantity c.change-kept.result
    c.args.order c.self.invariant.kept.orderly.ids (open_still c) (returns-clause-kept c)

still_kept : (c : goal.After-add)
    → HasLadder c.self.inside.ladder.low (length c.self.inside.ladder.bids) c.self.inside.kind
    (orders_of c.change-kept.new.self.line) c.add.new.ladder
still_kept c =
    kept-change c.self.invariant.kept c.args.order.id c.args.limit c.args.quantity c.args.order c.take.new.ladder
    (open_still c)
    (subst (λ (b : LadderBookView). IsLimitIn b.book c.args.limit) (sym c.self.view_is) c.requires.limit)
    c.change-kept.ensures.orderly (changed c) c.take.ensures c.add.ensures

pub invariant_of-self : goal.invariant_of-self
invariant_of-self c =
    counted_again c.change-kept.new.self c.self.inside.orders.max_open (still_kept c)
    (ap (λ (o : Orders). o.max_open) c.change-kept.ensures.rest)
    (omega (
      arith,
      ap length (changed c),
      length-change c.args.order.id c.args.limit c.args.quantity (orders_of c.self.inside.orders.line) c.args.order
          (open_still c),
      c.self.invariant.few,
    ))
    c.self.invariant.small

pub returns-clause-book : goal.returns-clause-book
returns-clause-book c =
    let seen = ap (λ (b : LadderBookView). b.book) c.self.view_is in
    let view = c.args.self.now.book in
    seen_changed c.self.inside.orders c.change-kept.new.self c.self.inside.ladder c.add.new.ladder c.self.inside.kind
    c.self.inside.kind view.kind view seen (still_kept c)
    (ap (λ (v : OpenOrders). v.kind) seen) (book_with_change view.orders c.args.order c.args.limit c.args.quantity)
    (changed c ∙ ap (λ (v : OpenOrders). book_with_change v.orders c.args.order c.args.limit c.args.quantity) seen)
    c.change-kept.result c.change-kept.ensures.rest
    ∙ ap (λ k. record view {
      orders = book_with_change view.orders c.args.order c.args.limit c.args.quantity;
      stamps =
          cond k view.stamps (view.stamps + 1);
    }) (returns-clause-kept c)

pub returns-clause-known : goal.returns-clause-known
returns-clause-known c =
    known-change c.args.self.now.book _ c.args.limit c.args.quantity c.args.order
    (subst (λ (b : LadderBookView). IdsDiffer b.book.orders) c.self.view_is c.self.invariant.kept.orderly.ids)
    c.requires.open (returns-clause-book c)
