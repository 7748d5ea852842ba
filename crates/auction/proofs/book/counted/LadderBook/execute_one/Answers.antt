-- Answers of `LadderBook::execute_one` (src/book/counted/executing.rt): what the prover left open; rt looks here.
use Rattle.std.proofs.Common.{◌≡◌, ◌≤◌, length, ap, subst, ◌∙◌, sym, arith}
use Rattle.std.proofs.lemmas.Grind.{common_steps}
use Rattle.auction_terms.specs.Auxiliary.StampedOrders.{orders_of}
use Rattle.auction_terms.specs.Auxiliary.OrderLists.{book_after_fill, IsExecutable}
use Rattle.order_book.specs.Orders.{OrdersView as Orders}
use Rattle.order_book.proofs.OrderLaws.{orders_of-less}
use Rattle.auction.specs.OpenOrders.{OpenOrders}
use Rattle.auction.specs.LadderBook.{LadderBookView, HasLadder}
use Rattle.auction.proofs.BookLengthLaws.{length-book_after_fill}
use Rattle.auction.proofs.FoundOrderLaws.{some_open, found_given, open_with}
use Rattle.auction.proofs.LadderBookLaws.{kept_tick, kept_stands, kept-book_after_fill}
use Rattle.auction.proofs.FillTurnLaws.{next_within}
use Rattle.auction.proofs.OpenOrdersLaws.{counted_again, seen_rest}
use Rattle.auction.proofs.book.counted.LadderBook.execute_one.Goals as goal

pub reduce-order-requires-clause-open : goal.reduce-order-requires-clause-open
reduce-order-requires-clause-open c =
    let next = subst (λ (b : LadderBookView). IsExecutable c.args.fill b.book.orders) (sym c.self.view_is) c.requires in
    some_open c.args.fill.id c.self.inside.orders.line next.order next.found

pub reduce-order-requires-clause-within : goal.reduce-order-requires-clause-within
reduce-order-requires-clause-within c =
    let next = subst (λ (b : LadderBookView). IsExecutable c.args.fill b.book.orders) (sym c.self.view_is) c.requires in
    grind (
      arith,
      common_steps,
      (open_with (λ o. c.args.fill.quantity ≤ o.quantity) c.args.fill.id c.self.inside.orders.line),
      next.found,
      next.within,
    )

pub take-requires-clause-in_bounds : goal.take-requires-clause-in_bounds
take-requires-clause-in_bounds c =
    let next = subst (λ (b : LadderBookView). IsExecutable c.args.fill b.book.orders) (sym c.self.view_is) c.requires in
    kept_tick c.self.invariant.kept c.args.fill.id c.reduce-order.result
    (found_given c.args.fill.id c.self.inside.orders.line c.reduce-order.result next.order next.found
    c.reduce-order.ensures.order)

pub take-requires-clause-stands : goal.take-requires-clause-stands
take-requires-clause-stands c =
    let next = subst (λ (b : LadderBookView). IsExecutable c.args.fill b.book.orders) (sym c.self.view_is) c.requires in
    let found =
    found_given c.args.fill.id c.self.inside.orders.line c.reduce-order.result next.order next.found
    c.reduce-order.ensures.order in
    kept_stands c.self.invariant.kept c.args.fill c.reduce-order.result found
    (next_within c.args.fill c.reduce-order.result _ next found)

listed : (c : goal.After-take)
    → orders_of c.reduce-order.new.self.line ≡ book_after_fill c.args.fill (orders_of c.self.inside.orders.line)
listed c = ap orders_of c.reduce-order.ensures.line ∙ orders_of-less c.self.inside.orders c.args.fill

still_kept : (c : goal.After-take)
    → HasLadder c.self.inside.ladder.low (length c.self.inside.ladder.bids) c.self.inside.kind
    (orders_of c.reduce-order.new.self.line) c.take.new.ladder
still_kept c =
    let next = subst (λ (b : LadderBookView). IsExecutable c.args.fill b.book.orders) (sym c.self.view_is) c.requires in
    let found =
    found_given c.args.fill.id c.self.inside.orders.line c.reduce-order.result next.order next.found
    c.reduce-order.ensures.order in
    kept-book_after_fill c.self.invariant.kept c.args.fill c.reduce-order.result found
    (next_within c.args.fill c.reduce-order.result _ next found) c.reduce-order.ensures.orderly (listed c)
    c.take.ensures

pub invariant_of-self : goal.invariant_of-self
invariant_of-self c =
    counted_again c.reduce-order.new.self c.self.inside.orders.max_open (still_kept c)
    (ap (λ (o : Orders). o.max_open) c.reduce-order.ensures.rest)
    (omega (
      arith,
      ap length (listed c),
      length-book_after_fill c.args.fill (orders_of c.self.inside.orders.line),
      c.self.invariant.few,
    ))
    c.self.invariant.small

pub returns : goal.returns
returns c =
    let seen = ap (λ (b : LadderBookView). b.book) c.self.view_is in
    let view = c.args.self.now.book in
    seen_rest c.self.inside.orders c.reduce-order.new.self c.self.inside.ladder c.take.new.ladder c.self.inside.kind
    c.self.inside.kind view.kind view seen (still_kept c)
    (ap (λ (v : OpenOrders). v.kind) seen) (book_after_fill c.args.fill view.orders)
    (listed c ∙ ap (λ (v : OpenOrders). book_after_fill c.args.fill v.orders) seen)
    c.reduce-order.ensures.rest
