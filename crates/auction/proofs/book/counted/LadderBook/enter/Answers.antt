-- Answers of `LadderBook::enter` (src/book/counted.rt): what the prover left open; rt looks here.
use Rattle.std.proofs.Common.{◌≡◌, [], ◌∷◌, ◌++◌, length, sym, ap, subst, ◌∙◌, arith, length-append}
use Rattle.auction_terms.specs.declared.Order.{Order}
use Rattle.auction_terms.specs.Auxiliary.StampedOrders.{orders_of}
use Rattle.auction_terms.specs.Ladder.{IsTickOf}
use Rattle.order_book.specs.Orders.{OrdersView as Orders}
use Rattle.order_book.proofs.OrderLaws.{orders_of-last}
use Rattle.auction.specs.OpenOrders.{OpenOrders, IsLimitIn}
use Rattle.auction.specs.LadderBook.{LadderBookView, HasLadder}
use Rattle.auction.proofs.LadderBookLaws.{kept_fits, kept-push}
use Rattle.auction.proofs.OpenOrdersLaws.{good_quantity, counted_again, seen_entered, short_peak}
use Rattle.auction.proofs.KnownPriceLaws.{known-push}
use Rattle.auction.proofs.book.counted.LadderBook.enter.Goals as goal

pub add-requires-clause-fits : goal.add-requires-clause-fits
add-requires-clause-fits c =
    kept_fits c.self.invariant.kept c.append-order.result.quantity
    (omega (
      arith,
      c.requires.room,
      ap (λ (b : LadderBookView). length b.book.orders) c.self.view_is,
      ap (λ (b : LadderBookView). b.book.max_open) c.self.view_is,
      c.self.invariant.small,
    ))
    (omega (
      arith,
      (good_quantity c.args.new.quantity c.requires.quantity).1,
      ap (λ (o : Order). o.quantity) c.append-order.ensures.order,
    ))

listed : (c : goal.After-add) → orders_of c.append-order.new.self.line ≡ orders_of c.self.inside.orders.line
    ++ c.append-order.result ∷ []
listed c = ap orders_of c.append-order.ensures.line ∙ orders_of-last c.self.inside.orders c.append-order.result

still_kept : (c : goal.After-add)
    → HasLadder c.self.inside.ladder.low (length c.self.inside.ladder.bids) c.self.inside.kind
    (orders_of c.append-order.new.self.line) c.add.new.ladder
still_kept c =
    kept-push c.self.invariant.kept c.append-order.result
    (subst (λ (o : Order). IsTickOf c.self.inside.ladder.low (length c.self.inside.ladder.bids) o.limit)
    (sym c.append-order.ensures.order)
    (subst (λ (b : LadderBookView). IsLimitIn b.book c.args.new.limit) (sym c.self.view_is) c.requires.limit))
    c.append-order.ensures.orderly (listed c) c.add.ensures

pub invariant_of-self : goal.invariant_of-self
invariant_of-self c =
    counted_again c.append-order.new.self c.self.inside.orders.max_open (still_kept c)
    (ap (λ (o : Orders). o.max_open) c.append-order.ensures.rest)
    (omega (
      arith,
      ap length (listed c),
      length-append (orders_of c.self.inside.orders.line) (c.append-order.result ∷ []),
      c.requires.room,
      ap (λ (b : LadderBookView). length b.book.orders) c.self.view_is,
      ap (λ (b : LadderBookView). b.book.max_open) c.self.view_is,
    ))
    c.self.invariant.small

pub returns-clause-book : goal.returns-clause-book
returns-clause-book c =
    let seen = ap (λ (b : LadderBookView). b.book) c.self.view_is in
    let view = c.args.self.now.book in
    seen_entered c.self.inside.orders c.append-order.new.self c.self.inside.ladder c.add.new.ladder c.self.inside.kind
    c.self.inside.kind view.kind view seen (still_kept c)
    (ap (λ (v : OpenOrders). v.kind) seen) (view.orders ++ c.append-order.result ∷ [])
    (listed c ∙ ap (λ (v : OpenOrders). v.orders ++ c.append-order.result ∷ []) seen)
    c.append-order.ensures.rest

pub returns-clause-known : goal.returns-clause-known
returns-clause-known c = known-push c.args.self.now.book _ c.append-order.result (returns-clause-book c)

pub append-order-requires-clause-peak : goal.append-order-requires-clause-peak
append-order-requires-clause-peak c = short_peak c.args.new.limit c.args.new.quantity c.args.new.peak
    c.requires.quantity c.requires.peak
