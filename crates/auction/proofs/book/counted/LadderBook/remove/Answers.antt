-- Answers of `LadderBook::remove` (src/book/counted.rt): what the prover left open; rt looks here.
use Rattle.std.proofs.Common.{◌≡◌, length, ap, subst, ◌∙◌, arith}
use Rattle.auction_terms.specs.Auxiliary.StampedOrders.{orders_of}
use Rattle.auction_terms.specs.Edits.{without_id}
use Rattle.auction_terms.specs.Auxiliary.OrderLists.{IdsDiffer}
use Rattle.order_book.specs.Orders.{OrdersView as Orders}
use Rattle.order_book.proofs.OrderLaws.{orders_of-without_id}
use Rattle.auction.specs.OpenOrders.{OpenOrders, IsOpenIn}
use Rattle.auction.specs.LadderBook.{LadderBookView, HasLadder}
use Rattle.auction.proofs.BookLengthLaws.{length-without_id}
use Rattle.auction.proofs.LadderBookLaws.{kept_tick, kept_stands, kept-without_id}
use Rattle.auction.proofs.FoundOrderLaws.{seen_open, open_in_line}
use Rattle.auction.proofs.OpenOrdersLaws.{counted_again, seen_rest}
use Rattle.auction.proofs.KnownPriceLaws.{known-without_id}
use Rattle.auction.proofs.book.counted.LadderBook.remove.Goals as goal

pub delete-requires : goal.delete-requires
delete-requires c =
    open_in_line c.args.order c.self.inside.orders.line
    (seen_open c.self.inside.orders c.self.inside.ladder c.self.inside.kind c.args.self.now c.args.order c.self.view_is
    c.requires)

pub take-requires-clause-in_bounds : goal.take-requires-clause-in_bounds
take-requires-clause-in_bounds c =
    kept_tick c.self.invariant.kept c.args.order.id c.args.order
    (seen_open c.self.inside.orders c.self.inside.ladder c.self.inside.kind c.args.self.now c.args.order
    c.self.view_is c.requires)

pub take-requires-clause-stands : goal.take-requires-clause-stands
take-requires-clause-stands c =
    kept_stands c.self.invariant.kept (record { id = c.args.order.id; quantity = c.args.order.quantity }) c.args.order
    (seen_open c.self.inside.orders c.self.inside.ladder c.self.inside.kind c.args.self.now c.args.order c.self.view_is
    c.requires) (omega arith)

found : (c : goal.After-take) → IsOpenIn (orders_of c.self.inside.orders.line) c.args.order
found c =
    seen_open c.self.inside.orders c.self.inside.ladder c.self.inside.kind c.args.self.now c.args.order c.self.view_is
    c.requires

listed : (c : goal.After-take)
    → orders_of c.delete.new.self.line ≡ without_id c.args.order.id (orders_of c.self.inside.orders.line)
listed c = ap orders_of c.delete.ensures.line ∙ orders_of-without_id c.args.order.id c.self.inside.orders.line

still_kept : (c : goal.After-take)
    → HasLadder c.self.inside.ladder.low (length c.self.inside.ladder.bids) c.self.inside.kind
    (orders_of c.delete.new.self.line) c.take.new.ladder
still_kept c = kept-without_id c.self.invariant.kept c.args.order.id c.args.order (found c) (listed c) c.take.ensures

pub invariant_of-self : goal.invariant_of-self
invariant_of-self c =
    counted_again c.delete.new.self c.self.inside.orders.max_open (still_kept c)
    (ap (λ (o : Orders). o.max_open) c.delete.ensures.rest)
    (omega (
      arith,
      ap length (listed c),
      length-without_id c.args.order.id (orders_of c.self.inside.orders.line),
      c.self.invariant.few,
    ))
    c.self.invariant.small

pub returns-clause-book : goal.returns-clause-book
returns-clause-book c =
    let seen = ap (λ (b : LadderBookView). b.book) c.self.view_is in
    let view = c.args.self.now.book in
    seen_rest c.self.inside.orders c.delete.new.self c.self.inside.ladder c.take.new.ladder c.self.inside.kind
    c.self.inside.kind view.kind view seen (still_kept c)
    (ap (λ (v : OpenOrders). v.kind) seen) (without_id c.args.order.id view.orders)
    (listed c ∙ ap (λ (v : OpenOrders). without_id c.args.order.id v.orders) seen)
    c.delete.ensures.rest

pub returns-clause-known : goal.returns-clause-known
returns-clause-known c =
    known-without_id c.args.self.now.book _ c.args.order
    (subst (λ (b : LadderBookView). IdsDiffer b.book.orders) c.self.view_is c.self.invariant.kept.orderly.ids)
    c.requires (returns-clause-book c)
