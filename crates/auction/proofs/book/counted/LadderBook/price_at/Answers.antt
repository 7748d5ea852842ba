-- Answers of `LadderBook::price_at` (src/book/counted.rt): what the prover left open; rt looks here.
use Rattle.std.proofs.Common.{IfSome, subst}
use Rattle.auction_terms.specs.Book.{auction_orders}
use Rattle.auction_terms.specs.Auxiliary.StampedOrders.{orders_of}
use Rattle.auction.specs.OpenOrders.{counted_orders}
use Rattle.auction.specs.LadderBook.{LadderBookView}
use Rattle.auction.specs.KnownPrice.{IsKnownOf, IsPriceAt}
use Rattle.auction.proofs.KnownPriceLaws.{known_price}
use Rattle.auction.proofs.LimitLaws.{kept_ladder, kept_over, seen_over}
use Rattle.auction.proofs.PriceTickLaws.{price_among}
use Rattle.auction.proofs.book.counted.LadderBook.price_at.Goals as goal

pub returns-in-Some-clause-price : goal.returns-in-Some-clause-price
returns-in-Some-clause-price c =
    let book = c.args.self.now.book in
    let known = subst (λ k. IfSome k (IsKnownOf book)) c.in-Some.is c.requires.known in
    subst (λ r. IsPriceAt r (counted_orders book) c.in-Some.known) c.if-known-reference.true
    (known_price book.low book.ticks (counted_orders book) c.in-Some.known
    (seen_over c.self.inside.orders c.self.inside.ladder c.self.inside.kind c.args.self.now c.self.view_is
    c.self.invariant) known)

pub returns-in-Some-clause-within : goal.returns-in-Some-clause-within
returns-in-Some-clause-within c =
    let book = c.args.self.now.book in
    price_among book.low book.ticks c.args.reference (counted_orders book) c.in-Some.known
    (seen_over c.self.inside.orders c.self.inside.ladder c.self.inside.kind c.args.self.now c.self.view_is
    c.self.invariant).within c.requires.tick (returns-in-Some-clause-price c)

pub returns-in_default-clause-known : goal.returns-in_default-clause-known
returns-in_default-clause-known c =
    let kind = c.self.inside.kind in
    let list = orders_of c.self.inside.orders.line in
    let ladder = c.self.inside.ladder in
    let kept = c.self.invariant.kept in
    subst (λ (b : LadderBookView). IsKnownOf b.book c.find.result) c.self.view_is
    (c.find.ensures.known (auction_orders list kind) (kept_ladder kind list ladder kept)
    (kept_over kind list ladder kept))

pub returns-in_default-clause-price : goal.returns-in_default-clause-price
returns-in_default-clause-price c =
    let book = c.args.self.now.book in
    subst (λ r. IsPriceAt r (counted_orders book) c.find.result) c.find.ensures.reference
    (known_price book.low book.ticks (counted_orders book) c.find.result
    (seen_over c.self.inside.orders c.self.inside.ladder c.self.inside.kind c.args.self.now c.self.view_is
    c.self.invariant) (returns-in_default-clause-known c))

pub returns-in_default-clause-within : goal.returns-in_default-clause-within
returns-in_default-clause-within c =
    let book = c.args.self.now.book in
    price_among book.low book.ticks c.args.reference (counted_orders book) c.find.result
    (seen_over c.self.inside.orders c.self.inside.ladder c.self.inside.kind c.args.self.now c.self.view_is
    c.self.invariant).within c.requires.tick (returns-in_default-clause-price c)
