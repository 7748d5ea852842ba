-- Answers of `LadderBook::show_at` (src/book/counted.rt): what the prover left open; rt looks here.
use Rattle.std.proofs.Common.{IfSome, ap, subst, sym, ◌∙◌}
use Rattle.auction_terms.specs.Book.{auction_orders}
use Rattle.auction_terms.specs.Auxiliary.StampedOrders.{orders_of}
use Rattle.auction_terms.specs.Day.{display_of}
use Rattle.auction.specs.OpenOrders.{counted_orders}
use Rattle.auction.specs.LadderBook.{LadderBookView}
use Rattle.auction.specs.KnownPrice.{IsKnownOf, IsPriceAt}
use Rattle.auction.proofs.KnownPriceLaws.{known_price}
use Rattle.auction.proofs.LimitLaws.{kept_ladder, kept_over, seen_over}
use Rattle.auction.proofs.book.counted.LadderBook.show_at.Goals as goal

pub returns-in-Some-clause-display : goal.returns-in-Some-clause-display
returns-in-Some-clause-display c =
    let book = c.args.self.now.book in
    let orders = counted_orders book in
    let kept = subst (λ k. IfSome k (IsKnownOf book)) c.in-Some.is c.requires.known in
    let is = subst (λ r. IsPriceAt r orders c.in-Some.kept) c.if-kept-reference.true
    (known_price book.low book.ticks orders c.in-Some.kept
    (seen_over c.self.inside.orders c.self.inside.ladder c.self.inside.kind c.args.self.now c.self.view_is
    c.self.invariant) kept) in
    c.display.ensures ∙ sym is.displayed ∙ ap (display_of orders) (sym is.found)

pub returns-in_default-clause-known : goal.returns-in_default-clause-known
returns-in_default-clause-known c =
    let kind = c.self.inside.kind in
    let list = orders_of c.self.inside.orders.line in
    let ladder = c.self.inside.ladder in
    let kept = c.self.invariant.kept in
    subst (λ (b : LadderBookView). IsKnownOf b.book c.find-found.result) c.self.view_is
    (c.find-found.ensures.known (auction_orders list kind) (kept_ladder kind list ladder kept)
    (kept_over kind list ladder kept))

pub returns-in_default-clause-display : goal.returns-in_default-clause-display
returns-in_default-clause-display c =
    let book = c.args.self.now.book in
    let orders = counted_orders book in
    let is = subst (λ r. IsPriceAt r orders c.find-found.result) c.find-found.ensures.reference
    (known_price book.low book.ticks orders c.find-found.result
    (seen_over c.self.inside.orders c.self.inside.ladder c.self.inside.kind c.args.self.now c.self.view_is
    c.self.invariant) (returns-in_default-clause-known c)) in
    c.display-in_default.ensures ∙ sym is.displayed ∙ ap (display_of orders) (sym is.found)
