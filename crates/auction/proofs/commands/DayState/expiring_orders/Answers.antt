-- Answers of `DayState::expiring_orders` (src/commands/expiring.rt): what the prover left open; rt looks here.
use Rattle.std.proofs.Common.{◌≡◌, ◌≤◌, ℕ, ◌+◌, ◌*◌, ◌++◌, Bool, false, List, Option, Some, None, length, sym, ap}
use Rattle.std.proofs.Common.{subst, ◌∙◌, arith, length-append}
use Rattle.std.proofs.lemmas.Grind.{common_steps}
use Rattle.std.proofs.lemmas.List.Elements.{All-append}
use Rattle.std.specs.Prelude.{IfOk}
use Rattle.auction_terms.specs.declared.limits.TheConstants.{MAX_QUANTITY}
use Rattle.auction_terms.specs.declared.AuctionKind.{AuctionKind}
use Rattle.auction_terms.specs.declared.AuctionKind.TheVariants.{Opening, Intraday, Closing}
use Rattle.auction_terms.specs.declared.Order.{Order}
use Rattle.auction_terms.specs.declared.Trade.{Trade}
use Rattle.auction_terms.specs.Allotment.{rest_in, trades}
use Rattle.auction_terms.specs.AuctionPrice.{price}
use Rattle.auction_terms.specs.Book.{auction_orders, current_kind}
use Rattle.auction_terms.specs.Day.{State, is_interrupted, next_auction}
use Rattle.auction_terms.specs.Priority.{listed, orders_expiring, restricted_to}
use Rattle.auction.specs.AuctionState.{AuctionState, auctions_ended}
use Rattle.auction.specs.Executions.{AreSmall}
use Rattle.auction.specs.OpenOrders.{OpenOrders}
use Rattle.auction.proofs.DayLaws.{ended_more}
use Rattle.auction.proofs.ExpiringLaws.{expiring_at_price, expiring_without_price}
use Rattle.auction.proofs.commands.DayState.expiring_orders.Goals as goal

abbrev state_of : List Order → ℕ → ℕ → List Trade → Option AuctionKind → Bool → State
state_of book reference next tape auction extended = record {
  book = book;
  reference = reference;
  next_id = next;
  tape = tape;
  auction = auction;
  extended = extended;
}

-- no more auctions than three end
ended_most : (auction : Option AuctionKind) (most : ℕ) → auctions_ended auction * most ≤ 3 * most
ended_most None most = omega arith
ended_most (Some Opening) most = omega arith
ended_most (Some Intraday) most = omega arith
ended_most (Some Closing) most = omega arith

pub returns-in-None : goal.returns-in-None
returns-in-None c =
    let fields = c.self.inside in
    let kind_is = c.self.invariant.same.kind ∙ ap current_kind c.in-Some.is in
    let none = subst (λ (b : OpenOrders). price (auction_orders b.orders b.kind) fields.reference ≡ None)
    c.in_ok-book.ensures (sym c.price.ensures.price ∙ c.in-None.is) in
    let unpriced = subst (λ k. price (auction_orders fields.book.orders k) fields.reference ≡ None) kind_is none in
    let state = state_of fields.book.orders fields.reference (fields.book.entered + 1) fields.tape.items fields.auction
    fields.extended in
    let rule = expiring_without_price fields.config state c.in-Some.kind c.in-Some.is unpriced in
    let orders = ap (λ (b : OpenOrders). b.orders) (c.price.ensures.book ∙ c.in_ok-book.ensures) in
    let same =
    ap (λ l. restricted_to c.in-Some.kind (listed None l c.deref.result.now)) orders
    ∙ ap (λ l. restricted_to c.in-Some.kind (listed None fields.book.orders l)) c.deref.ensures.value ∙ sym rule in
    subst (λ (a : AuctionState). IfOk c.list_restricted.result (λ l. l.items ≡ orders_expiring a.config a.state))
    c.self.view_is (subst (λ l. IfOk c.list_restricted.result (λ v. v.items ≡ l)) same c.list_restricted.ensures)

pub uncross-requires : goal.uncross-requires
uncross-requires c =
    let inside = c.self.invariant in
    let fields = c.self.inside in
    let most = fields.config.max_open in
    let before = subst (λ a. length fields.tape.items ≤ auctions_ended a * most) c.in-Some.is inside.trades in
    let after = ended_more c.in-Some.kind (length fields.tape.items) most most before (omega arith) in
    let same = ap length c.in_ok-tape-in-Some-2.ensures.items ∙ ap length c.deref-in-Some-2.ensures.value in
    let book = ap (λ (b : OpenOrders). length b.orders) (c.price.ensures.book ∙ c.in_ok-book.ensures) in
    grind (arith, common_steps)

pub list_restricted-requires-in-Some-2-clause-few : goal.list_restricted-requires-in-Some-2-clause-few
list_restricted-requires-in-Some-2-clause-few c =
    let inside = c.self.invariant in
    let fields = c.self.inside in
    let most = fields.config.max_open in
    let before = subst (λ a. length fields.tape.items ≤ auctions_ended a * most) c.in-Some.is inside.trades in
    let old = c.price.ensures.book ∙ c.in_ok-book.ensures in
    let few = c.uncross.ensures.few in
    let count = c.uncross.ensures.count in
    let orders = ap (λ (b : OpenOrders). length b.orders) old in
    let made : c.uncross.result ≤ most = omega (arith, few, orders, inside.same.few) in
    let after = ended_more c.in-Some.kind (length fields.tape.items) c.uncross.result most before made in
    let end = ended_most (next_auction c.in-Some.kind) most in
    let tape = ap length (c.deref-in-Some-2-2.ensures.value ∙ c.uncross.ensures.tape) in
    let long = length-append c.in_ok-tape-in-Some-2.tape.items
    (trades (auction_orders c.price.new.self.orders c.price.new.self.kind) c.in-Some-price.price.tick) in
    let copied = ap length (c.in_ok-tape-in-Some-2.ensures.items ∙ c.deref-in-Some-2.ensures.value) in
    let room = ap (λ (b : OpenOrders). b.max_open) (c.uncross.ensures.book) in
    let had = ap (λ (b : OpenOrders). b.max_open) old in
    omega (arith, after, end, tape, long, copied, room, had, count, inside.same.max_open)

pub list_restricted-requires-in-Some-2-clause-small : goal.list_restricted-requires-in-Some-2-clause-small
list_restricted-requires-in-Some-2-clause-small c =
    subst AreSmall (sym (c.deref-in-Some-2-2.ensures.value ∙ c.uncross.ensures.tape))
    (All-append (λ (t : Trade). t.quantity ≤ MAX_QUANTITY) c.in_ok-tape-in-Some-2.tape.items _
    (subst AreSmall (sym (c.in_ok-tape-in-Some-2.ensures.items ∙ c.deref-in-Some-2.ensures.value))
    c.self.invariant.small)
    c.uncross.ensures.small)

pub returns : goal.returns
returns c =
    let fields = c.self.inside in
    let priced = c.in-Some-price.price in
    let kind_is = c.self.invariant.same.kind ∙ ap current_kind c.in-Some.is in
    let found = subst (λ (b : OpenOrders). price (auction_orders b.orders b.kind) fields.reference ≡ Some priced)
    c.in_ok-book.ensures (sym c.price.ensures.price ∙ c.in-Some-price.is) in
    let at_kind =
    subst (λ k. price (auction_orders fields.book.orders k) fields.reference ≡ Some priced) kind_is found in
    let state = state_of fields.book.orders fields.reference (fields.book.entered + 1) fields.tape.items fields.auction
    fields.extended in
    let goes_on = sym c.is_interrupted.ensures ∙ c.if-is_interrupted.false in
    let interrupted = subst (λ (a : AuctionState). is_interrupted a.config a.state priced.tick ≡ false)
    (sym c.self.view_is) goes_on in
    let rule = expiring_at_price fields.config state c.in-Some.kind c.in-Some.is priced at_kind interrupted in
    let old = c.price.ensures.book ∙ c.in_ok-book.ensures in
    let left = ap (λ (b : OpenOrders). b.orders) c.uncross.ensures.book
    ∙ ap (λ (b : OpenOrders). rest_in b.kind b.orders priced.tick) old
    ∙ ap (λ k. rest_in k fields.book.orders priced.tick) kind_is in
    let tape = c.deref-in-Some-2-2.ensures.value ∙ c.uncross.ensures.tape
    ∙ ap (λ l. l ++ trades (auction_orders c.price.new.self.orders c.price.new.self.kind) priced.tick)
    (c.in_ok-tape-in-Some-2.ensures.items ∙ c.deref-in-Some-2.ensures.value)
    ∙ ap (λ (b : OpenOrders). fields.tape.items ++ trades (auction_orders b.orders b.kind) priced.tick) old
    ∙ ap (λ k. fields.tape.items ++ trades (auction_orders fields.book.orders k) priced.tick) kind_is in
    let same =
    ap (λ l. restricted_to c.in-Some.kind (listed None l c.deref-in-Some-2-2.result.now)) left
    ∙ ap (λ l. restricted_to c.in-Some.kind
    (listed None (rest_in c.in-Some.kind fields.book.orders priced.tick) l)) tape
    ∙ sym rule in
    subst (λ (a : AuctionState).
    IfOk c.list_restricted-in-Some-2.result (λ l. l.items ≡ orders_expiring a.config a.state))
    c.self.view_is
    (subst (λ l. IfOk c.list_restricted-in-Some-2.result (λ v. v.items ≡ l)) same c.list_restricted-in-Some-2.ensures)
