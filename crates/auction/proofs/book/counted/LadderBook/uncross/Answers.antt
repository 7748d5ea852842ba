-- Answers of `LadderBook::uncross` (src/book/counted/executing.rt): what the prover left open; rt looks here.
use Rattle.std.proofs.Common.{◌≡◌, ◌≤◌, length, sym, ap, subst, ◌∙◌, arith}
use Rattle.auction_terms.specs.declared.limits.TheConstants.{MAX_OPEN_ORDERS}
use Rattle.auction_terms.specs.Auxiliary.StampedOrders.{orders_of}
use Rattle.auction_terms.specs.Auxiliary.OrderLists.{book_after_fills, AreExecutable}
use Rattle.auction_terms.specs.Allotment.{rest_in, trades}
use Rattle.auction_terms.proofs.ReduceLaws.{fills_executable}
use Rattle.auction_terms.proofs.RestIdLaws.{rest_in_turn}
use Rattle.auction.specs.Executions.{AreSmall}
use Rattle.auction.specs.LadderBook.{LadderBookView}
use Rattle.auction.specs.OpenOrders.{counted_orders}
use Rattle.auction.proofs.AuctionEndLaws.{few_trades}
use Rattle.auction.proofs.ExecutionLaws.{small_trades}
use Rattle.auction.proofs.book.counted.LadderBook.uncross.Goals as goal

pub execute-requires : goal.execute-requires
execute-requires c =
    let list = orders_of c.self.inside.orders.line in
    subst (λ (b : LadderBookView). AreExecutable c.fills.result.now b.book.orders) c.self.view_is
    (subst (λ fs. AreExecutable fs list) (sym (c.fills.ensures ∙ c.allocate.ensures.fills))
    (fills_executable c.self.inside.kind list c.args.price c.self.invariant.kept.orderly))

pub returns-clause-book : goal.returns-clause-book
returns-clause-book c =
    let list = orders_of c.self.inside.orders.line in
    let old = c.args.self.now.book in
    c.execute.ensures
    ∙ ap (λ l. record old { orders = l })
    (subst (λ (b : LadderBookView). book_after_fills c.fills.result.now b.book.orders
    ≡ rest_in b.book.kind b.book.orders c.args.price) c.self.view_is
    (ap (λ fs. book_after_fills fs list) (c.fills.ensures ∙ c.allocate.ensures.fills)
    ∙ rest_in_turn c.self.inside.kind list c.args.price c.self.invariant.kept.orderly))

pub returns-clause-few : goal.returns-clause-few
returns-clause-few c =
    subst (λ (b : LadderBookView). length (trades (counted_orders b.book) c.args.price) ≤ length b.book.orders)
    c.self.view_is
    (few_trades c.self.inside.kind (orders_of c.self.inside.orders.line) c.args.price _ c.allocate.ensures.few_trades)

pub returns-clause-bounded : goal.returns-clause-bounded
returns-clause-bounded c =
    let list = orders_of c.self.inside.orders.line in
    subst (λ (b : LadderBookView). length (trades (counted_orders b.book) c.args.price) ≤ MAX_OPEN_ORDERS)
    c.self.view_is
    (omega (
      arith,
      few_trades c.self.inside.kind list c.args.price _ c.allocate.ensures.few_trades,
      c.self.invariant.few,
      c.self.invariant.small,
    ))

pub returns-clause-small : goal.returns-clause-small
returns-clause-small c =
    subst (λ (b : LadderBookView). AreSmall (trades (counted_orders b.book) c.args.price)) c.self.view_is
    (small_trades c.self.inside.kind (orders_of c.self.inside.orders.line) c.args.price c.self.invariant.kept.orderly)
