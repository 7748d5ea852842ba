-- Answers of `LadderBook::execute` (src/book/counted/executing.rt): what the prover left open; rt looks here.
use Rattle.std.proofs.Common.{sym, ap, slice_index_or, ◌∙◌}
use Rattle.auction_terms.specs.Auxiliary.OrderLists.{book_after_fill}
use Rattle.auction.specs.OpenOrders.{OpenOrders}
use Rattle.auction.proofs.FillTurnLaws.{next_fill, reduced_more}
use Rattle.auction.proofs.book.counted.LadderBook.execute.Goals as goal

pub execute_one-requires : goal.execute_one-requires
execute_one-requires c =
    next_fill c.args.fills.now c.loop-fill.fill-index _ c.args.self.now.book.orders c.loop-fill.self.book.orders
    c.loop-fill-test.true c.requires
    (ap (λ (b : OpenOrders). b.orders) c.loop-fill.invariant)

pub loop-fill-preserved : goal.loop-fill-preserved
loop-fill-preserved c =
    let fills = c.args.fills.now in
    let old = c.args.self.now.book in
    let was = c.loop-fill.invariant in
    let next = ap (λ (b : OpenOrders). b.orders) c.execute_one.ensures in
    let more =
    reduced_more fills c.loop-fill.fill-index _ old.orders c.loop-fill.self.book.orders
    c.execute_one.new.self.book.orders c.loop-fill-test.true (ap (λ (b : OpenOrders). b.orders) was) next in
    c.execute_one.ensures
    ∙ ap (λ (b : OpenOrders). record b {
      orders =
          book_after_fill (slice_index_or fills c.loop-fill.fill-index (record { id = 0; quantity = 0 }))
          c.loop-fill.self.book.orders;
    }) was
    ∙ ap (λ l. record old { orders = l }) (sym next ∙ more)
