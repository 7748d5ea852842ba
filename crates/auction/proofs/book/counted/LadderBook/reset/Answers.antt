-- Answers of `LadderBook::reset` (src/book/counted/copying.rt): what the prover left open; rt looks here.
use Rattle.std.proofs.Common.{length, ap, arith}
use Rattle.std.proofs.lemmas.Simd.{length-replicate}
use Rattle.std.proofs.lemmas.Grind.{common_steps}
use Rattle.auction_terms.specs.declared.AuctionKind.TheVariants.{Opening}
use Rattle.auction_terms.specs.Auxiliary.StampedOrders.{orders_of}
use Rattle.order_book.specs.Orders.{OrdersView}
use Rattle.auction.proofs.LadderBookLaws.{own_ticks}
use Rattle.auction.proofs.EmptyBookLaws.{empty_kept}
use Rattle.auction.proofs.book.counted.LadderBook.reset.Goals as goal

pub invariant_of-self : goal.invariant_of-self
invariant_of-self c =
    let orders = c.reset.ensures in
    record {
      kept =
          own_ticks
          (empty_kept _ _ Opening c.reset.new.self.line c.reset-2.new.self (ap (λ (o : OrdersView). o.line) orders)
          c.reset-2.ensures);
      few = omega (arith, ap (λ (o : OrdersView). length (orders_of o.line)) orders);
      small = omega (arith, ap (λ (o : OrdersView). o.max_open) orders, c.self.invariant.small);
    }

pub returns : goal.returns
returns c = grind (arith, common_steps, length-replicate)
