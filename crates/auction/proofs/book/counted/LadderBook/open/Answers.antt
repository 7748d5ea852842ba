-- Answers of `LadderBook::open` (src/book/counted.rt): what the prover left open; rt looks here.
use Rattle.std.proofs.Common.{length, ap, arith}
use Rattle.auction_terms.specs.declared.AuctionKind.TheVariants.{Opening}
use Rattle.auction_terms.specs.Auxiliary.StampedOrders.{orders_of}
use Rattle.auction.proofs.LadderBookLaws.{own_ticks}
use Rattle.auction.proofs.EmptyBookLaws.{empty_kept}
use Rattle.auction.proofs.ConfigFaultLaws.{terms_within}
use Rattle.auction.proofs.book.counted.LadderBook.open.Goals as goal

pub open-requires-clause-open_orders : goal.open-requires-clause-open_orders
open-requires-clause-open_orders c = let h = terms_within c.args.config c.requires in (h.some_open, h.few_open)

pub open-requires-clause-calls : goal.open-requires-clause-calls
open-requires-clause-calls c = let h = terms_within c.args.config c.requires in (h.some_calls, h.calls)

pub open-requires-2-clause-ordered : goal.open-requires-2-clause-ordered
open-requires-2-clause-ordered c = let h = terms_within c.args.config c.requires in omega (arith, h.low, h.high)

pub open-requires-2-clause-bounded : goal.open-requires-2-clause-bounded
open-requires-2-clause-bounded c = (terms_within c.args.config c.requires).last

pub open-requires-2-clause-few : goal.open-requires-2-clause-few
open-requires-2-clause-few c = let h = terms_within c.args.config c.requires in omega (arith, h.low, h.high, h.ticks)

pub invariant_of-result : goal.invariant_of-result
invariant_of-result c =
    let h = terms_within c.args.config c.requires in
    let none = ap (λ l. length (orders_of l)) c.in_ok-open.ensures.empty in
    record {
      kept =
          own_ticks (empty_kept _ _ Opening c.in_ok-open.field-0.line c.in_ok-open-2.field-0 c.in_ok-open.ensures.empty
          c.in_ok-open-2.ensures);
      few = omega arith;
      small = omega (arith, h.few_open, c.in_ok-open.ensures.max_open);
    }
