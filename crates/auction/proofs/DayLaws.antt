-- The book of a day, after each command.
use Rattle.std.proofs.Common.{◌≡◌, ℕ, ◌+◌, ◌*◌, ◌≤◌, List, Option, Some, length, ap, ◌∙◌, arith}
use Rattle.auction_terms.specs.declared.Order.{Order}
use Rattle.auction_terms.specs.declared.AuctionKind.{AuctionKind}
use Rattle.auction_terms.specs.declared.AuctionKind.TheVariants.{Opening, Intraday, Closing}
use Rattle.auction_terms.specs.declared.Config.{Config}
use Rattle.auction_terms.specs.Book.{current_kind}
use Rattle.auction_terms.specs.Day.{next_auction}
use Rattle.auction.specs.OpenOrders.{OpenOrders, in_next_auction}
use Rattle.auction.specs.AuctionState.{IsBookOf, auctions_ended}
use Rattle.auction.proofs.BookLengthLaws.{length-without_restricted}

-- with other orders
pub book_edited : (config : Config) (auction : Option AuctionKind) (old new : OpenOrders) (orders : List Order)
    (entered stamps : ℕ) → IsBookOf config auction old → new ≡ record old {
      orders = orders;
      entered = entered;
      stamps =
          stamps;
    } → length orders ≤ config.max_open → IsBookOf config auction new
book_edited config auction old new orders entered stamps is e few = record {
  low = ap (λ (b : OpenOrders). b.low) e ∙ is.low;
  ticks = ap (λ (b : OpenOrders). b.ticks) e ∙ is.ticks;
  max_open = ap (λ (b : OpenOrders). b.max_open) e ∙ is.max_open;
  max_calls = ap (λ (b : OpenOrders). b.max_calls) e ∙ is.max_calls;
  kind = ap (λ (b : OpenOrders). b.kind) e ∙ is.kind;
  few = omega (arith, ap (λ (b : OpenOrders). length b.orders) e, few);
}

-- the auction has ended
pub book_ended : (config : Config) (kind : AuctionKind) (old new : OpenOrders) → IsBookOf config (Some kind) old
    → new ≡ in_next_auction old → IsBookOf config (next_auction kind) new
book_ended config kind old new is e = record {
  low = ap (λ (b : OpenOrders). b.low) e ∙ is.low;
  ticks = ap (λ (b : OpenOrders). b.ticks) e ∙ is.ticks;
  max_open = ap (λ (b : OpenOrders). b.max_open) e ∙ is.max_open;
  max_calls = ap (λ (b : OpenOrders). b.max_calls) e ∙ is.max_calls;
  kind = ap (λ (b : OpenOrders). b.kind) e ∙ ap (λ k. current_kind (next_auction k)) is.kind;
  few =
      omega (arith, ap (λ (b : OpenOrders). length b.orders) e, length-without_restricted old.kind old.orders, is.few);
}

-- there is room for the trades of each auction of the day
pub ended_more : (kind : AuctionKind) (trades more most : ℕ) → trades ≤ auctions_ended (Some kind) * most → more ≤ most
    → trades + more ≤ auctions_ended (next_auction kind) * most
ended_more Opening trades more most h k = omega arith
ended_more Intraday trades more most h k = omega arith
ended_more Closing trades more most h k = omega arith
