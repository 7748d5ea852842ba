-- The limits of the orders that count are ticks of the ladder that is kept.
use Rattle.std.proofs.Common.{◌≡◌, ℕ, ◌+◌, ◌<◌, ◌≤◌, List, [], ◌∷◌, All, length, subst, arith}
use Rattle.std.proofs.lemmas.List.Elements.{All-nil, All-cons, All-head, All-tail, All-filter}
use Rattle.std.proofs.lemmas.Grind.{common_steps}
use Rattle.auction_terms.specs.declared.Order.{Order}
use Rattle.auction_terms.specs.declared.AuctionKind.{AuctionKind}
use Rattle.auction_terms.specs.Book.{participates_in, auction_orders, limits}
use Rattle.auction_terms.specs.Auxiliary.StampedOrders.{orders_of}
use Rattle.auction_terms.specs.Ladder.{LadderView}
use Rattle.order_book.specs.Orders.{OrdersView as Orders}
use Rattle.tick_ladder.specs.TickLadder.{IsLadderOf}
use Rattle.price_rules.specs.Decision.{IsBookOver}
use Rattle.auction.specs.OpenOrders.{counted_orders}
use Rattle.auction.specs.LadderBook.{LadderBookView, ladder_book_view, HasLadder, IsLadderBook}
use Rattle.auction.proofs.LadderBookLaws.{HasTick, open_counted}

abbrev IsAmong : ℕ → ℕ → ℕ → Type 0
IsAmong low n tick = (low ≤ tick) × (tick < low + n)

all_limits : (low n : ℕ) (book : List Order) → All (HasTick low n) book → All (IsAmong low n) (limits book)
unfolding limits
all_limits low n [] all = All-nil (IsAmong low n)
all_limits low n (o ∷ book) all =
    grind (
      arith,
      common_steps,
      All-head,
      All-tail,
      All-cons,
      (all_limits low n book (All-tail (HasTick low n) o book all)),
    )

pub kept_ladder : (kind : AuctionKind) (book : List Order) (ladder : LadderView)
    → HasLadder ladder.low (length ladder.bids) kind book ladder → IsLadderOf ladder (auction_orders book kind)
kept_ladder kind book ladder is = record {
  within =
      all_limits ladder.low (length ladder.bids) (auction_orders book kind)
      (All-filter (participates_in kind) (HasTick ladder.low (length ladder.bids)) book is.within);
  same = is.same;
}

pub kept_over : (kind : AuctionKind) (book : List Order) (ladder : LadderView)
    → HasLadder ladder.low (length ladder.bids) kind book ladder
    → IsBookOver ladder.low (length ladder.bids) (auction_orders book kind)
kept_over kind book ladder is =
    record { within = (kept_ladder kind book ladder is).within; positive = open_counted kind book is.orderly }

pub seen_over : (orders : Orders) (ladder : LadderView) (kind : AuctionKind) (now : LadderBookView)
    → ladder_book_view orders ladder kind ≡ now → IsLadderBook orders ladder kind
    → IsBookOver now.book.low now.book.ticks (counted_orders now.book)
seen_over orders ladder kind now seen is =
    subst (λ (b : LadderBookView). IsBookOver b.book.low b.book.ticks (counted_orders b.book)) seen
    (kept_over kind (orders_of orders.line) ladder is.kept)
