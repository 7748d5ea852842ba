-- Invariants of the loops of `LadderBook::admit` (src/book/counted/ending.rt); rt looks here.
use Rattle.std.proofs.Common.{◌≡◌, All, length, take}
use Rattle.auction_terms.specs.Auxiliary.StampedOrders.{orders_of}
use Rattle.auction_terms.specs.Ladder.{ladder_of}
use Rattle.order_book.specs.Orders.{present}
use Rattle.auction.proofs.LadderBookLaws.{IsOpen}
use Rattle.auction.proofs.AdmissionLaws.{closing, admitted}
use Rattle.auction.proofs.book.counted.LadderBook.admit.Given as goal

abbrev pub invariant-loop-place : goal.invariant-loop-place
invariant-loop-place l = record {
  same : l.self-inside.ladder ≡ ladder_of l.initial.self-inside.ladder.low (length l.initial.self-inside.ladder.bids)
      (admitted (orders_of l.self-inside.orders.line) (present (take l.place l.self-inside.orders.slots)));
  still_open : All IsOpen (closing (present (take l.place l.self-inside.orders.slots)));
  orders : l.self-inside.orders ≡ l.initial.self-inside.orders;
  kind : l.self-inside.kind ≡ l.initial.self-inside.kind;
}
