-- Invariants of the loops of `LadderBook::dismiss` (src/book/counted/ending.rt); rt looks here.
use Rattle.std.proofs.Common.{◌≡◌, ℕ, ◌<◌, ◌≤◌, None}
use Rattle.order_book.specs.Orders.{slot_at}
use Rattle.auction.specs.LadderBook.{HasAllOrders, HasNoRestrictedAt, HasSameStaying}
use Rattle.auction.proofs.book.counted.LadderBook.dismiss.Given as goal

abbrev pub invariant-loop-place : goal.invariant-loop-place
invariant-loop-place l = record {
  stay : HasSameStaying l.fn.self.book l.self.book;
  walk : HasAllOrders l.self;
  passed : (p : ℕ) → p < l.place → HasNoRestrictedAt l.self p;
  past : (p : ℕ) → l.place-end ≤ p → slot_at l.self.slots p ≡ None;
}
