-- Invariants of the loops of `in_priority` (src/listing.rt); rt looks here.
use Rattle.std.proofs.Common.{◌≡◌, take}
use Rattle.order_book.specs.Orders.{present}
use Rattle.allocation.specs.Claim.{AreNarrow}
use Rattle.allocation.specs.Listing.{ranked_orders_of}
use Rattle.allocation.proofs.listing.in_priority.Given as goal

abbrev pub invariant-loop-place : goal.invariant-loop-place
invariant-loop-place l = record {
  items : l.ranked.items ≡ ranked_orders_of l.listed (present (take l.place l.orders.slots));
  narrow : AreNarrow (present (take l.place l.orders.slots));
}
