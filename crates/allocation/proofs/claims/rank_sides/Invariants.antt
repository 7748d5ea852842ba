-- Invariants of the loops of `rank_sides` (src/claims.rt); rt looks here.
use Rattle.std.proofs.Common.{◌≡◌, ◌≤◌, take, length, vec_len, vec_capacity}
use Rattle.order_book.specs.Orders.{present}
use Rattle.allocation.specs.Claim.{claims_of, AreNarrow}
use Rattle.allocation.proofs.claims.rank_sides.Given as goal

-- each side has the claims of the places so far
abbrev pub invariant-loop-place : goal.invariant-loop-place
invariant-loop-place l = record {
  bids : l.bids.items ≡ claims_of l.bidders (present (take l.place l.orders.slots));
  asks : l.asks.items ≡ claims_of l.askers (present (take l.place l.orders.slots));
  narrow : AreNarrow (present (take l.place l.orders.slots));
  few_bids : vec_len l.bids ≤ length (present (take l.place l.orders.slots));
  few_asks : vec_len l.asks ≤ length (present (take l.place l.orders.slots));
  bids_capacity : vec_capacity l.bids ≡ vec_capacity l.fn.bids;
  asks_capacity : vec_capacity l.asks ≡ vec_capacity l.fn.asks;
}
