-- Invariants of the loops of `pair_off` (src/pairing.rt); rt looks here.
use Rattle.std.proofs.Common.{◌≡◌, ◌≤◌, ◌+◌, ◌-◌, ◌++◌, length, vec_len, vec_capacity}
use Rattle.auction_terms.specs.Auxiliary.RankedFills.{paired_trades}
use Rattle.allocation.proofs.PairOffLaws.{taken_by}
use Rattle.allocation.proofs.pairing.pair_off.Given as goal

abbrev pub invariant-loop-bid : goal.invariant-loop-bid
invariant-loop-bid l = record {
  items : l.tape.items ++ paired_trades l.tick (taken_by l.tape.items - taken_by l.fn.tape.items) l.bids l.asks
      ≡ l.fn.tape.items ++ paired_trades l.tick 0 l.fn.bids l.fn.asks;
  more : taken_by l.fn.tape.items ≤ taken_by l.tape.items;
  few : vec_len l.tape + length l.bids + length l.asks
      ≤ vec_len l.fn.tape + length l.fn.bids + length l.fn.asks;
  fewer : length l.bids + length l.asks ≡ 0
      → vec_len l.tape ≤ vec_len l.fn.tape + (length l.fn.bids + length l.fn.asks - 1);
  capacity : vec_capacity l.tape ≡ vec_capacity l.fn.tape;
}

abbrev pub decreases-loop-bid : goal.decreases-loop-bid
decreases-loop-bid l = length l.bids + length l.asks
