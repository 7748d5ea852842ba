-- Invariants of the loop of `flag_each` (src/lib.rt); rt looks here.
use Rattle.std.proofs.Common.{◌≡◌, ◌≤◌, ◌-◌, length, take}
use Rattle.std.specs.Simd.Lanes.{zip2}
use Rattle.auction_terms.specs.Ladder.{flag_of}
use Rattle.tick_ladder.proofs.flag_each.Given as goal

abbrev pub invariant-places : goal.invariant-places
invariant-places l =
    record {
      within : l.place ≤ length l.bids;
      done : take l.place l.flags ≡ zip2 flag_of (take l.place l.bids) (take l.place l.asks);
    }

abbrev pub decreases-places : goal.decreases-places
decreases-places l = length l.initial.flags - l.place
