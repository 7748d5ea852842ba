-- A book without orders.
use Rattle.std.proofs.Common.{◌≡◌, ℕ, zero, suc, ◌+◌, List, [], replicate, refl, arith}
use Rattle.std.proofs.lemmas.List.Elements.{All-nil}
use Rattle.std.proofs.lemmas.Grind.{common_steps}
use Rattle.auction_terms.specs.declared.Stamped.{Stamped}
use Rattle.auction_terms.specs.declared.AuctionKind.{AuctionKind}
use Rattle.auction_terms.specs.Auxiliary.StampedOrders.{orders_of}
use Rattle.auction_terms.specs.Ladder.{LadderView, tick_values, ladder_of}
use Rattle.auction.specs.LadderBook.{HasLadder}

pub spread_zero : (f : ℕ → ℕ) (a n : ℕ) → ((t : ℕ) → f t ≡ 0) → tick_values f a n ≡ replicate n 0
spread_zero f a zero none = refl
spread_zero f a (suc n) none = let first = none a in let rest = spread_zero f (a + 1) n none in cc

empty_ladder : (low n : ℕ) → ladder_of low n [] ≡ record {
  low = low;
  bids = replicate n 0;
  asks =
      replicate n 0;
  present = replicate n 0;
  market_bids = 0;
  market_asks = 0;
}
unfolding ladder_of
empty_ladder low n = grind (arith, common_steps, spread_zero)

pub empty_kept : (low n : ℕ) (kind : AuctionKind) (line : List Stamped) (ladder : LadderView) → line ≡ []
    → ladder ≡ record {
      low = low;
      bids = replicate n 0;
      asks = replicate n 0;
      present = replicate n 0;
      market_bids =
          0;
      market_asks = 0;
    } → HasLadder low n kind (orders_of line) ladder
empty_kept low n kind line ladder e is = grind (arith, common_steps, All-nil, empty_ladder)
