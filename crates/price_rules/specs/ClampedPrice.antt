-- The price that the best limits and the reference give.
use Rattle.std.specs.Int.{abs_diff}
use Rattle.std.specs.Prelude.{ℕ, min, if◌then◌else◌, Option, Some, None, nat_le, nat_lt}
use Rattle.auction_terms.specs.declared.Price.{Price}
use Rattle.auction_terms.specs.declared.Side.{Side}
use Rattle.auction_terms.specs.declared.Side.TheVariants.{Bid, Ask}
use Rattle.auction_terms.specs.Auxiliary.BestTicks.{Leaders}
use Rattle.auction_terms.specs.Ladder.{LadderView}

-- a kept limit, with the surplus on this side if there is one
abbrev pub sided : Leaders → ℕ → Side → Price
sided leaders p side = record {
  tick = p;
  volume = leaders.volume;
  surplus = leaders.surplus;
  side = if nat_lt 0 leaders.surplus then Some side else None;
}

-- a tick between the kept limits
abbrev pub even : Leaders → ℕ → Price
even leaders p = record { tick = p; volume = leaders.volume; surplus = 0; side = None }

abbrev pub price_between : Leaders → Option ℕ → Option ℕ → ℕ → Option Price
price_between leaders None None r = None
price_between leaders (Some low) None r = Some (sided leaders low Bid)
price_between leaders None (Some high) r = Some (sided leaders high Ask)
price_between leaders (Some low) (Some high) r =
    Some (
    if nat_le high r then sided leaders high Ask
    else (if nat_le r low then sided leaders low Bid else even leaders r)
    )

abbrev pub price_from : Leaders → ℕ → Option Price
price_from leaders r = price_between leaders leaders.lower leaders.upper r

-- the price at a tick with this demand and supply
abbrev pub priced_by : ℕ → ℕ → ℕ → Price
priced_by p d s = record {
  tick = p;
  volume = min d s;
  surplus = abs_diff d s;
  side = if nat_lt s d then Some Bid else (if nat_lt d s then Some Ask else None);
}

-- the price of market orders alone
abbrev pub market_priced : LadderView → ℕ → Option Price
market_priced v r =
    if nat_lt 0 (min v.market_bids v.market_asks)
    then Some (priced_by r v.market_bids v.market_asks)
    else None
