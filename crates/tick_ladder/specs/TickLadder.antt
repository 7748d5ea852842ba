-- What is in a ladder, and the books that it is the ladder of.
use Rattle.std.specs.Prelude.{◌≡◌, ℕ, ◌+◌, ◌-◌, ◌<◌, ◌≤◌, List, [], ◌∷◌, All, Option, filter, length, nat_lt, sum}
use Rattle.std.specs.Prelude.{replicate, if◌then◌else◌}
use Rattle.std.specs.Simd.Lanes.{zip2}
use Rattle.auction_terms.specs.declared.limits.TheConstants.{MAX_TICK, MAX_TICKS, MAX_TOTAL}
use Rattle.auction_terms.specs.declared.Side.{Side}
use Rattle.auction_terms.specs.declared.Side.TheVariants.{Bid, Ask}
use Rattle.auction_terms.specs.declared.Limit.{Limit}
use Rattle.auction_terms.specs.declared.Order.{Order}
use Rattle.auction_terms.specs.Book.{limits, is_bid, is_ask}
use Rattle.auction_terms.specs.AuctionPrice.{highest, lowest}
use Rattle.auction_terms.specs.Ladder.{LadderView, ladder_of, flag_of, IsTickOf}
use Rattle.tick_ladder.specs.declared.Ladder.TheInside.{Inside}

-- what the fields mean
abbrev pub ladder_view : Inside → LadderView
ladder_view a = record {
  low = a.low;
  bids = a.bids;
  asks = a.asks;
  present = zip2 flag_of a.bids a.asks;
  market_bids = a.market_bids;
  market_asks = a.market_asks;
}

-- all quantities
abbrev pub total_quantity : LadderView → ℕ
total_quantity view = view.market_bids + view.market_asks + sum view.bids + sum view.asks

-- what holds of every ladder
pub record IsLadder (view : LadderView) : Type 0 where
  pub same : length view.asks ≡ length view.bids
  pub some : 0 < length view.bids
  pub few : length view.bids ≤ MAX_TICKS
  pub last : view.low + length view.bids ≤ MAX_TICK + 1
  pub flags : view.present ≡ zip2 flag_of view.bids view.asks
  pub all : total_quantity view ≤ MAX_TOTAL

-- the ladder of no order
abbrev pub empty_ladder : ℕ → ℕ → LadderView
empty_ladder low high = record {
  low = low;
  bids = replicate (high + 1 - low) 0;
  asks = replicate (high + 1 - low) 0;
  present = replicate (high + 1 - low) 0;
  market_bids = 0;
  market_asks = 0;
}

-- they are of the same ticks
abbrev pub HasSameTicks : LadderView → LadderView → Type 0
HasSameTicks view other = (other.low ≡ view.low) × (length other.bids ≡ length view.bids)

-- the ladder with the same ticks, and no order
abbrev pub emptied_ladder : LadderView → LadderView
emptied_ladder view = record {
  low = view.low;
  bids = replicate (length view.bids) 0;
  asks = replicate (length view.bids) 0;
  present = replicate (length view.bids) 0;
  market_bids = 0;
  market_asks = 0;
}

-- the limit is a tick of the ladder
abbrev pub IsInBounds : LadderView → Limit → Type 0
IsInBounds view limit = IsTickOf view.low (length view.bids) limit

-- the ladder is that of the orders, whose limits are all among its ticks
pub record IsLadderOf (ladder : LadderView) (book : List Order) : Type 0 where
  pub within : All (λ tick. (ladder.low ≤ tick) × (tick < ladder.low + length ladder.bids)) (limits book)
  pub same : ladder ≡ ladder_of ladder.low (length ladder.bids) book

-- P holds of each book whose ladder it is
abbrev pub OfEachBook : LadderView → (List Order → Type 0) → Type 0
OfEachBook ladder P = (book : List Order) → IsLadderOf ladder book → P book

-- the ticks with a number above 0, if the first number is that of the tick low
abbrev pub positive_ticks : ℕ → List ℕ → List ℕ
positive_ticks low [] = []
positive_ticks low (x ∷ xs) = if nat_lt 0 x then low ∷ positive_ticks (low + 1) xs else positive_ticks (low + 1) xs

-- the highest tick with bids, the lowest with asks
abbrev pub best_tick : LadderView → Side → Option ℕ
best_tick view Bid = highest (positive_ticks view.low view.bids)
best_tick view Ask = lowest (positive_ticks view.low view.asks)

-- the highest limit of a bid, the lowest of an ask
abbrev pub best_limit : List Order → Side → Option ℕ
best_limit book Bid = highest (limits (filter is_bid book))
best_limit book Ask = lowest (limits (filter is_ask book))
