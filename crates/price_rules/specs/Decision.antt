-- Which orders decide a price.
use Rattle.std.specs.Simd.Lanes.{zip2}
use Rattle.std.specs.Prelude.{◌≡◌, ℕ, ◌+◌, ◌-◌, ◌<◌, ◌≤◌, List, All, Option, Some, None, length, sum}
use Rattle.auction_terms.specs.declared.Order.{Order}
use Rattle.auction_terms.specs.declared.Side.TheVariants.{Bid, Ask}
use Rattle.auction_terms.specs.declared.Price.{Price}
use Rattle.auction_terms.specs.Book.{limits}
use Rattle.auction_terms.specs.AuctionPrice.{price}
use Rattle.auction_terms.specs.Ladder.{LadderView, quantity_at, market_quantity, flag_of, AreOpen}
use Rattle.tick_ladder.specs.TickLadder.{IsLadderOf}
use Rattle.lanes.specs.Meeting.{before}
use Rattle.price_rules.specs.declared.surroundings.Around.{Around}
use Rattle.price_rules.specs.declared.Decision.{Decision}
use Rattle.price_rules.specs.Around.{IsAround}

-- ---- the orders that decide

-- n ticks from low on are all that the orders have for limits, and each order has something open
pub record IsBookOver (low n : ℕ) (book : List Order) : Type 0 where
  pub within : All (λ tick. (low ≤ tick) × (tick < low + n)) (limits book)
  pub positive : AreOpen book

-- the same quantities, but for bids below one tick and asks above another
pub record IsSameWithin (lowest highest : ℕ) (book other : List Order) : Type 0 where
  pub bids : (t : ℕ) → lowest ≤ t → quantity_at Bid other t ≡ quantity_at Bid book t
  pub asks : (t : ℕ) → t ≤ highest → quantity_at Ask other t ≡ quantity_at Ask book t
  pub market_bids : market_quantity Bid other ≡ market_quantity Bid book
  pub market_asks : market_quantity Ask other ≡ market_quantity Ask book

-- the first place that decides, and the last of n
abbrev pub from_place : Option ℕ → ℕ
from_place None = 0
from_place (Some place) = place

abbrev pub to_place : ℕ → Option ℕ → ℕ
to_place n None = n - 1
to_place n (Some place) = place

-- the ticks of the second limit before the crossing and of the first after it, or the ends of the ladder
abbrev pub AreDecidingTicks : LadderView → Decision → Around → Type 0
AreDecidingTicks v d a =
    IsAround v a × (d.lowest ≡ v.low + from_place a.far) × (d.highest ≡ v.low + to_place (length v.bids) a.after)

-- any book with the same quantities there as a book of the ladder has the same price
abbrev pub DecidesPrice : LadderView → ℕ → Decision → Type 0
DecidesPrice v reference d =
    (book other : List Order)
    → IsLadderOf v book
    → IsBookOver v.low (length v.bids) other
    → IsSameWithin d.lowest d.highest book other
    → d.price ≡ price other reference

-- ---- the ladder of another book

-- the same demand at a place: what comes before it is taken from all bids
abbrev pub IsSameDemand : LadderView → LadderView → ℕ → Type 0
IsSameDemand v w k =
    w.market_bids + sum w.bids + before v.bids k ≡ v.market_bids + sum v.bids + before w.bids k

abbrev pub IsSameSupply : LadderView → LadderView → ℕ → Type 0
IsSameSupply v w k = w.market_asks + before w.asks k ≡ v.market_asks + before v.asks k

-- another ladder with the same demand and supply there
pub record IsNear (v : LadderView) (a : Around) (w : LadderView) : Type 0 where
  pub low : w.low ≡ v.low
  pub long : length w.bids ≡ length v.bids
  pub above : (k : ℕ) → from_place a.far ≤ k → k ≤ length v.bids → IsSameDemand v w k
  pub below : (k : ℕ) → k ≤ to_place (length v.bids) a.after + 1 → IsSameSupply v w k

-- the price of each book whose ladder is near one that has a book
abbrev pub IsPriceNear : LadderView → Around → ℕ → Option Price → Type 0
IsPriceNear v a reference found =
    (w : LadderView) (book other : List Order)
    → IsLadderOf v book
    → IsLadderOf w other
    → w.present ≡ zip2 flag_of w.bids w.asks
    → IsNear v a w
    → found ≡ price other reference
