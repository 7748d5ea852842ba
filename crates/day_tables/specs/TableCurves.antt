-- Demand, supply, volume and surplus tick by tick.
use Rattle.std.specs.Prelude.{◌≡◌, ℕ, List, Some, IfSome, length}
use Rattle.auction_terms.specs.declared.Order.{Order}
use Rattle.auction_terms.specs.Book.{demand, supply, volume, surplus, limits}
use Rattle.auction_terms.specs.AuctionPrice.{best_limits, price_tick}
use Rattle.auction_terms.specs.Ladder.{tick_values}
use Rattle.price_rules.specs.declared.candidates.Lanes.{Lanes}
use Rattle.price_rules.specs.Candidates.{AreCandidates, AreMarked}
use Rattle.day_tables.specs.declared.curves.Curves.{Curves}
use Rattle.day_tables.specs.declared.rule.Rule.{Rule}
use Rattle.day_tables.specs.DecidingRule.{rule_of}

-- room for `ticks` ticks
pub record HasRoomForTicks (ticks : ℕ) (curves : Curves) : Type 0 where
  pub demands : length curves.demands.items ≡ ticks
  pub supplies : length curves.supplies.items ≡ ticks
  pub volumes : length curves.volumes.items ≡ ticks
  pub surpluses : length curves.surpluses.items ≡ ticks
  pub best : length curves.best.items ≡ ticks

-- n ticks from low on
abbrev pub ticks_from : ℕ → ℕ → List ℕ
ticks_from low n = tick_values (λ tick. tick) low n

-- tick by tick what the definitions say, and a flag at each best limit
pub record AreCurves (low n : ℕ) (curves : Curves) (book : List Order) : Type 0 where
  pub demands : curves.demands.items ≡ tick_values (demand book) low n
  pub supplies : curves.supplies.items ≡ tick_values (supply book) low n
  pub volumes : curves.volumes.items ≡ tick_values (volume book) low n
  pub surpluses : curves.surpluses.items ≡ tick_values (surplus book) low n
  pub best : AreMarked (ticks_from low n) curves.best.items (best_limits book)
  pub flags : length curves.best.items ≡ n

-- numbers tick by tick, with the flags of limits
abbrev pub curve_lanes : List ℕ → List ℕ → List ℕ → List ℕ → Lanes
curve_lanes ticks demands supplies flags = record {
  ticks = ticks;
  demands = demands;
  supplies = supplies;
  flags = flags;
}

-- of the flags that mark the limits of a book those are left that mark the best
abbrev pub LeavesBest : List ℕ → List ℕ → List ℕ → List ℕ → Type 0
LeavesBest demands supplies old new =
    (ticks : List ℕ) (book : List Order)
    → AreCandidates book (curve_lanes ticks demands supplies old)
    → AreMarked ticks old (limits book)
    → AreMarked ticks new (best_limits book)

-- where there is a price, it is the rule that decides
abbrev pub IsDecidingRule : List Order → Rule → Type 0
IsDecidingRule book rule = (reference : ℕ) → IfSome (price_tick book reference) (λ tick. rule_of book ≡ Some rule)
