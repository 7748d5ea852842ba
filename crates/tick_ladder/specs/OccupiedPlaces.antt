-- Where the numbers of a list lie, and where bids meet asks.
use Rattle.std.specs.Prelude.{◌≡◌, ℕ, ◌+◌, ◌<◌, ◌≤◌, ◌⊎◌, List, Option, None, Some, MatchOption, length, max, min}
use Rattle.std.specs.Prelude.{sum, slice_index}
use Rattle.auction_terms.specs.Ladder.{LadderView}
use Rattle.lanes.specs.Meeting.{before}
use Rattle.tick_ladder.specs.declared.Crossing.{Crossing}

-- no number from i on and before j is above 0
abbrev pub IsBlank : List ℕ → ℕ → ℕ → Type 0
IsBlank xs i j = before xs i ≡ before xs j

-- a number above 0 at p, and none after it before j
pub record IsLastIn (xs : List ℕ) (i j p : ℕ) : Type 0 where
  pub from : i ≤ p
  pub within : p < j
  pub positive : 0 < slice_index xs p
  pub blank : IsBlank xs (p + 1) j

-- a number above 0 at p, and none before it from i on
pub record IsFirstIn (xs : List ℕ) (i j p : ℕ) : Type 0 where
  pub from : i ≤ p
  pub within : p < j
  pub positive : 0 < slice_index xs p
  pub blank : IsBlank xs i p

-- the last such place from i on and before j, or none
abbrev pub FindsLast : List ℕ → ℕ → ℕ → Option ℕ → Type 0
FindsLast xs i j found = MatchOption found (IsBlank xs i j) (IsLastIn xs i j)

-- the first one
abbrev pub FindsFirst : List ℕ → ℕ → ℕ → Option ℕ → Type 0
FindsFirst xs i j found = MatchOption found (IsBlank xs i j) (IsFirstIn xs i j)

-- ---- bids and asks

-- there is nothing from i on and before j
pub record IsClear (bids asks : List ℕ) (i j : ℕ) : Type 0 where
  pub no_bids : IsBlank bids i j
  pub no_asks : IsBlank asks i j

-- something is at p, and nothing after it before j
pub record IsLast (bids asks : List ℕ) (i j p : ℕ) : Type 0 where
  pub from : i ≤ p
  pub within : p < j
  pub stands : 0 < slice_index bids p + slice_index asks p
  pub clear : IsClear bids asks (p + 1) j

-- something is at p, and nothing before it from i on
pub record IsFirst (bids asks : List ℕ) (i j p : ℕ) : Type 0 where
  pub from : i ≤ p
  pub within : p < j
  pub stands : 0 < slice_index bids p + slice_index asks p
  pub clear : IsClear bids asks i p

-- the last place with an order before the end, or none
abbrev pub IsLastBefore : LadderView → ℕ → Option ℕ → Type 0
IsLastBefore view end found = MatchOption found (IsClear view.bids view.asks 0 end) (IsLast view.bids view.asks 0 end)

-- the first place with an order from the start on, or none
abbrev pub IsFirstFrom : LadderView → ℕ → Option ℕ → Type 0
IsFirstFrom view start found =
    MatchOption found
    (IsClear view.bids view.asks start (length view.bids))
    (IsFirst view.bids view.asks start (length view.bids))

-- the later of two places that may be there, and the earlier
abbrev pub later_of : Option ℕ → Option ℕ → Option ℕ
later_of (Some p) (Some q) = Some (max p q)
later_of (Some p) None = Some p
later_of None other = other

abbrev pub earlier_of : Option ℕ → Option ℕ → Option ℕ
earlier_of (Some p) (Some q) = Some (min p q)
earlier_of (Some p) None = Some p
earlier_of None other = other

-- at p the demand is below the supply before it, if demand and below are those at i
abbrev pub IsOver : List ℕ → List ℕ → ℕ → ℕ → ℕ → ℕ → Type 0
IsOver bids asks i p demand below =
    demand + before bids i + before asks i < below + before asks p + before bids p

-- the last place from i on and before j at which the demand is not below the supply that lies before it
pub record IsCrossing (bids asks : List ℕ) (i j demand below : ℕ) (c : Crossing) : Type 0 where
  pub from : i ≤ c.place
  pub within : c.place < j
  pub demand_is : c.demand + before bids c.place ≡ demand + before bids i
  pub below_is : c.below + before asks i ≡ below + before asks c.place
  pub met : (c.place ≡ i) ⊎ (c.below ≤ c.demand)
  pub over : (c.place + 1 ≡ j) ⊎ IsOver bids asks i (c.place + 1) demand below

-- the crossing of all bids and asks
abbrev pub IsCrossingOf : LadderView → Crossing → Type 0
IsCrossingOf view c =
    IsCrossing view.bids view.asks 0 (length view.bids) (view.market_bids + sum view.bids) view.market_asks c
