-- The limits around the place where demand and supply cross.
use Rattle.std.specs.Prelude.{◌≡◌, ℕ, ◌+◌, if◌then◌else◌, List, [], ◌∷◌, ◌++◌, Option, Some, None, nat_lt, sum}
use Rattle.std.specs.Prelude.{slice_index}
use Rattle.auction_terms.specs.Ladder.{LadderView}
use Rattle.lanes.specs.Meeting.{before}
use Rattle.tick_ladder.specs.OccupiedPlaces.{IsLastBefore, IsFirstFrom, IsCrossingOf}
use Rattle.price_rules.specs.declared.surroundings.Around.{Around}

-- the next limit below near
abbrev pub IsFar : LadderView → Option ℕ → Option ℕ → Type 0
IsFar v None far = far ≡ None
IsFar v (Some near) far = IsLastBefore v near far

-- the crossing, the two limits before it and the one after it
pub record IsAround (v : LadderView) (a : Around) : Type 0 where
  pub crossing : IsCrossingOf v a.crossing
  pub near : IsLastBefore v a.crossing.place a.near
  pub far : IsFar v a.near a.far
  pub after : IsFirstFrom v (a.crossing.place + 1) a.after

-- a place where something is
abbrev pub here_at : LadderView → ℕ → Option ℕ
here_at v place = if nat_lt 0 (slice_index v.bids place + slice_index v.asks place) then Some place else None

abbrev pub tick_list : ℕ → Option ℕ → List ℕ
tick_list low None = []
tick_list low (Some i) = (low + i) ∷ []

-- the limits around the crossing
abbrev pub few_limits : LadderView → Around → List ℕ
few_limits v a =
    ((tick_list v.low a.far ++ tick_list v.low a.near) ++ tick_list v.low (here_at v a.crossing.place))
    ++ tick_list v.low a.after

-- d and s are demand and supply at the place
pub record IsPoint (v : LadderView) (place d s : ℕ) : Type 0 where
  pub demand_is : d + before v.bids place ≡ v.market_bids + sum v.bids
  pub supply_is : s ≡ v.market_asks + before v.asks (place + 1)
