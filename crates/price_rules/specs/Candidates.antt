-- Candidates, side by side in lanes.
use Rattle.std.specs.Prelude.{◌≡◌, ℕ, ◌+◌, ◌<◌, ◌≤◌, true, List, [], ◌∷◌, Option, Some, None, length, slice_index}
use Rattle.auction_terms.specs.declared.Order.{Order}
use Rattle.auction_terms.specs.Book.{demand, supply}
use Rattle.auction_terms.specs.Ladder.{LadderView}
use Rattle.auction_terms.specs.Auxiliary.BestTicks.{Leaders, has}
use Rattle.lanes.specs.Selection.{IsFlagged}
use Rattle.price_rules.specs.declared.candidates.Candidate.{Candidate}
use Rattle.price_rules.specs.declared.candidates.Lanes.{Lanes}
use Rattle.price_rules.specs.declared.choice.Leaders.{Leaders as Found}
use Rattle.price_rules.specs.Around.{IsPoint}

-- the candidate is the limit at the place, if there is one
abbrev pub IsCandidate : LadderView → Option ℕ → Candidate → Type 0
IsCandidate v None c = c.flag ≡ 0
IsCandidate v (Some i) c = (c.flag ≡ 1) × (c.tick ≡ v.low + i) × (i < length v.bids) × IsPoint v i c.demand c.supply

-- four candidates and four empty lanes
abbrev pub in_lanes : Candidate → Candidate → Candidate → Candidate → Lanes
in_lanes a b c d = record {
  ticks = a.tick ∷ b.tick ∷ c.tick ∷ d.tick ∷ 0 ∷ 0 ∷ 0 ∷ 0 ∷ [];
  demands = a.demand ∷ b.demand ∷ c.demand ∷ d.demand ∷ 0 ∷ 0 ∷ 0 ∷ 0 ∷ [];
  supplies = a.supply ∷ b.supply ∷ c.supply ∷ d.supply ∷ 0 ∷ 0 ∷ 0 ∷ 0 ∷ [];
  flags = a.flag ∷ b.flag ∷ c.flag ∷ d.flag ∷ 0 ∷ 0 ∷ 0 ∷ 0 ∷ [];
}

-- the ticks with a flag rise
abbrev pub AreRisingTicks : List ℕ → List ℕ → Type 0
AreRisingTicks ticks flags =
    (j k : ℕ) → j < k → IsFlagged flags j → IsFlagged flags k → slice_index ticks j ≤ slice_index ticks k

-- the numbers are those of the flagged ticks
abbrev pub AreOfTicks : Lanes → List ℕ → (ℕ → ℕ) → Type 0
AreOfTicks lanes numbers f = (k : ℕ) → IsFlagged lanes.flags k → slice_index numbers k ≡ f (slice_index lanes.ticks k)

-- the flagged ticks rise, each with its demand and supply
pub record AreCandidates (book : List Order) (lanes : Lanes) : Type 0 where
  pub demands_are : AreOfTicks lanes lanes.demands (demand book)
  pub supplies_are : AreOfTicks lanes lanes.supplies (supply book)
  pub rising : AreRisingTicks lanes.ticks lanes.flags

-- the ticks with a flag are those of the list
pub record AreMarked (ticks flags few : List ℕ) : Type 0 where
  pub there : (k : ℕ) → IsFlagged flags k → has (slice_index ticks k) few ≡ true
  pub place : (t : ℕ) → has t few ≡ true → (k : ℕ) × (k < length flags) × IsFlagged flags k × (slice_index ticks k ≡ t)

-- no flag but where the others have one
abbrev pub FlagsNoOther : List ℕ → List ℕ → Type 0
FlagsNoOther flags others = (k : ℕ) → IsFlagged flags k → IsFlagged others k

-- P of each book whose candidates these are, and of each list of ticks that some of the flags mark
abbrev pub IsOfMarkedTicks : Lanes → List ℕ → (List Order → List ℕ → Type 0) → Type 0
IsOfMarkedTicks lanes flags P =
    (book : List Order) (few : List ℕ)
    → AreCandidates book lanes
    → FlagsNoOther flags lanes.flags
    → AreMarked lanes.ticks flags few
    → P book few

abbrev pub lead_of : Found → Leaders
lead_of found = record { volume = found.volume; surplus = found.surplus; lower = found.lower; upper = found.upper }
