-- The best of some ticks.
use Rattle.std.specs.Prelude.{◌≡◌, ℕ, ◌<◌, ◌≤◌, Bool, false, ◌&&◌, ◌||◌, if◌then◌else◌, List, [], ◌∷◌, All, Option}
use Rattle.std.specs.Prelude.{Some, None, filter, ◌==◌}
use Rattle.auction_terms.specs.declared.Order.{Order}
use Rattle.auction_terms.specs.Book.{volume, surplus, has_bid_surplus, has_ask_surplus}
use Rattle.auction_terms.specs.AuctionPrice.{highest, lowest, is_empty}

-- whether a tick is in a list
abbrev pub has : ℕ → List ℕ → Bool
has t [] = false
has t (tick ∷ ticks) = (tick == t) || has t ticks

-- the volume and the surplus of the best, and the two ticks that bound the price: with a surplus, the highest with a
-- bid surplus and the lowest with an ask surplus; with none, the lowest and the highest
pub record Leaders : Type 0 where
  pub volume : ℕ
  pub surplus : ℕ
  pub lower : Option ℕ
  pub upper : Option ℕ

-- p has this volume and this surplus
abbrev pub has_key : List Order → ℕ → ℕ → ℕ → Bool
has_key book v s p = (volume book p == v) && (surplus book p == s)

-- the ticks with this volume and this surplus
abbrev pub keyed : List Order → ℕ → ℕ → List ℕ → List ℕ
keyed book v s ps = filter (has_key book v s) ps

-- the two that bound the price, of ticks with the same surplus
abbrev pub lower_among : List Order → ℕ → List ℕ → Option ℕ
lower_among book s ps = if s == 0 then lowest ps else highest (filter (has_bid_surplus book) ps)

abbrev pub upper_among : List Order → ℕ → List ℕ → Option ℕ
upper_among book s ps = if s == 0 then highest ps else lowest (filter (has_ask_surplus book) ps)

-- p has no more volume than the leaders, and at the same volume no less surplus
abbrev pub IsNoBetterThan : List Order → Leaders → ℕ → Type 0
IsNoBetterThan book leaders p =
    (volume book p ≤ leaders.volume) × (volume book p ≡ leaders.volume → leaders.surplus ≤ surplus book p)

-- what the leaders are of these ticks
pub record AreLeadersOf (book : List Order) (ps : List ℕ) (leaders : Leaders) : Type 0 where
  pub positive : 0 < leaders.volume
  pub none_better : All (IsNoBetterThan book leaders) ps
  pub some_among : is_empty (keyed book leaders.volume leaders.surplus ps) ≡ false
  pub lower : leaders.lower ≡ lower_among book leaders.surplus (keyed book leaders.volume leaders.surplus ps)
  pub upper : leaders.upper ≡ upper_among book leaders.surplus (keyed book leaders.volume leaders.surplus ps)

-- no tick has volume, or these lead
abbrev pub AreBest : List Order → List ℕ → Option Leaders → Type 0
AreBest book ps None = All (λ p. volume book p ≡ 0) ps
AreBest book ps (Some leaders) = AreLeadersOf book ps leaders
