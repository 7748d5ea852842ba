-- Where a number that falls step by step comes below one that rises.
use Rattle.std.specs.Prelude.{◌≡◌, ℕ, ◌+◌, ◌<◌, ◌≤◌, ◌⊎◌, List, length, sum, take}
use Rattle.lanes.specs.declared.running_sums.Meeting.{Meeting}

-- the sum of the numbers before a place
abbrev pub before : List ℕ → ℕ → ℕ
before xs i = sum (take i xs)

-- the last place before which the falls have not brought the high number below the low one with the rises, or place 0
pub record IsMeeting (high : ℕ) (falls : List ℕ) (low : ℕ) (rises : List ℕ) (m : Meeting) : Type 0 where
  pub within : m.place < length falls
  pub high_is : m.high + before falls m.place ≡ high
  pub low_is : m.low ≡ low + before rises m.place
  pub met : (m.place ≡ 0) ⊎ (m.low ≤ m.high)
  pub over : (m.place + 1 ≡ length falls) ⊎ (high < low + before rises (m.place + 1) + before falls (m.place + 1))
