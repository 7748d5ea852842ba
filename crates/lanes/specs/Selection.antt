-- What is selected by flags from equally long lists. A flag is a 1.
use Rattle.std.specs.Prelude.{◌≡◌, ◌≢◌, ℕ, ◌+◌, ◌<◌, ◌≤◌, List, [], ◌∷◌, length, slice_index, max, min, eqb}
use Rattle.std.specs.Prelude.{nat_lt, if◌then◌else◌}

-- there is a flag at the place
abbrev pub IsFlagged : List ℕ → ℕ → Type 0
IsFlagged flags k = slice_index flags k ≡ 1

-- the flag where the value is the wanted one, else 0
abbrev pub kept_if_equal : ℕ → ℕ → ℕ → ℕ
kept_if_equal wanted value flag = if eqb value wanted then flag else 0

-- at each place the flag where the first number is above the second, else 0
abbrev pub kept_if_above : List ℕ → List ℕ → List ℕ → List ℕ
kept_if_above [] bs fs = []
kept_if_above (a ∷ more) [] fs = []
kept_if_above (a ∷ more) (b ∷ bs) [] = []
kept_if_above (a ∷ more) (b ∷ bs) (f ∷ fs) = (if nat_lt b a then f else 0) ∷ kept_if_above more bs fs

-- the values at the flagged places
abbrev pub flagged : List ℕ → List ℕ → List ℕ
flagged [] fs = []
flagged (v ∷ vs) [] = []
flagged (v ∷ vs) (f ∷ fs) = if eqb f 1 then v ∷ flagged vs fs else flagged vs fs

abbrev pub value_or_zero : ℕ → ℕ → ℕ
value_or_zero value flag = if eqb flag 1 then value else 0

-- the greatest number of a list, and 0 of the empty one
abbrev pub greatest : List ℕ → ℕ
greatest [] = 0
greatest (x ∷ xs) = max x (greatest xs)

abbrev pub value_or_most : ℕ → ℕ → ℕ
value_or_most value flag = if eqb flag 1 then value else 18446744073709551615

-- the least number of a list, and the greatest u64 of the empty one
abbrev pub least : List ℕ → ℕ
least [] = 18446744073709551615
least (x ∷ xs) = min x (least xs)

-- there is no flag from i to before j
abbrev pub NoFlagIn : List ℕ → ℕ → ℕ → Type 0
NoFlagIn fs i j = (k : ℕ) → i ≤ k → k < j → slice_index fs k ≢ 1

-- some place is flagged
abbrev pub HasFlag : List ℕ → Type 0
HasFlag fs = (k : ℕ) × (k < length fs) × IsFlagged fs k

pub record IsFirstFlag (fs : List ℕ) (i : ℕ) : Type 0 where
  pub within : i < length fs
  pub here : IsFlagged fs i
  pub before : NoFlagIn fs 0 i

pub record IsLastFlag (fs : List ℕ) (i : ℕ) : Type 0 where
  pub within : i < length fs
  pub here : IsFlagged fs i
  pub after : NoFlagIn fs (i + 1) (length fs)

-- m is the value of some flagged place, and no flagged place has a greater one
pub record IsGreatestFlagged (vs fs : List ℕ) (m : ℕ) : Type 0 where
  pub place : ℕ
  pub within : place < length fs
  pub here : IsFlagged fs place
  pub value : slice_index vs place ≡ m
  pub bound : (k : ℕ) → k < length fs → IsFlagged fs k → slice_index vs k ≤ m

-- m is the value of some flagged place, and no flagged place has a lesser one
pub record IsLeastFlagged (vs fs : List ℕ) (m : ℕ) : Type 0 where
  pub place : ℕ
  pub within : place < length fs
  pub here : IsFlagged fs place
  pub value : slice_index vs place ≡ m
  pub bound : (k : ℕ) → k < length fs → IsFlagged fs k → m ≤ slice_index vs k
