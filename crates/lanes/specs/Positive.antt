-- Where a list has numbers above 0.
use Rattle.std.specs.Prelude.{◌≡◌, ℕ, ◌+◌, ◌<◌, ◌≤◌, List, length, slice_index}

-- no number from i to before j is above 0
abbrev pub NoneIn : List ℕ → ℕ → ℕ → Type 0
NoneIn vs i j = (k : ℕ) → i ≤ k → k < j → slice_index vs k ≡ 0

pub record IsFirstPositive (vs : List ℕ) (i : ℕ) : Type 0 where
  pub within : i < length vs
  pub here : 0 < slice_index vs i
  pub before : NoneIn vs 0 i

pub record IsLastPositive (vs : List ℕ) (i : ℕ) : Type 0 where
  pub within : i < length vs
  pub here : 0 < slice_index vs i
  pub after : NoneIn vs (i + 1) (length vs)
