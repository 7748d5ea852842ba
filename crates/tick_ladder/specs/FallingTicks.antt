-- The ticks of a ladder as tables list them.
use Rattle.std.specs.Prelude.{ℕ, zero, suc, ◌+◌, List, [], ◌∷◌}

-- n ticks from low on, the highest first
abbrev pub falling_ticks : ℕ → ℕ → List ℕ
falling_ticks low zero = []
falling_ticks low (suc n) = (low + n) ∷ falling_ticks low n
