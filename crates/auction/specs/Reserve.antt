-- The last calls of a day, which are the operator's, member 0.
use Rattle.std.specs.Prelude.{ℕ, ◌+◌, ◌==◌, ◌&&◌, Bool, not, nat_le}
use Rattle.auction_terms.specs.declared.Config.{Config}

-- after so many calls, those that are left to the day are the operator's, which the member with this number isn't
abbrev pub is_reserved_from : ℕ → Config → ℕ → ℕ → Bool
is_reserved_from reserve config number calls = not (number == 0) && nat_le config.max_calls (calls + reserve)
