-- What a board's reserve keeps back from a member.
use Rattle.std.specs.Prelude.{◌≡◌, ℕ, ◌+◌, ◌≤◌, ◌==◌, length, if◌then◌else◌}
use mathlib.Core.List.{IsPrefix}
use Rattle.auction_terms.specs.declared.Config.{Config}
use Rattle.board_terms.specs.MemberView.{MemberView}

-- of a reserve of calls, those that a member with this number can't make: all but for member 0, the operator
abbrev pub kept_back : ℕ → ℕ → ℕ
kept_back reserve number = if number == 0 then 0 else reserve

-- the call with this place left as many to the day as are kept back from the member that made it
abbrev pub LeavesReserve : ℕ → Config → ℕ → ℕ → Type 0
LeavesReserve reserve config number place = place + kept_back reserve number ≤ config.max_calls

-- the member has seen so many calls that none is left to it, and is else as before
pub record SeesNoneLeft (reserve : ℕ) (config : Config) (old new : MemberView) : Type 0 where
  pub number : new.number ≡ old.number
  pub calls : new.calls ≡ old.calls
  pub begins : IsPrefix old.seen new.seen
  pub none_left : config.max_calls ≤ length new.seen + kept_back reserve old.number
  pub mine : new.mine ≡ old.mine
