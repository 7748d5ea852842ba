-- What a contract sees of a member, and the lists of calls.
use Rattle.std.specs.Prelude.{ℕ, ◌+◌, ◌==◌, List, [], ◌∷◌, take, if◌then◌else◌}
use Rattle.auction_terms.specs.declared.Call.{Call}
use Rattle.auction_terms.specs.declared.Command.{Command}

-- a member's own call, by its place in the history, from 1
pub record PlacedCall : Type 0 where
  pub place : ℕ
  pub command : Command

abbrev pub placed_call : ℕ → Command → PlacedCall
placed_call place command = record { place = place; command = command }

-- its number, its count, what it has been shown, and its own calls
pub record MemberView : Type 0 where
  pub number : ℕ
  pub calls : ℕ
  pub seen : List Call
  pub mine : List PlacedCall

-- the calls of a member among those whose places begin with k
abbrev pub placed_calls_from : ℕ → List Call → ℕ → List PlacedCall
placed_calls_from k [] member = []
placed_calls_from k (x ∷ xs) member =
    if x.member == member then placed_call k x.command ∷ placed_calls_from (k + 1) xs member
    else placed_calls_from (k + 1) xs member

abbrev pub placed_calls : List Call → ℕ → List PlacedCall
placed_calls xs member = placed_calls_from 1 xs member

-- the member whose own calls are those up to this place
abbrev pub member_view : ℕ → ℕ → ℕ → List Call → MemberView
member_view number calls last seen = record {
  number = number;
  calls = calls;
  seen = seen;
  mine = placed_calls (take last seen) number;
}

-- a member with no calls, which has been shown nothing
abbrev pub newcomer : ℕ → MemberView
newcomer number = record { number = number; calls = 0; seen = []; mine = [] }

-- the member after one more call, which ends these
abbrev pub after_call : MemberView → List Call → MemberView
after_call m seen = record {
  number = m.number;
  calls = m.calls + 1;
  seen = seen;
  mine = placed_calls seen m.number;
}
