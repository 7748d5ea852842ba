-- What a closing owes.
use Rattle.std.specs.Prelude.{◌≡◌, ℕ, ◌+◌, ◌<◌, ◌≤◌, ◌==◌, List, [], ◌∷◌, All, Contains, Option, None, Some, length}
use Rattle.std.specs.Prelude.{count_by, sum, slice_index, if◌then◌else◌}
use mathlib.Core.List.{IsPrefix}
use Rattle.auction_terms.specs.declared.Config.{Config}
use Rattle.auction_terms.specs.declared.Call.{Call}
use Rattle.auction_terms.specs.Day.{IsLegal}
use Rattle.board_terms.specs.MemberView.{MemberView, placed_calls}
use Rattle.board_terms.specs.declared.closing.Closing.{Closing}

-- the members' numbers are all numbers below n, each once
abbrev pub HasEachNumberOnce : ℕ → List MemberView → Type 0
HasEachNumberOnce n members =
    (length members ≡ n) × ((k : ℕ) → k < n → count_by (λ (m : MemberView). m.number == k) members ≡ 1)

-- what a member brings is an account of this story: its list is a beginning, and its calls are those of its number
pub record IsAccount (story : List Call) (m : MemberView) : Type 0 where
  pub begins : IsPrefix m.seen story
  pub own_calls : placed_calls story m.number ≡ m.mine
  pub count : m.calls ≡ length m.mine

-- the history is legal, has as many entries as the counts add up to, and each member's count is the one that it brought
pub record IsClosing (c : Config) (n : ℕ) (members : List MemberView) (closing : Closing) : Type 0 where
  pub legal : IsLegal c closing.history.items
  pub whole : length closing.history.items ≡ sum closing.calls.items
  pub counts : length closing.calls.items ≡ n
  pub each : All (λ (m : MemberView). slice_index closing.calls.items m.number ≡ m.calls) members

-- a closing beside a member that was shown more than the history has: it is the first such member by number
pub record IsAhead (c : Config) (n : ℕ) (members : List MemberView)
    (ahead : MemberView) (seen : ℕ) (closing : Closing) : Type 0 where
  pub closes : IsClosing c n members closing
  pub one_of : Contains members ahead
  pub seen_is : seen ≡ length ahead.seen
  pub more : length closing.history.items < seen
  pub first : All (λ (m : MemberView). m.number < ahead.number → length m.seen ≤ length closing.history.items) members

-- the fault that hands back the first such member, what it has seen, and the closing
abbrev pub IsAheadFault : {F : Type 0} → (MemberView → ℕ → Closing → F) → Config → ℕ → List MemberView → F → Type 0
IsAheadFault ahead c n members fault =
    (m : MemberView) × (seen : ℕ) × (closing : Closing) × (fault ≡ ahead m seen closing)
    × IsAhead c n members m seen closing

-- some member with this number has seen more than `end` calls
abbrev pub HasMemberAhead : ℕ → ℕ → List MemberView → Type 0
HasMemberAhead k end members = (m : MemberView) × Contains members m × (m.number ≡ k) × (end < length m.seen)

-- what a member that was kept back holds
abbrev pub kept_calls : Option MemberView → ℕ
kept_calls None = 0
kept_calls (Some m) = m.calls

abbrev pub kept_parts : Option MemberView → ℕ
kept_parts None = 0
kept_parts (Some m) = 1

-- the member that was kept back is the one that was asked for
abbrev pub IsKeptBack : Option ℕ → ℕ → List MemberView → Option MemberView → Type 0
IsKeptBack ahead end members None =
    (k : ℕ) → ahead ≡ Some k → All (λ (m : MemberView). m.number ≡ k → length m.seen ≤ end) members
IsKeptBack ahead end members (Some m) = (ahead ≡ Some m.number) × (end < length m.seen) × Contains members m

-- the calls that members with this number brought
abbrev pub calls_with_number : ℕ → List MemberView → ℕ
calls_with_number k [] = 0
calls_with_number k (m ∷ ms) = (if m.number == k then m.calls else 0) + calls_with_number k ms

-- what is known of a member that isn't ahead of the history
pub record HasSeenBeginning (n : ℕ) (story : List Call) (m : MemberView) : Type 0 where
  pub number : m.number < n
  pub begins : IsPrefix m.seen story
  pub mine : IsPrefix m.mine (placed_calls m.seen m.number)
  pub count : m.calls ≡ length m.mine

-- the counts of n numbers, by number, which add up to this amount
pub record AreMemberCounts (n : ℕ) (members : List MemberView) (counts : List ℕ) (amount : ℕ) : Type 0 where
  pub wide : length counts ≡ n
  pub whole : sum counts ≡ amount
  pub each : (k : ℕ) → k < n → slice_index counts k ≡ calls_with_number k members
  pub numbers : All (λ (m : MemberView). m.number < n) members
