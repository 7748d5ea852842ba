-- What is true of a member's account.
use Rattle.std.specs.Prelude.{◌≡◌, ℕ, ◌<◌, ◌≤◌, List, length, take}
use Rattle.auction_terms.specs.declared.Call.{Call}
use Rattle.board_terms.specs.MemberView.{placed_calls}

-- its number is one of the board's, and its count is that of its calls up to the last
pub record MemberInvariant (members number calls last : ℕ) (seen : List Call) : Type 0 where
  pub one_of : number < members
  pub inside : last ≤ length seen
  pub own_calls : length (placed_calls (take last seen) number) ≡ calls
