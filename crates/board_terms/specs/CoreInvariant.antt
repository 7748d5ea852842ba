-- What a board has under its lock.
use Rattle.std.specs.Prelude.{◌≡◌, ℕ, ◌<◌, ◌≤◌, List, All, length, sum, slice_index}
use Rattle.auction_terms.specs.declared.limits.TheConstants.{MAX_CALLS}
use Rattle.auction_terms.specs.declared.Config.{Config}
use Rattle.auction_terms.specs.declared.Call.{Call}
use Rattle.auction_terms.specs.declared.Entry.{Entry}
use Rattle.auction_terms.specs.Day.{IsLegal, calls_of}
use Rattle.auction_terms.specs.Auxiliary.RunningAuction.{RunningAuction, auction_after}
use Rattle.board_terms.specs.MemberView.{placed_calls}

-- the history is legal and has room to the end of the day; auction, evidence and counts are those after its calls
pub record CoreInvariant (c : Config) (members : ℕ) (auction : RunningAuction) (history : List Entry)
    (front : List Call) (counted : List ℕ) (room : ℕ) : Type 0 where
  pub legal : IsLegal c history
  pub replayed : auction ≡ auction_after c (calls_of history)
  pub front_is : front ≡ calls_of history
  pub numbers : All (λ (e : Entry). e.member < members) history
  pub wide : length counted ≡ members
  pub summed : sum counted ≡ length history
  pub counts : (k : ℕ) → k < members → slice_index counted k ≡ length (placed_calls (calls_of history) k)
  pub has_room : c.max_calls ≤ room
  pub small : c.max_calls ≤ MAX_CALLS
