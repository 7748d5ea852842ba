-- What a call and a look report.
use Rattle.std.specs.Prelude.{◌≡◌, ◌≢◌, ℕ, ◌+◌, ◌<◌, ◌≤◌, ◌⊎◌, List, [], ◌∷◌, ◌++◌, All, length}
use mathlib.Core.List.{IsPrefix}
use Rattle.auction_terms.specs.declared.Config.{Config}
use Rattle.auction_terms.specs.declared.Call.{Call}
use Rattle.auction_terms.specs.declared.Command.{Command}
use Rattle.auction_terms.specs.declared.Reply.{Reply}
use Rattle.auction_terms.specs.declared.Entry.{Entry}
use Rattle.auction_terms.specs.Day.{IsLegal, step, replay, calls_of, display}
use Rattle.auction.specs.AuctionState.{call_by}
use Rattle.board_terms.specs.MemberView.{MemberView, placed_calls, placed_call}
use Rattle.board_terms.specs.declared.calls.CallFault.{CallFault}
use Rattle.board_terms.specs.declared.calls.CallFault.TheVariants.{OutOfStep}
use Rattle.board_terms.specs.declared.calls.Receipt.{Receipt}
use Rattle.board_terms.specs.declared.calls.Shown.{Shown}

abbrev pub entry : ℕ → Command → Reply → Entry
entry member command reply = record { member = member; command = command; reply = reply }

-- the history is legal, has as many entries as the receipt says, and ends with this call and its reply
pub record EndsWithCall (c : Config) (history : List Entry) (member : ℕ) (command : Command) (r : Receipt) : Type 0
  where
    pub legal : IsLegal c history
    pub number : length history ≡ r.number
    pub before : List Entry
    pub last : history ≡ before ++ entry member command r.reply ∷ []

-- what is shown is the display after these calls
pub record ShowsAfter (c : Config) (calls : List Call) (s : Shown) : Type 0 where
  pub calls_are : length calls ≡ s.calls
  pub display : s.display ≡ display (replay c calls).0

-- the call comes after all that the member had seen and calls of others, is one more of its own, and has the auction's
-- reply there
pub record CallsOnce (c : Config) (old new : MemberView) (command : Command) (r : Receipt) : Type 0 where
  pub number : new.number ≡ old.number
  pub calls : new.calls ≡ old.calls + 1
  pub between : List Call
  pub others : All (λ (x : Call). x.member ≢ old.number) between
  pub seen : new.seen ≡ (old.seen ++ between) ++ call_by old.number command ∷ []
  pub place : r.number ≡ length new.seen
  pub reply : r.reply ≡ (step c (replay c (old.seen ++ between)).0 (call_by old.number command)).1
  pub mine : new.mine ≡ old.mine ++ placed_call r.number command ∷ []
  pub all_mine : placed_calls new.seen old.number ≡ new.mine

-- the member has seen no less, and what it is shown is the display after all that it has now seen
pub record IsLook (c : Config) (old new : MemberView) (s : Shown) : Type 0 where
  pub number : new.number ≡ old.number
  pub calls : new.calls ≡ old.calls
  pub mine : new.mine ≡ old.mine
  pub seen : IsPrefix old.seen new.seen
  pub shown : ShowsAfter c new.seen s
  pub own_begins : IsPrefix new.mine (placed_calls new.seen new.number)

-- the member has seen more than the history has, or its count isn't that of its entries there
abbrev pub IsOutOfStep : List Entry → MemberView → Type 0
IsOutOfStep history m = (length history < length m.seen) ⊎ (m.calls ≢ length (placed_calls (calls_of history) m.number))

-- the fault of a member with this number that is out of step with this history
abbrev pub out_of_step_fault : List Entry → ℕ → CallFault
out_of_step_fault history number = OutOfStep (length history) (length (placed_calls (calls_of history) number))

-- the member has seen all of a full history, and is else as before
pub record SeesFullHistory (c : Config) (old new : MemberView) : Type 0 where
  pub number : new.number ≡ old.number
  pub calls : new.calls ≡ old.calls
  pub begins : IsPrefix old.seen new.seen
  pub all_calls : c.max_calls ≤ length new.seen
  pub mine : new.mine ≡ old.mine
