-- What contracts see of a board without a type parameter.
use Rattle.std.specs.Prelude.{◌≡◌, ◌≢◌, ◌<◌, ℕ, zero, suc, List, [], ◌∷◌, ◌++◌, length, sum, slice_index}
use mathlib.Core.List.{IsPrefix}
use Rattle.auction_terms.specs.Day.{IsLegal, calls_of, replay}
use Rattle.auction_terms.specs.declared.Trade.{Trade}
use Rattle.auction_terms.specs.Ladder.{LadderView}
use Rattle.auction.specs.AuctionState.{current_orders, ladder_over}
use Rattle.board_terms.specs.declared.closing.Closing.{Closing}
use Rattle.logbook.specs.Pages.{Book}
use Rattle.auction_terms.specs.declared.Call.{Call}
use Rattle.auction_terms.specs.declared.Config.{Config}
use Rattle.auction_terms.specs.declared.Entry.{Entry}
use Rattle.board_terms.specs.declared.calls.CallFault.{CallFault}
use Rattle.board_terms.specs.declared.calls.Shown.{Shown}
use Rattle.board_terms.specs.MemberView.{MemberView, newcomer, placed_calls}
use Rattle.board_terms.specs.CallsAndLooks.{IsOutOfStep, ShowsAfter, out_of_step_fault}

-- a beginning of the story that a book has
pub record Beginning : Type 0 where
  pub book : Book
  pub log : List Call

abbrev pub beginning : Book → List Call → Beginning
beginning book log = record { book = book; log = log }

-- one opening: the identity that it was given, its config, its number of members, and the book of its story
pub record OpenedBoard : Type 0 where
  pub identity : ℕ
  pub config : Config
  pub members : ℕ
  pub book : Book

abbrev pub opened_board : ℕ → Config → ℕ → Book → OpenedBoard
opened_board identity config members book = record {
  identity = identity;
  config = config;
  members = members;
  book = book;
}

-- what the lock keeps: the opening, and the history
pub record BoardHistory : Type 0 where
  pub board : OpenedBoard
  pub history : List Entry

abbrev pub board_history : OpenedBoard → List Entry → BoardHistory
board_history p history = record { board = p; history = history }

-- a member of an opening
pub record BoardMember : Type 0 where
  pub board : OpenedBoard
  pub view : MemberView

abbrev pub board_member : OpenedBoard → MemberView → BoardMember
board_member p s = record { board = p; view = s }

-- what is shown after a beginning of the opening's story
pub record IsSnapshotOf (p : OpenedBoard) (front : Beginning) (shown : Shown) : Type 0 where
  pub book : front.book ≡ p.book
  pub shows : ShowsAfter p.config front.log shown

-- one member for each number from 0, with no calls, which have been shown nothing
abbrev pub new_board_members : OpenedBoard → ℕ → List BoardMember
new_board_members p zero = []
new_board_members p (suc n) = new_board_members p n ++ board_member p (newcomer n) ∷ []

-- the history is legal, has as many entries as the counts add up to, and each count is that of the entries with its
-- number
pub record IsClosingOf (p : OpenedBoard) (closing : Closing) : Type 0 where
  pub legal : IsLegal p.config closing.history.items
  pub whole : length closing.history.items ≡ sum closing.calls.items
  pub counts : length closing.calls.items ≡ p.members
  pub each : (k : ℕ) → k < p.members
      → slice_index closing.calls.items k ≡ length (placed_calls (calls_of closing.history.items) k)

-- the member has seen this story, which begins with what it had seen, and is else as before
pub record SeesStory (story : List Call) (old new : MemberView) : Type 0 where
  pub number : new.number ≡ old.number
  pub calls : new.calls ≡ old.calls
  pub mine : new.mine ≡ old.mine
  pub begins : IsPrefix old.seen new.seen
  pub all : new.seen ≡ story

-- the member is out of step with a legal history that isn't full, as the fault says
pub record IsToldOutOfStep (c : Config) (m : MemberView) (fault : CallFault) : Type 0 where
  pub history : List Entry
  pub legal : IsLegal c history
  pub room : length history ≢ c.max_calls
  pub differs : IsOutOfStep history m
  pub told : fault ≡ out_of_step_fault history m.number

-- the quantities of the orders that count after these calls, and the trades
abbrev pub ladder_after : Config → List Call → LadderView
ladder_after config calls = ladder_over config (current_orders (replay config calls).0)

abbrev pub tape_after : Config → List Call → List Trade
tape_after config calls = (replay config calls).0.tape
