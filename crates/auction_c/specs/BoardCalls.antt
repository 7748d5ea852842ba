-- What a call from C does to the board's member that its handle holds, and what it writes.
use Rattle.std.specs.Prelude.{◌≡◌, ◌≢◌, ◌<◌, ◌⊎◌, ◌++◌, ℕ, List, [], ◌∷◌, length, map, get_or, min, take, drop, All}
use Rattle.std.specs.Prelude.{Bool, ◌||◌, not, nat_eq, nat_lt, Option, None, Some, is_some, IfNone, IfSome, IsSomeAnd}
use Rattle.std.specs.List.{list_any}
use Rattle.logbook.specs.Pages.{Book}
use Rattle.auction_terms.specs.Auxiliary.RunningAuction.{RunningAuction, auction_after}
use Rattle.auction_terms.specs.Day.{IsLegal, calls_of}
use Rattle.auction_terms.specs.Priority.{orders_in_priority}
use Rattle.auction_terms.specs.declared.Config.{Config}
use Rattle.auction_terms.specs.declared.Command.{Command}
use Rattle.auction_terms.specs.declared.Entry.{Entry}
use Rattle.auction_terms.specs.declared.OpenOrder.{OpenOrder}
use Rattle.board_terms.specs.Closings.{IsAccount}
use Rattle.board_terms.specs.CallsAndLooks.{CallsOnce, EndsWithCall, IsLook}
use Rattle.board_terms.specs.declared.calls.CallFault.{CallFault}
use Rattle.board_terms.specs.declared.calls.Receipt.{Receipt}
use Rattle.board_terms.specs.declared.calls.Shown.{Shown}
use Rattle.board_terms.specs.declared.closing.Closing.{Closing}
use Rattle.board_terms.specs.BoardViews.{OpenedBoard, BoardMember, BoardHistory, IsToldOutOfStep, IsClosingOf}
use Rattle.board_terms.specs.BoardViews.{SeesStory, board_history}
use Rattle.board_terms.specs.BoardViews.{new_board_members, opened_board, ladder_after, tape_after}
use Rattle.shared_board.specs.Reserves.{LeavesReserve, SeesNoneLeft}
use Rattle.auction_c.specs.declared.member_handle.AuctionMember.{AuctionMember}
use Rattle.auction_c.specs.declared.structs.AuctionDayState.{AuctionDayState}
use Rattle.auction_c.specs.declared.structs.AuctionEntry.{AuctionEntry}
use Rattle.auction_c.specs.declared.structs.AuctionMarketOrders.{AuctionMarketOrders}
use Rattle.auction_c.specs.declared.structs.AuctionOrder.{AuctionOrder}
use Rattle.auction_c.specs.declared.structs.AuctionReceipt.{AuctionReceipt}
use Rattle.auction_c.specs.declared.structs.AuctionShown.{AuctionShown}
use Rattle.auction_c.specs.declared.structs.AuctionTrade.{AuctionTrade}
use Rattle.auction_c.specs.declared.errors.TheConstants.{BAD_LENGTH, BAD_MEMBER, BEHIND, BUSY, CLOSED, FULL}
use Rattle.auction_c.specs.declared.errors.TheConstants.{MISSING_MEMBER, NO_MEMBER, NO_MEMORY, OVERTAKEN}
use Rattle.auction_c.specs.Calling.{ladder_error, ticks_of}
use Rattle.auction_c.specs.Handles.{KeepsMemberTerms}
use Rattle.auction_c.specs.Encoding.{display_out, entry_out, market_out, order_out, reply_out, state_out, trade_out}

abbrev pub receipt_out : Receipt → AuctionReceipt
receipt_out r = record { reply = reply_out r.reply; number = r.number }

abbrev pub shown_out : Shown → AuctionShown
shown_out s = record { display = display_out s.display; calls = s.calls }

-- the member's command was recorded once, and as many calls are left as are kept from the member: its receipt was
-- written
pub record RecordsCall (reserve : ℕ) (command : Command) (out : AuctionReceipt) (old new : BoardMember) : Type 0 where
  pub receipt : Receipt
  pub receipt_is : out ≡ receipt_out receipt
  pub board : new.board ≡ old.board
  pub call : CallsOnce old.board.config old.view new.view command receipt
  pub history : List Entry
  pub by_history : EndsWithCall old.board.config history old.view.number command receipt
  pub place : LeavesReserve reserve old.board.config old.view.number receipt.number

-- the member was shown the display after what it has seen now
pub record ShowsDisplay (out : AuctionShown) (old new : BoardMember) : Type 0 where
  pub shown : Shown
  pub shown_is : out ≡ shown_out shown
  pub board : new.board ≡ old.board
  pub look : IsLook old.board.config old.view new.view shown

-- the handle held a member and holds it still, as it is after what was done
pub record HoldsAfter (Done : BoardMember → BoardMember → Type 0) (old new : Option BoardMember) : Type 0 where
  pub before : BoardMember
  pub after : BoardMember
  pub boxed : old ≡ Some before
  pub holds : new ≡ Some after
  pub done : Done before after

-- why the board wasn't had: another call has it, or it was closed
abbrev pub IsLockError : ℕ → Type 0
IsLockError error = (error ≡ BUSY) ⊎ (error ≡ CLOSED)

-- why a call wasn't recorded
abbrev pub IsCallError : ℕ → Type 0
IsCallError error = IsLockError error ⊎ ((error ≡ FULL) ⊎ ((error ≡ BEHIND) ⊎ (error ≡ OVERTAKEN)))

-- no call is left to the member: it has seen all of a history that is full but for those that are kept from it, and is
-- else as before
abbrev pub FindsFull : ℕ → BoardMember → BoardMember → Type 0
FindsFull reserve old new = (new.board ≡ old.board) × SeesNoneLeft reserve old.board.config old.view new.view

-- the member is out of step with a legal history of its board that isn't full
abbrev pub IsOutOfStepWithBoard : BoardMember → Type 0
IsOutOfStepWithBoard m = (fault : CallFault) × IsToldOutOfStep m.board.config m.view fault

-- a legal history of its board has fewer entries than the member has seen
pub record SeesMore (m : BoardMember) : Type 0 where
  pub history : List Entry
  pub legal : IsLegal m.board.config history
  pub fewer : length history < length m.view.seen

-- why the member wasn't shown something
abbrev pub IsShowError : BoardMember → ℕ → Type 0
IsShowError m error = IsLockError error ⊎ ((error ≡ BEHIND) × SeesMore m)

-- the same of a list of orders or a new copy, which take memory
abbrev pub IsListError : BoardMember → ℕ → Type 0
IsListError m error = IsShowError m error ⊎ (error ≡ NO_MEMORY)

-- the same of the orders of whom a number says, which is looked at first
abbrev pub IsOrdersError : Option (Option ℕ) → BoardMember → ℕ → Type 0
IsOrdersError None m error = error ≡ BAD_MEMBER
IsOrdersError (Some of) m error = IsListError m error

-- the same of a ladder, whose arrays may have other lengths than there are ticks, which is looked at first
abbrev pub IsLadderError : BoardMember → ℕ → ℕ → ℕ → Type 0
IsLadderError m bids asks error =
    IsLockError error
    ⊎ (((error ≡ BAD_LENGTH) × (ladder_error (ticks_of m.board.config) bids asks ≡ BAD_LENGTH))
    ⊎ ((error ≡ BEHIND) × (ladder_error (ticks_of m.board.config) bids asks ≡ 0) × SeesMore m))

-- The handle's member asks its board for something, and is shown it where the answer is 0. Else the error says why not,
-- and the member is as it was. In any case the handle keeps its terms.
pub record AsksBoard (Shows : BoardMember → BoardMember → Type 0) (IsError : BoardMember → ℕ → Type 0)
    (old new : AuctionMember) (answer : ℕ) : Type 0 where
  pub shown : answer ≡ 0 → HoldsAfter Shows old.boxed.value new.boxed.value
  pub missing : IfNone old.boxed.value (answer ≡ NO_MEMBER)
  pub error : IfSome old.boxed.value (λ (m : BoardMember). 0 < answer → IsError m answer)
  pub same : 0 < answer → new.boxed.value ≡ old.boxed.value
  pub terms : KeepsMemberTerms old new

-- the member has seen all calls of this legal history, and is else as before
pub record SeesHistory (old new : BoardMember) (history : List Entry) : Type 0 where
  pub board : new.board ≡ old.board
  pub legal : IsLegal old.board.config history
  pub story : SeesStory (calls_of history) old.view new.view

-- the quantities of the orders that count after all calls that the member has seen now
pub record ShowsLadder (bids asks : List ℕ) (market : AuctionMarketOrders) (calls : ℕ) (old new : BoardMember)
    : Type 0 where
  pub history : List Entry
  pub sees : SeesHistory old new history
  pub bids_are : bids ≡ (ladder_after old.board.config (calls_of history)).bids
  pub asks_are : asks ≡ (ladder_after old.board.config (calls_of history)).asks
  pub market_is : market ≡ market_out (ladder_after old.board.config (calls_of history))
  pub calls_are : calls ≡ length history

-- the trades after the first ones, as many as fit, after all calls that the member has seen now
pub record ShowsTrades (seen : ℕ) (room trades : List AuctionTrade) (copied calls : ℕ) (old new : BoardMember)
    : Type 0 where
  pub history : List Entry
  pub sees : SeesHistory old new history
  pub copied_is : copied ≡ min (length (drop seen (tape_after old.board.config (calls_of history)))) (length room)
  pub trades_are : trades
      ≡ map trade_out (take copied (drop seen (tape_after old.board.config (calls_of history)))) ++ drop copied room
  pub calls_are : calls ≡ length history

-- the orders that are listed of the auction, as many as fit, after all calls that the member has seen now
pub record ShowsOrders (listed : RunningAuction → List OpenOrder) (room orders : List AuctionOrder) (copied calls : ℕ)
    (old new : BoardMember) : Type 0 where
  pub history : List Entry
  pub sees : SeesHistory old new history
  pub copied_is : copied ≡ min (length (listed (auction_after old.board.config (calls_of history)))) (length room)
  pub orders_are : orders
      ≡ map order_out (take copied (listed (auction_after old.board.config (calls_of history)))) ++ drop copied room
  pub calls_are : calls ≡ length history

-- the open orders in priority of a member, or of all, where a number says of whom
abbrev pub ShowsOrdersOf : Option (Option ℕ) → List AuctionOrder → List AuctionOrder → ℕ → ℕ → BoardMember
    → BoardMember → Type 0
ShowsOrdersOf None room orders copied calls old new = ⊥
ShowsOrdersOf (Some of) room orders copied calls old new =
    ShowsOrders (λ (a : RunningAuction). orders_in_priority of a.state) room orders copied calls old new

-- where the day is after all calls that the member has seen now
pub record ShowsState (reserve : ℕ) (out : AuctionDayState) (old new : BoardMember) : Type 0 where
  pub history : List Entry
  pub sees : SeesHistory old new history
  pub state_is : out ≡ state_out reserve (auction_after old.board.config (calls_of history))

-- the copy is the board's auction after all calls that the member has seen now
pub record IsClone (copy : RunningAuction) (old new : BoardMember) : Type 0 where
  pub history : List Entry
  pub sees : SeesHistory old new history
  pub copy_is : copy ≡ auction_after old.board.config (calls_of history)

-- the entries of the history after the first ones, as many as fit, of all calls that the member has seen now
pub record ShowsEntries (seen : ℕ) (room entries : List AuctionEntry) (copied : ℕ) (old new : BoardMember)
    : Type 0 where
  pub history : List Entry
  pub sees : SeesHistory old new history
  pub copied_is : copied ≡ min (length (drop seen history)) (length room)
  pub entries_are : entries ≡ map entry_out (take copied (drop seen history)) ++ drop copied room

-- the handle holds the member with this number of this board, whose account is one of this history
abbrev pub HoldsAccount : BoardHistory → ℕ → Option BoardMember → Type 0
HoldsAccount f number h = IsSomeAnd h
    (λ (m : BoardMember). (m.board ≡ f.board) × (m.view.number ≡ number) × IsAccount (calls_of f.history) m.view)

-- all members of the board, in the order of their numbers, are held, and their accounts are of this history
pub record HoldAccounts (f : BoardHistory) (handles : List AuctionMember) : Type 0 where
  pub all : length handles ≡ f.board.members
  pub each : (k : ℕ) (d : AuctionMember) → k < length handles → HoldsAccount f k (get_or handles k d).boxed.value

-- what is wrong with the member at this place: another board, another number, or an account that isn't one of this
-- legal history
abbrev pub IsAccountError : BoardHistory → ℕ → BoardMember → ℕ → Type 0
IsAccountError f place m error =
    ((m.board.identity ≢ f.board.identity) × (error ≡ MISSING_MEMBER))
    ⊎ (((m.view.number ≢ place) × (error ≡ MISSING_MEMBER))
    ⊎ ((m.board ≡ f.board) × (m.view.number ≡ place) × (error ≡ BEHIND) × IsLegal f.board.config f.history
    × (IsAccount (calls_of f.history) m.view → ⊥)))

-- the same of a handle
abbrev pub IsHandleError : BoardHistory → ℕ → Option BoardMember → ℕ → Type 0
IsHandleError f place None error = error ≡ NO_MEMBER
IsHandleError f place (Some m) error = IsAccountError f place m error

-- the first error of handles that are as many as the members
pub record IsFirstError (f : BoardHistory) (handles : List AuctionMember) (error : ℕ) : Type 0 where
  pub all : length handles ≡ f.board.members
  pub place : ℕ
  pub within : place < length handles
  pub before : (k : ℕ) (d : AuctionMember) → k < place → HoldsAccount f k (get_or handles k d).boxed.value
  pub here : (d : AuctionMember) → IsHandleError f place (get_or handles place d).boxed.value error

-- why these handles don't bring the accounts of all members
abbrev pub IsAccountsError : BoardHistory → List AuctionMember → ℕ → Type 0
IsAccountsError f handles error =
    ((length handles ≢ f.board.members) × (error ≡ MISSING_MEMBER)) ⊎ IsFirstError f handles error

-- arrays of these lengths have no room for a closing of the board
abbrev pub lacks_room : OpenedBoard → ℕ → ℕ → Bool
lacks_room board entries counts = nat_lt entries board.config.max_calls || not (nat_eq counts board.members)

-- what the first handle holds
abbrev pub first_boxed : List AuctionMember → Option BoardMember
first_boxed [] = None
first_boxed (h ∷ hs) = h.boxed.value

-- why a board, for whose closing there is room, wasn't closed
abbrev pub IsCloseError : OpenedBoard → List AuctionMember → ℕ → Type 0
IsCloseError board handles error =
    IsLockError error
    ⊎ ((history : List Entry) × IsAccountsError (board_history board history) handles error)

-- the board's history was written into this room, with the counts of its members: it is a closing of the board of all
-- these handles
pub record WritesClosing (board : OpenedBoard) (handles : List AuctionMember) (room entries : List AuctionEntry)
    (counts : List ℕ) (written : ℕ) : Type 0 where
  pub closing : Closing
  pub closed : IsClosingOf board closing
  pub accounts : HoldAccounts (board_history board closing.history.items) handles
  pub entries_are : entries ≡ map entry_out closing.history.items ++ drop written room
  pub written_is : written ≡ length closing.history.items
  pub counts_are : counts ≡ closing.calls.items

-- a handle holds a member
abbrev pub is_in_use : List AuctionMember → Bool
is_in_use handles = list_any (λ (h : AuctionMember). is_some h.boxed.value) handles

-- no two boards of the handles have the same identity: each member's board is the one with its identity
abbrev pub AreOfBoards : (ℕ → OpenedBoard) → List AuctionMember → Type 0
AreOfBoards boards handles =
    All (λ (h : AuctionMember). IfSome h.boxed.value (λ (m : BoardMember). m.board ≡ boards m.board.identity)) handles

-- each handle holds the member with its place's number, all of one new board of this identity, config and reserve
pub record HoldsNewMembers (identity : ℕ) (config : Config) (reserve : ℕ) (handles : List AuctionMember) : Type 0 where
  pub book : Book
  pub boxed : map (λ (h : AuctionMember). h.boxed.value) handles
      ≡ map Some (new_board_members (opened_board identity config (length handles) book) (length handles))
  pub reserves : All (λ (h : AuctionMember). h.reserve ≡ reserve) handles
