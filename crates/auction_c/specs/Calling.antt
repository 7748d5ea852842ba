-- What a call from C does to the auction that its handle holds, and what it answers.
use Rattle.std.specs.Prelude.{ℕ, ◌+◌, ◌-◌, ◌&&◌, ◌||◌, ◌==◌, nat_eq, if◌then◌else◌, List, [], ◌∷◌, length, drop}
use Rattle.std.specs.Prelude.{Bool, Option, Some, None}
use Rattle.std.specs.Option.{option_map_or}
use Rattle.auction_terms.specs.declared.Command.{Command}
use Rattle.auction_terms.specs.declared.Config.{Config}
use Rattle.auction_terms.specs.declared.Trade.{Trade}
use Rattle.auction_terms.specs.Day.{step}
use Rattle.auction_terms.specs.Auxiliary.RunningAuction.{RunningAuction, auction_after_call}
use Rattle.auction_terms.specs.Ladder.{LadderView}
use Rattle.auction.specs.AuctionState.{current_orders, ladder_over, call_by}
use Rattle.auction.specs.declared.OpenFault.{OpenFault}
use Rattle.auction.specs.declared.OpenFault.TheVariants.{BadBounds, BadReference, BadCapacity, NoMemory}
use Rattle.auction_c.specs.declared.errors.TheConstants.{BAD_BOUNDS, BAD_REFERENCE, BAD_CAPACITY, NO_MEMORY}
use Rattle.auction_c.specs.declared.errors.TheConstants.{DONE, NO_AUCTION, NO_COMMAND, FULL, BAD_LENGTH}
use Rattle.auction_c.specs.declared.errors.TheConstants.{BUSY, BEHIND, CLOSED, OVERTAKEN}
use Rattle.board_terms.specs.declared.calls.CallFault.TheVariants.{HistoryFull, OutOfStep, Overtaken}
use Rattle.auction.specs.Reserve.{is_reserved_from}
use Rattle.shared_board.specs.declared.member.BoardFault.{BoardFault}
use Rattle.shared_board.specs.declared.member.BoardFault.TheVariants.{Busy, Closed, Call as CallRefused}
use Rattle.auction_c.specs.declared.structs.AuctionCommand.{AuctionCommand}
use Rattle.auction_c.specs.declared.structs.AuctionReply.{AuctionReply}
use Rattle.auction_c.specs.Decoding.{command_in}
use Rattle.auction_c.specs.Encoding.{reply_out}

abbrev pub fault_number : OpenFault → ℕ
fault_number BadBounds = BAD_BOUNDS
fault_number BadReference = BAD_REFERENCE
fault_number BadCapacity = BAD_CAPACITY
fault_number NoMemory = NO_MEMORY

abbrev pub board_fault_number : BoardFault → ℕ
board_fault_number Busy = BUSY
board_fault_number Closed = CLOSED
board_fault_number (CallRefused HistoryFull) = FULL
board_fault_number (CallRefused (OutOfStep history counted)) = BEHIND
board_fault_number (CallRefused Overtaken) = OVERTAKEN

-- what a call answers that each auction can: an error only where the handle holds none
abbrev pub answer_of_held : Option RunningAuction → ℕ
answer_of_held held = option_map_or (λ (a : RunningAuction). DONE) held NO_AUCTION

-- ---- one command

-- the error number, and what the auction and the reply struct are after the call
pub record ApplyResult : Type 0 where
  pub error : ℕ
  pub auction : RunningAuction
  pub reply : AuctionReply

-- an error, with nothing changed
abbrev pub not_applied : ℕ → RunningAuction → AuctionReply → ApplyResult
not_applied error a reply = record { error = error; auction = a; reply = reply }

-- no call is left to the member: as many commands were applied as may be, or those that are left are the operator's
abbrev pub has_none_left : ℕ → RunningAuction → ℕ → Bool
has_none_left reserve a member =
    nat_eq a.calls a.config.max_calls || is_reserved_from reserve a.config member a.calls

-- a command of a member: one step of the day, unless no call is left to it
abbrev pub apply_command : ℕ → RunningAuction → ℕ → Command → AuctionReply → ApplyResult
apply_command reserve a member command before =
    if has_none_left reserve a member
    then not_applied FULL a before
    else record {
      error = DONE;
      auction = auction_after_call a (call_by member command);
      reply = reply_out (step a.config a.state (call_by member command)).1;
    }

abbrev pub apply_decoded : ℕ → RunningAuction → ℕ → Option Command → AuctionReply → ApplyResult
apply_decoded reserve a member None before = not_applied NO_COMMAND a before
apply_decoded reserve a member (Some command) before = apply_command reserve a member command before

-- the command in the struct
abbrev pub apply_struct : ℕ → RunningAuction → AuctionCommand → AuctionReply → ApplyResult
apply_struct reserve a c before = apply_decoded reserve a c.member (command_in c) before

-- ---- many commands

-- the first error, how many were applied before it, and what the auction and the reply structs are then
pub record ApplyAllResult : Type 0 where
  pub error : ℕ
  pub applied : ℕ
  pub auction : RunningAuction
  pub replies : List AuctionReply

-- an error at the first, or none to apply
abbrev pub nothing_applied : ℕ → RunningAuction → List AuctionReply → ApplyAllResult
nothing_applied error a replies = record { error = error; applied = 0; auction = a; replies = replies }

abbrev pub one_more : AuctionReply → ApplyAllResult → ApplyAllResult
one_more reply rest = record rest { applied = rest.applied + 1; replies = reply ∷ rest.replies }

-- one after another, up to the first error
abbrev pub apply_structs : ℕ → RunningAuction → List AuctionCommand → List AuctionReply → ApplyAllResult
apply_structs reserve a [] replies = nothing_applied DONE a replies
apply_structs reserve a (c ∷ cs) [] = nothing_applied DONE a []
apply_structs reserve a (c ∷ cs) (r ∷ rs) =
    if (apply_struct reserve a c r).error == DONE
    then one_more (apply_struct reserve a c r).reply
    (apply_structs reserve (apply_struct reserve a c r).auction cs rs)
    else nothing_applied (apply_struct reserve a c r).error a (r ∷ rs)

-- where there is a reply struct for each command
abbrev pub apply_all : ℕ → RunningAuction → List AuctionCommand → List AuctionReply → ApplyAllResult
apply_all reserve a commands replies =
    if nat_eq (length replies) (length commands)
    then apply_structs reserve a commands replies
    else nothing_applied BAD_LENGTH a replies

-- ---- what is shown

-- how many ticks the bounds have
abbrev pub ticks_of : Config → ℕ
ticks_of config = config.high + 1 - config.low

-- the ladder of the orders that count
abbrev pub ladder_now : RunningAuction → LadderView
ladder_now a = ladder_over a.config (current_orders a.state)

-- arrays of these lengths for `ticks` ticks
abbrev pub ladder_error : ℕ → ℕ → ℕ → ℕ
ladder_error ticks bids asks = if nat_eq bids ticks && nat_eq asks ticks then DONE else BAD_LENGTH

-- the trades of the day after the first ones, none where no auction is held
abbrev pub unseen_trades : ℕ → Option RunningAuction → List Trade
unseen_trades seen None = []
unseen_trades seen (Some a) = drop seen a.state.tape
