-- Journals from C: the day that a struct says, the entries that structs say, and what is found in a journal's text.
use Rattle.std.specs.Prelude.{◌≡◌, ℕ, ◌+◌, ◌-◌, ◌^◌, ◌<◌, ◌⊎◌, ◌==◌, ◌&&◌, nat_lt, nat_le, min, not, Bool, true, false}
use Rattle.std.specs.Prelude.{if◌then◌else◌, List, [], ◌∷◌, ◌++◌, length, map, take, drop, slice_get, Option, Some}
use Rattle.std.specs.Prelude.{None, option_and_then, option_map, unwrap_or, Result, Ok, Err}
use Rattle.std.specs.List.{count_by, position_from}
use Rattle.std.specs.Option.{option_map_or}
use Rattle.std.specs.Str.{bytes_eq}
use Rattle.auction.specs.ConfigFault.{open_fault}
use Rattle.auction.specs.declared.OpenFault.{OpenFault}
use Rattle.auction_terms.specs.declared.Command.{Command}
use Rattle.auction_terms.specs.declared.Command.TheVariants.{Enter, Change, Delete, OrderStatus, Indicate, ReadTrade}
use Rattle.auction_terms.specs.declared.Command.TheVariants.{Uncross}
use Rattle.auction_terms.specs.declared.Config.{Config}
use Rattle.auction_terms.specs.declared.Entry.{Entry}
use Rattle.auction_terms.specs.declared.Price.{Price}
use Rattle.auction_terms.specs.declared.Reply.{Reply}
use Rattle.auction_terms.specs.declared.Reply.TheVariants.{Entered, Changed, Deleted, OpenOrder, Indicated, Traded}
use Rattle.auction_terms.specs.declared.Reply.TheVariants.{Uncrossed, Interrupted, Refused}
use Rattle.auction_terms.specs.declared.limits.TheConstants.{MAX_MEMBERS, MAX_TICK}
use Rattle.auction_terms.specs.Auxiliary.RunningAuction.{RunningAuction, auction_after}
use Rattle.auction_terms.specs.Results.{◌>>=◌}
use Rattle.day_road.specs.ReplyPairs.{ReplyPair, pairs_in}
use Rattle.journal.specs.JournalFile.{RecordedDay, journal_of}
use Rattle.journal.specs.JournalText.{journal_text}
use Rattle.journal.specs.PrintedJournal.{call_line, call_lines}
use Rattle.journal.specs.declared.day.DayHeader.{DayHeader}
use Rattle.journal.specs.declared.reading.TheConstants.{MAX_JOURNAL_BYTES}
use Rattle.journal_file.specs.Committed.{committed}
use Rattle.order_file.specs.File.{within_limit}
use Rattle.order_file.specs.declared.fault.FileFault.{FileFault}
use Rattle.order_file.specs.declared.fault.FileFault.TheVariants.{TooLong, ReadFailed, BadMember, BadCommand, BadCount}
use Rattle.order_file.specs.declared.fault.FileFault.TheVariants.{BadField, TooManyCommands, NotADay}
use Rattle.order_file.specs.declared.fault.FileFault.TheVariants.{NoMemory as MemoryRefused}
use Rattle.auction_c.specs.declared.errors.TheConstants.{BAD_JOURNAL, BAD_MEMBER, DONE, NO_CONFIG, NO_ENTRY, NO_MEMORY}
use Rattle.auction_c.specs.declared.structs.AuctionCommand.{AuctionCommand}
use Rattle.auction_c.specs.declared.structs.AuctionConfig.{AuctionConfig}
use Rattle.auction_c.specs.declared.structs.AuctionEntry.{AuctionEntry}
use Rattle.auction_c.specs.declared.structs.AuctionJournal.{AuctionJournal}
use Rattle.auction_c.specs.declared.structs.AuctionReply.{AuctionReply}
use Rattle.auction_c.specs.Calling.{fault_number}
use Rattle.auction_c.specs.Decoding.{command_in, config_in}
use Rattle.auction_c.specs.Encoding.{reply_out}
use Rattle.auction_c.specs.ReadBack.{reply_back}

-- ---- text in a room

-- this text is at the head of the room, and what is behind it is as it was
abbrev pub StandsAtHead : List ℕ → List ℕ → List ℕ → ℕ → Type 0
StandsAtHead text old new written = (new ≡ text ++ drop written old) × (written ≡ length text)

-- ---- the day

abbrev pub is_above : ℕ → Option ℕ → Bool
is_above most None = false
is_above most (Some number) = nat_lt most number

-- the day of a config that has this fault, or none, or the error: a journal says ranges and members up to a limit
abbrev pub day_unless : Option OpenFault → Config → ℕ → Result DayHeader ℕ
day_unless (Some fault) config members = Err (fault_number fault)
day_unless None config members =
    if is_above MAX_TICK config.range then Err NO_CONFIG
    else if nat_le 1 members && nat_le members MAX_MEMBERS then Ok (record { config = config; members = members })
    else Err BAD_MEMBER

abbrev pub day_of_config : Option Config → ℕ → Result DayHeader ℕ
day_of_config None members = Err NO_CONFIG
day_of_config (Some config) members = day_unless (open_fault config) config members

-- the day of the config in a struct, for so many members, or the error
unfoldable pub day_in : AuctionConfig → ℕ → Result DayHeader ℕ
day_in c members = day_of_config (config_in c) members

-- ---- entries

abbrev pub fits_32_bits : ℕ → Bool
fits_32_bits number = nat_lt number (2 ^ 32)

abbrev pub fits_32_bits_if_any : Option ℕ → Bool
fits_32_bits_if_any None = true
fits_32_bits_if_any (Some number) = fits_32_bits number

-- a record holds each number of the command: those of 32 bits in a struct are short
abbrev pub fits_record : Command → Bool
fits_record (Enter side restriction limit quantity peak) = fits_32_bits quantity && fits_32_bits_if_any peak
fits_record (Change id limit quantity) = fits_32_bits quantity
fits_record (Delete id) = true
fits_record (OrderStatus id) = true
fits_record Indicate = true
fits_record (ReadTrade number) = true
fits_record Uncross = true

-- the command in a struct that a record can hold, of one of the members that a board may have
abbrev pub recordable_command : AuctionCommand → Option Command
recordable_command c =
    option_and_then
    (λ command. if nat_lt c.member MAX_MEMBERS && fits_record command then Some command else None) (command_in c)

-- each number is the same, in the order of the struct, as a derived `==` compares them
abbrev pub is_same_reply : AuctionReply → AuctionReply → Bool
is_same_reply r s =
    (r.quantity == s.quantity) && ((r.visible == s.visible) && ((r.volume == s.volume) && (
    (r.surplus == s.surplus) && ((r.id == s.id) && ((r.ask == s.ask) && ((r.tick == s.tick) && (
    (r.trades == s.trades) && ((r.best_bid == s.best_bid) && ((r.best_ask == s.best_ask) && ((r.tag == s.tag) && (
    (r.side == s.side) && ((r.auction == s.auction) && ((r.kept == s.kept) && ((r.refusal == s.refusal) && (
    (r.has_tick == s.has_tick) && ((r.has_best_bid == s.has_best_bid) &&
    (r.has_best_ask == s.has_best_ask)))))))))))))))))

-- the text of an uncross says of all its trades: without a price it says of none
abbrev pub is_printed_uncross : ℕ → Option Price → Bool
is_printed_uncross trades None = trades == 0
is_printed_uncross trades (Some price) = true

-- the text of the reply says all of it
abbrev pub is_fully_printed : Reply → Bool
is_fully_printed (Entered id) = true
is_fully_printed (Changed kept) = true
is_fully_printed Deleted = true
is_fully_printed (OpenOrder side limit quantity visible) = true
is_fully_printed (Indicated display) = true
is_fully_printed (Traded trade) = true
is_fully_printed (Uncrossed kind trades price) = is_printed_uncross trades price
is_fully_printed (Interrupted price) = true
is_fully_printed (Refused reason) = true

-- the reply that is written as this struct, if there is one, and if its text says all of it
unfoldable pub decoded_reply : AuctionReply → Option Reply
decoded_reply r =
    if is_same_reply (reply_out (reply_back r)) r && is_fully_printed (reply_back r) then Some (reply_back r) else None

-- the entry in a struct that a journal can hold, if there is one
unfoldable pub decoded_entry : AuctionEntry → Option Entry
decoded_entry e =
    option_and_then (λ command.
    option_map (λ reply. record { member = e.command.member; command = command; reply = reply })
    (decoded_reply e.reply))
    (recordable_command e.command)

-- ---- the lines of entries

-- why an entry's line wasn't written in this room: the struct is none, or the line doesn't fit; or memory was refused
abbrev pub StopsAt : ℕ → ℕ → Option Entry → Type 0
StopsAt error room None = error ≡ NO_ENTRY
StopsAt error room (Some entry) = ((error ≡ DONE) × (room < length (call_line entry))) ⊎ (error ≡ NO_MEMORY)

-- why no more lines were written: there are no more structs, or the next stops it
abbrev pub Stops : ℕ → ℕ → Option AuctionEntry → Type 0
Stops error room None = error ≡ DONE
Stops error room (Some next) = StopsAt error room (decoded_entry next)

-- the lines of the entries in the first structs were written, one after the other, and go on a journal of any entries
pub record WritesLines (entries : List AuctionEntry) (old new : List ℕ) (copied written error : ℕ) : Type 0 where
  pub lines : List Entry
  pub are : map decoded_entry (take copied entries) ≡ map Some lines
  pub count : length lines ≡ copied
  pub stand : StandsAtHead (call_lines 0 lines) old new written
  pub goes_on : (day : DayHeader) (before : List Entry)
      → journal_text day before ++ take written new ≡ journal_text day (before ++ lines)
  pub stops : Stops error (length old - written) (slice_get entries copied)

-- ---- what is found in a journal's text

-- what the whole lines of a text say, those up to its last line end before any NUL, or their first fault; before it
-- comes that all of the text is too long
unfoldable pub journal_in : List ℕ → Result RecordedDay FileFault
journal_in text = within_limit MAX_JOURNAL_BYTES text >>= λ whole. journal_of (committed whole)

abbrev pub has_text : List ℕ → Bool
has_text [] = false
has_text (b ∷ bs) = true

abbrev pub is_compared : ReplyPair → Bool
is_compared a = has_text a.recorded

-- a recorded reply isn't the lawful one
abbrev pub is_unlawful : ReplyPair → Bool
is_unlawful a = has_text a.recorded && not (bytes_eq a.recorded a.lawful)

-- the number, from 1 on, of the first that isn't; 0 where each is
abbrev pub first_unlawful_call : List ReplyPair → ℕ
first_unlawful_call list = unwrap_or (position_from is_unlawful 1 list) 0

-- what is told of so many calls, for so many members, with these replies
abbrev pub counts_found : ℕ → ℕ → List ReplyPair → AuctionJournal
counts_found members calls list = record {
  record_number = 0;
  field_number = 0;
  fault = 0;
  members = members;
  calls = calls;
  compared = count_by is_compared list;
  unlawful = count_by is_unlawful list;
  first_unlawful = first_unlawful_call list;
  taken = 0;
}

-- a fault of this kind, of the record and the field with these numbers
abbrev pub fault_at : ℕ → ℕ → ℕ → AuctionJournal
fault_at kind number field = record {
  record_number = number;
  field_number = field;
  fault = kind;
  members = 0;
  calls = 0;
  compared = 0;
  unlawful = 0;
  first_unlawful = 0;
  taken = 0;
}

-- a fault of a journal
abbrev pub fault_found : FileFault → AuctionJournal
fault_found TooLong = fault_at 1 0 0
fault_found (BadMember number) = fault_at 2 number 0
fault_found (BadCommand number) = fault_at 3 number 0
fault_found (BadCount number) = fault_at 4 number 0
fault_found (BadField number field) = fault_at 5 number (min field (2 ^ 32 - 1))
fault_found (TooManyCommands number) = fault_at 6 number 0
fault_found NotADay = fault_at 7 1 0
fault_found ReadFailed = fault_at 0 0 0
fault_found MemoryRefused = fault_at 0 0 0

-- what is told of a journal, by what its text says
abbrev pub journal_found : Result RecordedDay FileFault → AuctionJournal
journal_found (Ok j) = counts_found j.day.members (length j.calls) (pairs_in j)
journal_found (Err fault) = fault_found fault

-- what is told of a text whose whole lines are a journal, and how many bytes they have
abbrev pub lines_found : List ℕ → AuctionJournal
lines_found text = record (journal_found (journal_in text)) { taken = length (committed text) }

-- the error of a journal, or of its config; memory apart
abbrev pub journal_error : Result RecordedDay FileFault → ℕ
journal_error (Ok j) = option_map_or fault_number (open_fault j.day.config) DONE
journal_error (Err fault) = BAD_JOURNAL

-- the auction of its day, after all its calls
abbrev pub auction_in : Result RecordedDay FileFault → Option RunningAuction
auction_in (Ok j) = Some (auction_after j.day.config j.calls)
auction_in (Err fault) = None
