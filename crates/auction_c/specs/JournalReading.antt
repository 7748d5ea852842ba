-- How lines of a journal are written for C, and a journal's text is read.
use Rattle.std.specs.Prelude.{◌≡◌, ℕ, ◌+◌, ◌-◌, ◌⊎◌, ◌<◌, ◌≤◌, Bool, true, false, ◌==◌, ◌&&◌, if◌then◌else◌, List}
use Rattle.std.specs.Prelude.{◌++◌, length, map, take, drop, Option, Some, None, Result, Ok, Err}
use Rattle.std.specs.List.{count_by}
use Rattle.auction_terms.specs.declared.Entry.{Entry}
use Rattle.auction_terms.specs.declared.Price.{Price}
use Rattle.auction_terms.specs.Auxiliary.RunningAuction.{RunningAuction}
use Rattle.day_road.specs.Heard.{HeardEntry}
use Rattle.day_road.specs.ReplyPairs.{ReplyPair, pair_in}
use Rattle.journal.specs.JournalFile.{RecordedDay}
use Rattle.journal.specs.PrintedJournal.{call_line}
use Rattle.order_file.specs.declared.fault.FileFault.{FileFault}
use Rattle.order_file.specs.declared.fault.FileFault.TheVariants.{TooLong, ReadFailed, BadMember, BadCommand, BadCount}
use Rattle.order_file.specs.declared.fault.FileFault.TheVariants.{BadField, TooManyCommands, NotADay}
use Rattle.order_file.specs.declared.fault.FileFault.TheVariants.{NoMemory as MemoryRefused}
use Rattle.auction_c.specs.Encoding.{flag_out}
use Rattle.auction_c.specs.Journals.{StopsAt, auction_in, first_unlawful_call, journal_found}
use Rattle.auction_c.specs.Journals.{is_compared, is_unlawful, journal_error, journal_in, lines_found}
use Rattle.auction_c.specs.ReadBack.{price_back}
use Rattle.auction_c.specs.declared.errors.TheConstants.{BAD_JOURNAL, DONE, NO_MEMORY}
use Rattle.auction_c.specs.declared.journals.comparing.Compared.{Compared}
use Rattle.auction_c.specs.declared.journals.comparing.Comparison.{Comparison}
use Rattle.auction_c.specs.declared.structs.AuctionJournal.{AuctionJournal}
use Rattle.auction_c.specs.declared.structs.AuctionReply.{AuctionReply}

-- ---- entries

-- the price in a reply that has one or none
abbrev pub price_if_any : AuctionReply → Option Price
price_if_any r = if r.has_tick == 1 then Some (price_back r) else None

-- the line of an entry was written behind what was before, and counted; or none was
abbrev pub WritesLine : Option Entry → List ℕ → List ℕ → ℕ → ℕ → Option ℕ → Type 0
WritesLine entry old new before after None = (e : Entry) × (entry ≡ Some e) × (after ≡ before + length (call_line e))
    × (after ≤ length old) × (new ≡ take before old ++ (call_line e ++ drop after old))
WritesLine entry old new before after (Some error) =
    (new ≡ old) × (after ≡ before) × StopsAt error (length old - before) entry

-- ---- replies as they come

-- the number of the first unlawful one, with one more
abbrev pub first_with : ℕ → Bool → ℕ → ℕ
first_with first unlawful number = if (first == 0) && unlawful then number else first

-- with one more call, whose recorded reply is compared or not, and unlawful or not
abbrev pub compared_with : Compared → Bool → Bool → Compared
compared_with c compared unlawful = record {
  calls = c.calls + 1;
  compared = c.compared + flag_out compared;
  unlawful = c.unlawful + flag_out unlawful;
  first_unlawful = first_with c.first_unlawful unlawful (c.calls + 1);
}

-- these replies are compared
abbrev pub compared_of : List ReplyPair → Compared
compared_of list = record {
  calls = length list;
  compared = count_by is_compared list;
  unlawful = count_by is_unlawful list;
  first_unlawful = first_unlawful_call list;
}

-- what is told of it, for so many members
abbrev pub told : Compared → ℕ → ℕ → AuctionJournal
told c members calls = record {
  record_number = 0;
  field_number = 0;
  fault = 0;
  members = members;
  calls = calls;
  compared = c.compared;
  unlawful = c.unlawful;
  first_unlawful = c.first_unlawful;
  taken = 0;
}

-- these were compared, and are all that came to this auction
abbrev pub HasCompared : Comparison → RunningAuction → List HeardEntry → Type 0
HasCompared c auction heard = (c.counts ≡ compared_of (map pair_in heard)) × (length heard ≡ auction.calls)

-- ---- the whole

-- the auction of the journal came of it, and this was found
abbrev pub Reads : Result RecordedDay FileFault → RunningAuction → AuctionJournal → Type 0
Reads said auction found = (journal_error said ≡ DONE) × (auction_in said ≡ Some auction) × (found ≡ journal_found said)

-- none did: the journal has a fault, which was found; or its config; or memory was refused
pub record Refuses (said : Result RecordedDay FileFault) (old new : AuctionJournal) (number : ℕ) : Type 0 where
  pub error : (number ≡ journal_error said) ⊎ (number ≡ NO_MEMORY)
  pub refused : 0 < number
  pub fault : number ≡ BAD_JOURNAL → new ≡ journal_found said
  pub same : (number ≡ BAD_JOURNAL → ⊥) → new ≡ old

-- the fault is the journal's: neither was memory refused nor did a read fail
abbrev pub is_of_journal : FileFault → Bool
is_of_journal TooLong = true
is_of_journal (BadMember number) = true
is_of_journal (BadCommand number) = true
is_of_journal (BadCount number) = true
is_of_journal (BadField number field) = true
is_of_journal (TooManyCommands number) = true
is_of_journal NotADay = true
is_of_journal ReadFailed = false
is_of_journal MemoryRefused = false

-- what came of it
abbrev pub ReadsOrRefuses : Result RecordedDay FileFault → AuctionJournal → AuctionJournal → Result RunningAuction ℕ
    → Type 0
ReadsOrRefuses said old new (Ok auction) = Reads said auction new
ReadsOrRefuses said old new (Err error) = Refuses said old new error

-- what came of a text: the auction of its whole lines, and what is told of them
abbrev pub ReadsText : List ℕ → AuctionJournal → AuctionJournal → Result RunningAuction ℕ → Type 0
ReadsText text old new (Ok auction) = (journal_error (journal_in text) ≡ DONE)
    × (auction_in (journal_in text) ≡ Some auction) × (new ≡ lines_found text)
ReadsText text old new (Err error) = Refuses (journal_in text) old new error
