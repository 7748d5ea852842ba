-- What holds of journals.
use Rattle.std.specs.Prelude.{◌≡◌, ℕ, ◌<◌, ◌≤◌, List, length, map, true, Ok}
use Rattle.std.specs.List.{AllByRecursion}
use Rattle.auction_terms.specs.declared.Call.{Call}
use Rattle.auction_terms.specs.declared.Config.{Config}
use Rattle.auction_terms.specs.declared.Entry.{Entry}
use Rattle.auction_terms.specs.declared.Reply.{Reply}
use Rattle.auction_terms.specs.Day.{IsLegal, calls_of, replay}
use Rattle.order_file.specs.Record.{call_of_record}
use Rattle.printed_lines.specs.ReplyWords.{reply_text}
use Rattle.journal.specs.PlainLines.{IsPlain}
use Rattle.journal.specs.CallFields.{FitsRecord}
use Rattle.journal.specs.DayRecord.{FitsDay}
use Rattle.journal.specs.EntryRecord.{RecordedCall, is_reply_text, call_part, recorded_call_of, reply_part}
use Rattle.journal.specs.DayWithCalls.{DayWithCalls, run_input}
use Rattle.journal.specs.JournalFile.{journal, recorded_day}
use Rattle.journal.specs.JournalText.{journal_text, recorded_call_by, recorded_journal}
use Rattle.journal.specs.WideReplies.{IsFullyPrinted, IsWideReply}
use Rattle.journal.specs.declared.day.DayHeader.{DayHeader}
use Rattle.journal.specs.declared.reading.TheConstants.{MAX_JOURNAL_BYTES}

-- a reply's text, or none, that can be in a field without quotes
pub record IsFieldText (text : List ℕ) : Type 0 where
  pub reply : is_reply_text text ≡ true
  pub plain : IsPlain text

-- a call of one of the members, which a record can hold, and such a text
pub record FitsEntry (members : ℕ) (recording : RecordedCall) : Type 0 where
  pub member : recording.call.member < members
  pub command : FitsRecord recording.call.command
  pub text : IsFieldText recording.text

-- reading a journal's text gives what was written
abbrev pub ReadsBack : Type 0
ReadsBack =
    (day : DayHeader) (recording : List RecordedCall) → FitsDay day → AllByRecursion (FitsEntry day.members) recording
    → length recording ≤ day.config.max_calls → length (recorded_journal day recording) ≤ MAX_JOURNAL_BYTES
    → journal (recorded_journal day recording) ≡ Ok (recorded_day day recording)

-- reading the journal of a history, each reply with numbers below 2 ^ 64, gives its calls and the texts of its replies
pub record FitsJournal (members : ℕ) (entry : Entry) : Type 0 where
  pub member : entry.member < members
  pub command : FitsRecord entry.command
  pub reply : IsWideReply entry.reply

abbrev pub ReadsHistory : Type 0
ReadsHistory = (day : DayHeader) (entries : List Entry) → FitsDay day → AllByRecursion (FitsJournal day.members) entries
    → length entries ≤ day.config.max_calls
    → journal (journal_text day entries) ≡ Ok (recorded_day day (map recorded_call_by entries))

-- and to a run it gives the day and the calls
abbrev pub GivesDay : Type 0
GivesDay =
    (asked day : DayHeader) (entries : List Entry) → FitsDay day → AllByRecursion (FitsJournal day.members) entries
    → length entries ≤ day.config.max_calls
    → run_input asked (journal_text day entries) ≡ Ok (record { day = day; calls = calls_of entries })

-- ---- replies and their texts

-- each number is below 2 ^ 64, and no trades are reported of an auction without a price
abbrev pub HasUniqueText : Reply → Type 0
HasUniqueText r = IsWideReply r × IsFullyPrinted r

-- replies with the same text are the same
abbrev pub AreUniqueTexts : Type 0
AreUniqueTexts = (r s : Reply) → HasUniqueText r → HasUniqueText s → reply_text r ≡ reply_text s → r ≡ s

-- there is a text to each reply, and it can be in a field without quotes
abbrev pub AreFieldTexts : Type 0
AreFieldTexts = (r : Reply) → IsWideReply r → (0 < length (reply_text r)) × IsFieldText (reply_text r)

-- ---- journals and lawful histories

-- the texts are those of the replay's replies
abbrev pub HasReplayTexts : Config → List RecordedCall → Type 0
HasReplayTexts config recording = map reply_part recording ≡ map reply_text (replay config (map call_part recording)).1

-- a legal history's journal says the replay's replies
abbrev pub LegalHasReplayTexts : Type 0
LegalHasReplayTexts = (config : Config) (entries : List Entry) → IsLegal config entries
    → HasReplayTexts config (map recorded_call_by entries)

-- each number of the replay's replies is below 2 ^ 64, as in those that an auction gives
abbrev pub HasWideReplies : Config → List Call → Type 0
HasWideReplies config calls = AllByRecursion IsWideReply (replay config calls).1

-- and no other history's does, as replies with the same text are the same
abbrev pub ReplayIsLegal : Type 0
ReplayIsLegal = (config : Config) (entries : List Entry) → length entries ≤ config.max_calls
    → AllByRecursion HasUniqueText (map (λ entry. entry.reply) entries)
    → HasWideReplies config (calls_of entries)
    → HasReplayTexts config (map recorded_call_by entries) → IsLegal config entries

-- a call that a record of an order file says is one that a record can hold
abbrev pub OrderCallsFit : Type 0
OrderCallsFit = (members : ℕ) (fields : List (List ℕ)) (call : Call) → call_of_record members fields ≡ Ok call
    → FitsRecord call.command

-- and so is one that a record of a journal says
abbrev pub JournalCallsFit : Type 0
JournalCallsFit =
    (members : ℕ) (fields : List (List ℕ)) (recording : RecordedCall) → recorded_call_of members fields ≡ Ok recording
    → FitsRecord recording.call.command

-- a call of one of `members` members that a record can hold
abbrev pub FitsCall : ℕ → Call → Type 0
FitsCall members call = (call.member < members) × FitsRecord call.command

-- a day in the ranges of its numbers, and no more calls than it may have, each of which a record can hold
pub record FitsRunInput (g : DayWithCalls) : Type 0 where
  pub day : FitsDay g.day
  pub calls : AllByRecursion (FitsCall g.day.members) g.calls
  pub few : length g.calls ≤ g.day.config.max_calls

-- a journal can hold whatever a run is given
abbrev pub RunInputFits : Type 0
RunInputFits =
    (day : DayHeader) (bytes : List ℕ) (g : DayWithCalls) → FitsDay day → run_input day bytes ≡ Ok g → FitsRunInput g
