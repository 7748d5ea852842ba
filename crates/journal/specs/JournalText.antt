-- The text of a journal.
use Rattle.std.specs.Prelude.{ℕ, List, ◌∷◌, map}
use Rattle.auction_terms.specs.declared.Entry.{Entry}
use Rattle.auction_terms.specs.Day.{call_of}
use Rattle.printed_lines.specs.ReplyWords.{reply_text}
use Rattle.journal.specs.declared.day.DayHeader.{DayHeader}
use Rattle.journal.specs.DayRecord.{day_fields}
use Rattle.journal.specs.EntryRecord.{RecordedCall, recorded_call_fields}
use Rattle.journal.specs.PlainLines.{record_lines}

-- the record of the day, and then those of the calls with their replies
unfoldable pub recorded_journal : DayHeader → List RecordedCall → List ℕ
recorded_journal day recording = record_lines (day_fields day ∷ map recorded_call_fields recording)

-- an entry's call, with the text of its reply
abbrev pub recorded_call_by : Entry → RecordedCall
recorded_call_by entry = record { call = call_of entry; text = reply_text entry.reply }

-- the journal of a day with this history
abbrev pub journal_text : DayHeader → List Entry → List ℕ
journal_text day entries = recorded_journal day (map recorded_call_by entries)
