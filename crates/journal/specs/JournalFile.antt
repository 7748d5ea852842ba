-- What a journal says: its day, its calls, and the recorded texts of their replies; or its first fault.
use Rattle.std.specs.Prelude.{ℕ, ◌+◌, List, [], ◌∷◌, map, nat_le, if◌then◌else◌, Result, Ok, Err}
use Rattle.csv.specs.Reading.{default_config, records, strip_bom}
use Rattle.auction_terms.specs.declared.Call.{Call}
use Rattle.auction_terms.specs.Results.{◌>>=◌}
use Rattle.order_file.specs.File.{within_limit}
use Rattle.order_file.specs.Record.{with_record_number}
use Rattle.order_file.specs.declared.fault.FileFault.{FileFault}
use Rattle.order_file.specs.declared.fault.FileFault.TheVariants.{NotADay, TooManyCommands}
use Rattle.journal.specs.declared.day.DayHeader.{DayHeader}
use Rattle.journal.specs.declared.reading.TheConstants.{MAX_JOURNAL_BYTES}
use Rattle.journal.specs.DayRecord.{day_of_record, is_day_row}
use Rattle.journal.specs.EntryRecord.{RecordedCall, call_part, recorded_call_of, reply_part}

-- a day, its calls, and the recorded text of each call's reply
pub record RecordedDay : Type 0 where
  pub day : DayHeader
  pub calls : List Call
  pub texts : List (List ℕ)

abbrev pub recorded_day : DayHeader → List RecordedCall → RecordedDay
recorded_day day recording = record { day = day; calls = map call_part recording; texts = map reply_part recording }

-- What the records say that come after the day's and after `before` others; the day's is record 1.
unfoldable pub recorded_calls_after : ℕ → ℕ → ℕ → List (List (List ℕ)) → Result (List RecordedCall) FileFault
recorded_calls_after members max_calls before [] = Ok []
recorded_calls_after members max_calls before (row ∷ rows) =
    if nat_le max_calls before then Err (TooManyCommands (before + 2))
    else do
      recording ← with_record_number (before + 2) (recorded_call_of members row)
      rest ← recorded_calls_after members max_calls (before + 1) rows
      Ok (recording ∷ rest)

-- what the records after that of this day say
unfoldable pub recorded_in : DayHeader → List (List (List ℕ)) → Result RecordedDay FileFault
recorded_in day rows =
    recorded_calls_after day.members day.config.max_calls 0 rows >>= λ recording. Ok (recorded_day day recording)

unfoldable pub journal_of_rows : List (List (List ℕ)) → Result RecordedDay FileFault
journal_of_rows [] = Err NotADay
journal_of_rows (row ∷ rows) =
    if is_day_row row then (with_record_number 1 (day_of_record row) >>= λ day. recorded_in day rows) else Err NotADay

unfoldable pub journal_of : List ℕ → Result RecordedDay FileFault
journal_of bytes = journal_of_rows (records default_config (strip_bom bytes))

-- what the bytes of a journal say, or their first fault
unfoldable pub journal : List ℕ → Result RecordedDay FileFault
journal bytes = within_limit MAX_JOURNAL_BYTES bytes >>= journal_of
