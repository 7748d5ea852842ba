-- What a run records of a day's entries until they are printed.
use Rattle.std.specs.Prelude.{◌≡◌, ◌≤◌, ℕ, ◌++◌, List, [], ◌∷◌, length, map}
use Rattle.std.specs.Prelude.{Option, None, IfSome, unwrap_or, Result, Ok, Err}
use Rattle.auction_terms.specs.declared.Call.{Call}
use Rattle.auction_terms.specs.declared.Config.{Config}
use Rattle.auction_terms.specs.declared.Entry.{Entry}
use Rattle.auction_terms.specs.Auxiliary.RunningAuction.{RunningAuction, auction_after_call, entry_in}
use Rattle.auction.specs.ConfigFault.{open_fault}
use Rattle.auction.specs.declared.OpenFault.TheVariants.{NoMemory}
use Rattle.auction_terms.specs.Results.{◌>>=◌}
use Rattle.day_road.specs.Heard.{HeardEntry, HearsAll}
use Rattle.day_road.specs.Inputs.{silent_all}
use Rattle.day_tables.specs.BookRecorder.{HasTablesSoFar, HasAllTables}
use Rattle.day_tables.specs.TradesRecorder.{HasTradesSoFar, HasAllTrades}
use Rattle.printed_lines.specs.KeptText.{kept_text}
use Rattle.journal.specs.DayWithCalls.{DayWithCalls}
use Rattle.journal.specs.EntryRecord.{RecordedCall}
use Rattle.journal.specs.KeptLines.{HasEntryLines}
use Rattle.journal.specs.declared.day.DayHeader.{DayHeader}
use Rattle.order_file.specs.File.{FailsAsWanted, file}
use Rattle.order_file.specs.declared.fault.FileFault.{FileFault}
use Rattle.order_file.specs.declared.fault.FileFault.TheVariants as file_fault
use Rattle.settings.specs.declared.types.Form.{Form}
use Rattle.settings.specs.declared.types.Form.TheVariants as forms
use Rattle.settings.specs.declared.types.Listing.TheVariants as listing
use Rattle.program_runs.specs.declared.fault.Fault.{Fault}
use Rattle.program_runs.specs.declared.fault.Fault.TheVariants as fault
use Rattle.program_runs.specs.declared.recorder.Recorder.{Recorder}
use Rattle.program_runs.specs.declared.recorder.Recorder.TheVariants.{Lines, Journal, Trades, Book}
use Rattle.program_runs.specs.declared.recorded_day.PrintableDay.{PrintableDay}
use Rattle.day_tables.specs.AnsweredCalls.{entry_of}
use Rattle.program_runs.specs.Printed.{history_of, reply_in}

-- the form that it records for
abbrev pub form_of_recorder : Recorder → Form
form_of_recorder (Lines replies) = forms.Lines
form_of_recorder (Journal lines) = forms.Listing listing.Journal
form_of_recorder (Trades trades) = forms.Listing listing.Trades
form_of_recorder (Book book) = forms.Listing listing.Book

-- What is recorded is of these entries, after which this is the auction: their replies, their lines in the journal,
-- what the table of trades needs of them, or the tables before the uncrosses among them.
abbrev pub RecordsEntries : Recorder → RunningAuction → List Entry → Type 0
RecordsEntries (Lines replies) auction entries = replies ≡ map reply_in entries
RecordsEntries (Journal lines) auction entries = HasEntryLines (kept_text lines) entries
RecordsEntries (Trades trades) auction entries = HasTradesSoFar trades auction entries
RecordsEntries (Book book) auction entries = HasTablesSoFar book auction entries

-- the entry of a call that was heard
abbrev pub entry_heard : HeardEntry → Entry
entry_heard heard = entry_of heard.recording.call heard.reply

abbrev pub entries_heard : List HeardEntry → List Entry
entries_heard heard = map entry_heard heard

-- what is recorded is of the entries that were heard
abbrev pub RecordsHeard : Recorder → RunningAuction → List HeardEntry → Type 0
RecordsHeard recorder auction heard = RecordsEntries recorder auction (entries_heard heard)

-- What is recorded when the auction's next call comes, of the entries before it: those, and of the book the table
-- before the call too, if it is an uncross that will be accepted.
abbrev pub RecordsUpToCall : Recorder → RunningAuction → List Entry → Call → Type 0
RecordsUpToCall (Book book) auction entries call =
    HasTablesSoFar book (auction_after_call auction call) (entries ++ entry_in auction call ∷ [])
RecordsUpToCall recorder auction entries call = RecordsEntries recorder auction entries

-- the same of all entries of a day, with its tape and all its tables
abbrev pub RecordsWholeDay : Recorder → Config → List Entry → Type 0
RecordsWholeDay (Lines replies) config entries = replies ≡ map reply_in entries
RecordsWholeDay (Journal lines) config entries = HasEntryLines (kept_text lines) entries
RecordsWholeDay (Trades trades) config entries = HasAllTrades trades config entries
RecordsWholeDay (Book book) config entries = HasAllTables book config entries

-- calls that are to come, with no reply recorded
abbrev pub unanswered : Result (List Call) FileFault → Result (List RecordedCall) FileFault
unanswered calls = calls >>= silent_all

-- The calls that an order file says came to the auction and were heard, from its first; or there was its first fault.
-- Where its text is known, they are those of it.
abbrev pub RecordsCallsOfText : (List HeardEntry → Type 0) → RunningAuction → RunningAuction
    → Result (Unit {0}) FileFault → Option (List ℕ) → ℕ → Type 0
RecordsCallsOfText AreRecorded old new result text members =
    (wanted : Result (List Call) FileFault) × HearsAll AreRecorded [] old new (unanswered wanted) result
    × IfSome text (λ bytes. wanted ≡ file bytes members old.config.max_calls)

-- a day's calls, as what was given to it
abbrev pub calls_for : DayHeader → Result (List Call) FileFault → Result DayWithCalls FileFault
calls_for day r = r >>= λ calls. Ok (record { day = day; calls = calls })

-- The day of these calls could be opened, takes as many, and is recorded for this form.
abbrev pub IsRecordedDay : Form → PrintableDay → List Call → Type 0
IsRecordedDay form recorded calls =
    (form_of_recorder recorded.recorder ≡ form) × (open_fault recorded.day.config ≡ None)
    × (length calls ≤ recorded.day.config.max_calls)
    × RecordsWholeDay recorded.recorder recorded.day.config (history_of recorded.day.config calls)

-- What was said is recorded, or is at fault, or couldn't be opened.
abbrev pub RecordsDay : Form → Result DayWithCalls FileFault → Result PrintableDay Fault → Type 0
RecordsDay form said (Ok recorded) =
    (calls : List Call) × (said ≡ Ok (record { day = recorded.day; calls = calls })) × IsRecordedDay form recorded calls
RecordsDay form said (Err (fault.File f)) = FailsAsWanted f said
RecordsDay form said (Err (fault.Open f)) =
    (run_input : DayWithCalls) × (said ≡ Ok run_input) × (f ≡ unwrap_or (open_fault run_input.day.config) NoMemory)
RecordsDay form said (Err f) = ⊥

-- What was said is recorded, or is at fault, or couldn't be opened; where the text is known, it is what that says.
abbrev pub RecordsDayOfText : Form → Result PrintableDay Fault → Option (List ℕ) → (List ℕ
    → Result DayWithCalls FileFault)
    → Type 0
RecordsDayOfText form result text says =
    (said : Result DayWithCalls FileFault) × RecordsDay form said result × IfSome text (λ bytes. said ≡ says bytes)

-- Of a day whose calls have all come what is recorded is of these entries, or memory was refused.
abbrev pub IsClosedDay : DayHeader → Recorder → Config → List Entry → Result PrintableDay Fault → Type 0
IsClosedDay day old config entries (Ok closed) =
    (closed.day ≡ day) × (form_of_recorder closed.recorder ≡ form_of_recorder old)
    × RecordsWholeDay closed.recorder config entries
IsClosedDay day old config entries (Err f) = f ≡ fault.File file_fault.NoMemory
