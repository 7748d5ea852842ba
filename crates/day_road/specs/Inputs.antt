-- What an input gives, call by call.
use Rattle.std.specs.Prelude.{◌≡◌, ℕ, List, [], ◌∷◌, map, Option, Some, None, Result, Ok, Err}
use Rattle.auction_terms.specs.declared.Call.{Call}
use Rattle.auction_terms.specs.Results.{◌>>=◌}
use Rattle.journal.specs.EntryRecord.{RecordedCall}
use Rattle.journal.specs.JournalEntries.{CanReadEntries}
use Rattle.journal.specs.declared.entries.Entries.{Entries}
use Rattle.order_file.specs.Calls.{IsReady, calls_left}
use Rattle.order_file.specs.File.{FailsAsWanted}
use Rattle.order_file.specs.declared.calls.Calls.{Calls}
use Rattle.order_file.specs.declared.fault.FileFault.{FileFault}

-- this call, and then those that come
abbrev pub and_then : RecordedCall → Result (List RecordedCall) FileFault → Result (List RecordedCall) FileFault
and_then recording rest = rest >>= λ recordings. Ok (recording ∷ recordings)

-- The call was the first to come, with this text; or none was to come; or the first fault was this.
abbrev pub GivesNext : Result (List RecordedCall) FileFault → Result (List RecordedCall) FileFault → List ℕ
    → Result (Option Call) FileFault → Type 0
GivesNext old new text (Ok (Some call)) = old ≡ and_then (record { call = call; text = text }) new
GivesNext old new text (Ok None) = old ≡ Ok []
GivesNext old new text (Err f) = FailsAsWanted f old

-- ---- an order file, in which no reply is recorded

abbrev pub silent : Call → RecordedCall
silent call = record { call = call; text = [] }

abbrev pub silent_all : List Call → Result (List RecordedCall) FileFault
silent_all calls = Ok (map silent calls)

abbrev pub orders_coming : Calls → Result (List RecordedCall) FileFault
orders_coming calls = calls_left calls >>= silent_all

abbrev pub CanRead : Calls → Type 0
CanRead calls = IsReady calls.members calls.max_calls calls.count calls

-- ---- a journal

abbrev pub CanReadOn : Entries → Type 0
CanReadOn entries = CanReadEntries entries.day entries.count entries

-- ---- the rest

-- all that was to come was looked at
abbrev pub PassesOver : Result (List RecordedCall) FileFault → Result (Unit {0}) FileFault → Type 0
PassesOver coming (Ok u) = (recordings : List RecordedCall) × (coming ≡ Ok recordings)
PassesOver coming (Err f) = FailsAsWanted f coming
