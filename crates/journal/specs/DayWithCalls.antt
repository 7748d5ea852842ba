-- What a run is given: by a journal, or by an order file.
use Rattle.std.specs.Prelude.{ℕ, List, map, Result, Ok, Err}
use Rattle.auction_terms.specs.declared.Call.{Call}
use Rattle.auction_terms.specs.Results.{◌>>=◌}
use Rattle.order_file.specs.File.{file, within_limit}
use Rattle.order_file.specs.declared.fault.FileFault.{FileFault}
use Rattle.order_file.specs.declared.fault.FileFault.TheVariants.{NotADay}
use Rattle.journal.specs.declared.day.DayHeader.{DayHeader}
use Rattle.journal.specs.declared.run_input.RunInput.{RunInput}
use Rattle.journal.specs.declared.reading.TheConstants.{MAX_JOURNAL_BYTES}
use Rattle.journal.specs.EntryRecord.{RecordedCall, call_part}
use Rattle.journal.specs.JournalFile.{RecordedDay, journal_of}

-- a day and its calls
pub record DayWithCalls : Type 0 where
  pub day : DayHeader
  pub calls : List Call

-- a day's calls that are to come, as what was given to it
abbrev pub calls_coming : DayHeader → Result (List RecordedCall) FileFault → Result DayWithCalls FileFault
calls_coming day coming = coming >>= λ recordings. Ok (record { day = day; calls = map call_part recordings })

-- what an order file gives to this day
unfoldable pub orders_for : DayHeader → List ℕ → Result DayWithCalls FileFault
orders_for day bytes =
    file bytes day.members day.config.max_calls >>= λ calls. Ok (record { day = day; calls = calls })

-- what is no journal is an order file
abbrev pub or_orders : Result DayWithCalls FileFault → FileFault → Result DayWithCalls FileFault
or_orders orders NotADay = orders
or_orders orders e = Err e

-- the day and the calls that a journal says, its replies dropped
abbrev pub run_input_by : Result DayWithCalls FileFault → Result RecordedDay FileFault → Result DayWithCalls FileFault
run_input_by orders (Ok j) = Ok (record { day = j.day; calls = j.calls })
run_input_by orders (Err e) = or_orders orders e

unfoldable pub run_input_of : DayHeader → List ℕ → Result DayWithCalls FileFault
run_input_of day bytes = run_input_by (orders_for day bytes) (journal_of bytes)

-- what the bytes give, as a journal, or as an order file of this day
unfoldable pub run_input : DayHeader → List ℕ → Result DayWithCalls FileFault
run_input day bytes = within_limit MAX_JOURNAL_BYTES bytes >>= run_input_of day

-- in memory
abbrev pub day_with_calls : RunInput → DayWithCalls
day_with_calls g = record { day = g.day; calls = g.calls.items }
