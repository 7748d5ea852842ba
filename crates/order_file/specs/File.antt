-- What an order file says: the calls, or the first fault.
use Rattle.std.specs.Prelude.{◌≡◌, ℕ, ◌+◌, ◌<◌, List, [], ◌∷◌, length, nat_le, nat_lt, if◌then◌else◌, Result, Ok, Err}
use Rattle.csv.specs.Reading.{default_config, records, strip_bom}
use Rattle.order_file.specs.Record.{numbered_call}
use Rattle.order_file.specs.declared.fault.FileFault.{FileFault}
use Rattle.order_file.specs.declared.fault.FileFault.TheVariants.{TooLong, ReadFailed, TooManyCommands, NoMemory}
use Rattle.order_file.specs.declared.reading.TheConstants.{MAX_BYTES}
use Rattle.auction_terms.specs.declared.Call.{Call}
use Rattle.auction_terms.specs.Results.{◌>>=◌}

-- the calls of the records after the first `before`
unfoldable pub calls_after : ℕ → ℕ → ℕ → List (List (List ℕ)) → Result (List Call) FileFault
calls_after members max_calls before [] = Ok []
calls_after members max_calls before (r ∷ rs) =
    if nat_le max_calls before then Err (TooManyCommands (before + 1))
    else do
      call ← numbered_call members (before + 1) r
      rest ← calls_after members max_calls (before + 1) rs
      Ok (call ∷ rest)

-- the calls of the records of a text
abbrev pub calls_of_file : ℕ → ℕ → List ℕ → Result (List Call) FileFault
calls_of_file members max_calls bytes = calls_after members max_calls 0 (records default_config (strip_bom bytes))

-- the bytes, if they are no more than they may be
unfoldable pub within_limit : ℕ → List ℕ → Result (List ℕ) FileFault
within_limit most bytes = if nat_lt most (length bytes) then Err TooLong else Ok bytes

unfoldable pub file : List ℕ → ℕ → ℕ → Result (List Call) FileFault
file bytes members max_calls = within_limit MAX_BYTES bytes >>= calls_of_file members max_calls

-- What a function returned, seen by view, is what was wanted, unless memory ran out or a read failed.
abbrev pub FailsAsWanted : {Y : Type 0} → FileFault → Result Y FileFault → Type 0
FailsAsWanted NoMemory wanted = Unit {0}
FailsAsWanted ReadFailed wanted = Unit {0}
FailsAsWanted e wanted = wanted ≡ Err e

abbrev pub GivesWanted : {X Y : Type 0} → (X → Y) → Result X FileFault → Result Y FileFault → Type 0
GivesWanted view (Ok x) wanted = wanted ≡ Ok (view x)
GivesWanted view (Err e) wanted = FailsAsWanted e wanted

-- a call of a member with a number below this
abbrev pub IsBelow : ℕ → Call → Type 0
IsBelow members call = call.member < members

-- a fault that comes after the reading
abbrev pub IsOfRecord : FileFault → Type 0
IsOfRecord ReadFailed = ⊥
IsOfRecord TooLong = ⊥
IsOfRecord e = Unit {0}
