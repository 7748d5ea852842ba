-- An input that is read block by block.
use Rattle.std.specs.Prelude.{◌≡◌, ◌≢◌, ℕ, ◌+◌, ◌-◌, ◌<◌, ◌≤◌, List, [], ◌++◌, length, take, nat_le, ◌&&◌}
use Rattle.std.specs.Prelude.{slice_index, slice_set, All, Bool, if◌then◌else◌}
use Rattle.std.specs.Prelude.{Option, IfSome, IsSomeAnd, Result, Ok, MatchResult, MatchBool}
use Rattle.std.specs.Io.KnownBytes.{Consumes}
use Rattle.csv.specs.Reading.{default_config, is_bom, records, strip_bom}
use Rattle.auction_terms.specs.Results.{◌>>=◌}
use Rattle.byte_streams.specs.Streams.{TakesAtMost}
use Rattle.auction_terms.specs.declared.Call.{Call}
use Rattle.order_file.specs.File.{FailsAsWanted, calls_after, within_limit}
use Rattle.order_file.specs.declared.fault.FileFault.{FileFault}
use Rattle.order_file.specs.declared.fault.FileFault.TheVariants.{TooLong, ReadFailed, NoMemory}

-- What is held of an input: bytes, how many at the front are whole lines, how many more may be taken, and whether the
-- end was found.
pub record BlockState : Type 0 where
  pub bytes : List ℕ
  pub whole : ℕ
  pub room : ℕ
  pub ended : Bool

abbrev pub Rows : Type 0
Rows = List (List (List ℕ))

-- what comes after the bytes that are held, where this is left to read
abbrev pub bytes_ahead : BlockState → List ℕ → List ℕ
bytes_ahead held left = if held.ended then [] else left

-- the records of the lines at the front
unfoldable pub block_rows : BlockState → Rows
block_rows held = records default_config (take held.whole held.bytes)

-- the records from here on, where this is left to read, if it is no more than it may be
unfoldable pub rows_to_come : BlockState → List ℕ → Result Rows FileFault
rows_to_come held left = do
  more ← within_limit held.room (bytes_ahead held left)
  Ok (records default_config (held.bytes ++ more))

-- the records of a whole input, if it is no longer than it may be
unfoldable pub rows_within : ℕ → List ℕ → Result Rows FileFault
rows_within most text = do
  bytes ← within_limit most text
  Ok (records default_config (strip_bom bytes))

-- these records, and then those
abbrev pub and_then_rows : Rows → Result Rows FileFault → Result Rows FileFault
and_then_rows front rest = do
  rows ← rest
  Ok (front ++ rows)

-- bytes were taken, as many as the room fell by
abbrev pub TakesBytes : ℕ → ℕ → Option (List ℕ) → Option (List ℕ) → Type 0
TakesBytes room room_left old new = (bytes : List ℕ) × Consumes old new bytes × (length bytes + room_left ≡ room)

-- the same, and at a failure at most one byte more than there was room for
abbrev pub TakesBytesOrFails : {X : Type 0} → Result X FileFault → ℕ → (X → ℕ) → Option (List ℕ) → Option (List ℕ)
    → Type 0
TakesBytesOrFails result room room_left old new = MatchResult result
    (λ x. TakesBytes room (room_left x) old new)
    (λ _. TakesAtMost (room + 1) old new)

-- a number that falls from block to block: how many bytes may be taken, and whether the end may yet be found
abbrev pub turns_left : BlockState → ℕ
turns_left held = held.room + (if held.ended then 0 else 1)

-- a fault of the reading
abbrev pub IsOfReading : FileFault → Type 0
IsOfReading ReadFailed = Unit {0}
IsOfReading TooLong = Unit {0}
IsOfReading NoMemory = Unit {0}
IsOfReading e = ⊥

-- a fault of what is read, and not of memory
abbrev pub IsOfInput : FileFault → Type 0
IsOfInput ReadFailed = Unit {0}
IsOfInput TooLong = Unit {0}
IsOfInput e = ⊥

-- what opening an input of this text gives
abbrev pub OpensBlock : Result BlockState FileFault → ℕ → Option (List ℕ) → List ℕ → Type 0
OpensBlock result most new text = MatchResult result
    (λ held. IsSomeAnd new (λ left. rows_within most text ≡ rows_to_come held left))
    (λ e. FailsAsWanted e (rows_within most text))

-- what going on to the next block gives, where this was left to read
abbrev pub GivesNextBlock : Result Bool FileFault → BlockState → BlockState → Option (List ℕ) → List ℕ → Type 0
GivesNextBlock result old held new before = MatchResult result
    (λ more. MatchBool more
    (IsSomeAnd new (λ left. rows_to_come old before ≡ and_then_rows (block_rows old) (rows_to_come held left)))
    (rows_to_come old before ≡ Ok (block_rows old)))
    (λ e. FailsAsWanted e (rows_to_come old before))

-- what passing over the rest gives, where this was left to read
abbrev pub PassesOverRest : Result (Unit {0}) FileFault → BlockState → List ℕ → Type 0
PassesOverRest result held before = MatchResult result
    (λ _. (rest : Rows) × (rows_to_come held before ≡ Ok (block_rows held ++ rest)))
    (λ e. FailsAsWanted e (rows_to_come held before))

-- The first `whole` bytes are whole lines: up to a line end that no quote comes before, or all of them where the input
-- ends there.
abbrev pub IsCut : List ℕ → ℕ → Bool → Type 0
IsCut bytes whole ended = MatchBool ended
    (whole ≡ length bytes)
    ((whole ≤ length bytes) × (slice_index bytes (whole - 1) ≡ 10) × All (λ c. c ≢ 34) (take (whole - 1) bytes))

-- the first byte is a line end, and what is whole begins with it
pub record IsBlock (bytes : List ℕ) (whole : ℕ) (ended : Bool) : Type 0 where
  pub begun : 0 < whole
  pub first : slice_index bytes 0 ≡ 10
  pub cut : IsCut bytes whole ended

-- bytes were read to the end of those that are held
pub record ReadsBytes (old new : Option (List ℕ)) (before after : List ℕ) (room room_left : ℕ) : Type 0 where
  pub bytes : List ℕ
  pub read : Consumes old new bytes
  pub held : after ≡ before ++ bytes
  pub took : length bytes + room_left ≡ room

-- why bytes could not be read
abbrev pub ExplainsReading : FileFault → ℕ → Option (List ℕ) → Type 0
ExplainsReading ReadFailed room old = Unit {0}
ExplainsReading TooLong room old = IfSome old (λ left. room < length left)
ExplainsReading NoMemory room old = Unit {0}
ExplainsReading e room old = ⊥

-- bytes of which those at places 1 to 3 are a byte order mark, with line ends in its place
unfoldable pub without_mark : List ℕ → List ℕ
without_mark bytes =
    if nat_le 4 (length bytes) && is_bom (slice_index bytes 1) (slice_index bytes 2) (slice_index bytes 3)
    then slice_set (slice_set (slice_set bytes 1 10) 2 10) 3 10
    else bytes

-- these calls, and then those of more records
abbrev pub calls_with_more : ℕ → ℕ → List Call → Rows → Result (List Call) FileFault
calls_with_more members max_calls front rows = do
  calls ← calls_after members max_calls (length front) rows
  Ok (front ++ calls)
