-- What a source and a sink say of the bytes that they gave or took, and of their failures.
use Rattle.std.specs.Prelude.{◌≡◌, ℕ, ◌+◌, ◌<◌, ◌≤◌, ◌++◌, nat_lt, Bool, false, if◌then◌else◌, List, length, Option}
use Rattle.std.specs.Prelude.{Result, Ok, Err, IfOk, MatchResult}
use Rattle.std.specs.Io.KnownBytes.{Appends, Consumes}

-- the count of a read or a write is within the buffer
abbrev pub FitsBuffer : {E : Type 0} → Result ℕ E → List ℕ → Type 0
FitsBuffer r buffer = IfOk r (λ count. count ≤ length buffer)

-- a write took a byte or more
abbrev pub takes_some : {E : Type 0} → Result ℕ E → Bool
takes_some (Ok count) = nat_lt 0 count
takes_some (Err e) = false

-- the count of failures after a read or a write that went well or not
abbrev pub failures_after : Bool → ℕ → ℕ
failures_after well before = if well then before else before + 1

-- at most `most` bytes were taken
abbrev pub TakesAtMost : ℕ → Option (List ℕ) → Option (List ℕ) → Type 0
TakesAtMost most old new = (bytes : List ℕ) × Consumes old new bytes × (length bytes ≤ most)

-- known bytes grow by a beginning of the text
abbrev pub AppendsBeginning : Option (List ℕ) → Option (List ℕ) → List ℕ → Type 0
AppendsBeginning old new text = (done : List ℕ) × (rest : List ℕ) × (done ++ rest ≡ text) × Appends old new done

-- the text was written, or at a failure a beginning of it
abbrev pub AppendsOrBegins : {E : Type 0} → Option (List ℕ) → Option (List ℕ) → Result (Unit {0}) E → List ℕ → Type 0
AppendsOrBegins old new r text = MatchResult r (λ _. Appends old new text) (λ _. AppendsBeginning old new text)

-- it failed where the count of failures rose, and else the count stayed
abbrev pub ReportsFailure : {X E : Type 0} → ℕ → ℕ → Result X E → Type 0
ReportsFailure old new r = MatchResult r (λ _. new ≡ old) (λ _. old < new)
