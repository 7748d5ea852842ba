-- What the calls of a device do to its file, and what a crash may do between two syncs.
use Rattle.std.specs.Prelude.{◌<◌, ◌≡◌, ◌⊎◌, ℕ, ◌+◌, ◌-◌, ◌≤◌, min, max, List, ◌++◌, length, take, drop, get_or}
use Rattle.std.specs.Prelude.{replicate, Result, IsErrOf}
use Rattle.journal_file.specs.declared.device.DeviceError.{DeviceError}
use Rattle.journal_file.specs.declared.device.DeviceError.TheVariants.{Changed, Failed, Full}

-- new is old with these bytes at this offset
abbrev pub IsOverwritten : List ℕ → ℕ → List ℕ → List ℕ → Type 0
IsOverwritten old at bytes new = new ≡ take at old ++ bytes ++ drop (at + length bytes) old

-- After an overwrite that a crash cuts short: in the range each byte is the old one or the written one, and elsewhere
-- nothing has changed.
pub record IsTorn (at : ℕ) (bytes old new : List ℕ) : Type 0 where
  pub before : take at new ≡ take at old
  pub after : drop (at + length bytes) new ≡ drop (at + length bytes) old
  pub same_length : length new ≡ length old
  pub each : (k : ℕ) → k < length bytes → (get_or new (at + k) 0 ≡ get_or old (at + k) 0)
      ⊎ (get_or new (at + k) 0 ≡ get_or bytes k 0)

-- the first bytes of a file, and after its end zeros
abbrev pub resized : ℕ → List ℕ → List ℕ
resized len old = take len old ++ replicate (len - length old) 0

-- after a change of length that a crash cuts short: some length between
pub record IsResized (len : ℕ) (old new : List ℕ) : Type 0 where
  pub no_shorter : min (length old) len ≤ length new
  pub no_longer : length new ≤ max (length old) len
  pub bytes : new ≡ resized (length new) old

-- each new outcome of a crash is an old outcome after a step
abbrev pub IsStepFrom : (List ℕ → List ℕ → Type 0) → (List ℕ → Type 0) → (List ℕ → Type 0) → Type 0
IsStepFrom step old new = (c : List ℕ) → new c → (d : List ℕ) × old d × step d c

-- a crash leaves this and nothing else
abbrev pub IsOnlyOutcome : List ℕ → (List ℕ → Type 0) → Type 0
IsOnlyOutcome file outcomes = (c : List ℕ) → outcomes c → c ≡ file

-- Time goes on: a crash since t might have left what it might have left before, or what it may leave now.
pub record HasElapsed (before now : ℕ) (past since : ℕ → List ℕ → Type 0) (may_leave : List ℕ → Type 0) : Type 0 where
  pub later : before ≤ now
  pub nothing_else : (t : ℕ) (c : List ℕ) → t ≤ before → since t c → past t c ⊎ may_leave c
  pub keeps : (t : ℕ) (c : List ℕ) → t ≤ before → past t c → since t c

-- A crash at any moment since old leaves a file that has P.
pub record LeavesOnly {D : Type 0} (moment : D → ℕ) (left_since : D → ℕ → List ℕ → Type 0) (old new : D) (P : List ℕ
    → Type 0) : Type 0 where
  pub later : moment old ≤ moment new
  pub each : (c : List ℕ) → left_since new (moment old) c → P c
  -- for a run that began earlier
  pub before : (t : ℕ) (c : List ℕ) → t ≤ moment old → left_since new t c → left_since old t c ⊎ P c

-- `Failed` and `Changed` are reported only where the disk has failed since, or others have changed the file, and
-- `Full` isn't
pub record HasCause {T : Type 0} (before now : ℕ) (result : Result T DeviceError) : Type 0 where
  pub later : before ≤ now
  pub failed : IsErrOf result Failed → before < now
  pub changed : IsErrOf result Changed → before < now
  pub not_full : IsErrOf result Full → ⊥
