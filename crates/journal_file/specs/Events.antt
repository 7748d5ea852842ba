-- What was asked of a file, and what a crash may leave of it.
use Rattle.std.specs.Prelude.{◌≡◌, ◌⊎◌, ◌≤◌, ℕ, zero, suc, ◌+◌, Bool, true, false, ◌==◌, List, [], ◌∷◌, ◌++◌, length}
use Rattle.std.specs.Prelude.{take, drop, slice_index}
use mathlib.Core.Logic.{inl, inr}
use Rattle.std.proofs.Math.Nat.{not-suc-le_self}
use Rattle.journal_file.specs.Device.{IsTorn, IsResized, resized}

-- Which call: 0 found these bytes in the file, 1 wrote these at a place, 2 changed the length to a number, 3 synced, 4
-- put these into a file of their own. Its place or length, whether it was done, and its bytes.
abbrev pub Event : Type 0
Event = ℕ × ℕ × Bool × List ℕ

abbrev pub event : ℕ → ℕ → Bool → List ℕ → Event
event call at done bytes = (call, at, done, bytes)

abbrev pub event_of : List ℕ → List ℕ → Event
event_of numbers bytes = event (slice_index numbers 0) (slice_index numbers 1) (slice_index numbers 2 == 1) bytes

-- what a call leaves of what a read returned
abbrev pub seen_after : ℕ → ℕ → List ℕ → List ℕ → List ℕ
seen_after zero at bytes old = bytes
seen_after (suc zero) at bytes old = take at old ++ bytes ++ drop (at + length bytes) old
seen_after (suc (suc zero)) at bytes old = resized at old
seen_after _ at bytes old = old

abbrev pub seen_of : List Event → List ℕ
seen_of [] = []
seen_of ((call, at, done, bytes) ∷ older) = seen_after call at bytes (seen_of older)

-- A sync that was done leaves what a read returns, and one that failed all that there was.
abbrev pub IsKeptBySync : Bool → List ℕ → List ℕ → Type 0
IsKeptBySync true seen c = c ≡ seen
IsKeptBySync false seen c = Unit {0}

-- What a crash may leave after a call, of what it might have left and what a read returned before it. What was found
-- may be the kernel's copy of pages that never came to the disk, so a crash may leave anything.
abbrev pub left_after : ℕ → ℕ → Bool → List ℕ → List ℕ → (List ℕ → Type 0) → List ℕ → Type 0
left_after zero at done bytes seen old c = Unit {0}
left_after (suc zero) at done bytes seen old c = (d : List ℕ) × old d × IsTorn at bytes d c
left_after (suc (suc zero)) at done bytes seen old c = (d : List ℕ) × old d × IsResized at d c
left_after (suc (suc (suc zero))) at done bytes seen old c = old c × IsKeptBySync done seen c
left_after _ at done bytes seen old c = old c

abbrev pub left_by : List Event → List ℕ → Type 0
left_by [] c = Unit {0}
left_by ((call, at, done, bytes) ∷ older) c = left_after call at done bytes (seen_of older) (left_by older) c

-- what a crash might have left since `t` calls were made
abbrev pub left_from : ℕ → List Event → List ℕ → Type 0
left_from t [] c = left_by [] c
left_from t (event ∷ older) c = left_by (event ∷ older) c ⊎ ((t ≤ length older) × left_from t older c)

abbrev pub failures_of : List Event → ℕ
failures_of [] = 0
failures_of ((call, at, true, bytes) ∷ older) = failures_of older
failures_of ((call, at, false, bytes) ∷ older) = failures_of older + 1

-- what was put into files of their own
abbrev pub aside_after : ℕ → Bool → List ℕ → List (List ℕ) → List (List ℕ)
aside_after (suc (suc (suc (suc zero)))) true bytes old = bytes ∷ old
aside_after _ done bytes old = old

abbrev pub aside_of : List Event → List (List ℕ)
aside_of [] = []
aside_of ((call, at, done, bytes) ∷ older) = aside_after call done bytes (aside_of older)

pub counts : (events : List Event) (t : ℕ) (c : List ℕ) → left_by events c → left_from t events c
counts [] t c now = now
counts (event ∷ older) t c now = inl now

pub only : (events : List Event) (c : List ℕ) → left_from (length events) events c → left_by events c
only [] c left = left
only (event ∷ older) c (inl now) = now
only (event ∷ older) c (inr past) = absurd (not-suc-le_self (length older) past.0)
