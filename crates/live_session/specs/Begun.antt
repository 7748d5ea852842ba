-- A session that has begun on a journal's file.
use Rattle.std.specs.Prelude.{◌≡◌, ◌≢◌, ◌<◌, ◌≤◌, ◌+◌, ◌^◌, ℕ, List, [], ◌∷◌, ◌++◌, length, take}
use Rattle.std.specs.Prelude.{Option, None, Some, Ok, Err}
use Rattle.auction_terms.specs.Auxiliary.RunningAuction.{RunningAuction, opened_auction}
use Rattle.journal.specs.JournalFile.{journal_of}
use Rattle.journal.specs.JournalText.{journal_text}
use Rattle.journal.specs.declared.day.DayHeader.{DayHeader}
use Rattle.journal_file.specs.Committed.{HasTornEnd, IsBegun, IsRoomFrom, IsTextLen, IsTornOf, behind_lines, committed}
use Rattle.journal_file.specs.Device.{IsOnlyOutcome, LeavesOnly}
use Rattle.journal_file.specs.Settled.{IsSettled}
use Rattle.journal_file.specs.declared.device.Device.{Ghosts}
use Rattle.journal_file.specs.declared.device.DeviceError.{DeviceError}
use Rattle.journal_file.specs.declared.device.DeviceError.TheVariants as device_error
use Rattle.journal_file.specs.declared.journal.CommittedLines.{CommittedLines}
use Rattle.live_session.specs.Resumed.{IsResumedFrom}
use Rattle.live_session.specs.declared.beginning.TheConstants.{SPARE}
use Rattle.live_session.specs.declared.begin_fault.BeginFault.{BeginFault}
use Rattle.live_session.specs.declared.begin_fault.BeginFault.TheVariants as begin_fault
use Rattle.live_session.specs.declared.begin_fault.CutOff.{CutOff}

-- what a crash leaves of the file of a journal that is being begun: its first record, torn, and the room behind it
abbrev pub IsLeftByBegin : DayHeader → List ℕ → Type 0
IsLeftByBegin day file =
    (length file ≤ length (journal_text day []) + SPARE) × IsTornOf (journal_text day []) file

module _ {D : Type 0} (d : Ghosts D) where
  -- What was read is on the disk, and nothing else can be left of it.
  abbrev pub IsStored : D → Type 0
  IsStored file = IsOnlyOutcome (d.seen file) (d.may_leave file)

  -- A crash since leaves what was committed before, and the first of these lines, if what was read was on the disk.
  abbrev pub LeavesFirst : D → D → List ℕ → Type 0
  LeavesFirst old new lines =
      IsStored old → LeavesOnly d.moment d.left_since old new (IsBegun (committed (d.seen old)) lines)

  -- These lines were committed, and a crash at any moment since leaves what was committed before, and the first of
  -- them.
  pub record AddsLines (old new : D) (lines : List ℕ) : Type 0 where
    pub all : committed (d.seen new) ≡ committed (d.seen old) ++ lines
    pub leaves : LeavesFirst old new lines

  -- What was behind the lines of a file, but for room, is in a file of its own, as `cut` says; where there was nothing
  -- but room, no such file was made.
  abbrev pub IsPutAside : D → D → Option CutOff → Type 0
  IsPutAside old new None = (IsRoomFrom 0 (behind_lines (d.seen old))) × (d.aside new ≡ d.aside old)
  IsPutAside old new (Some cut) =
      IsTextLen (behind_lines (d.seen old)) cut.bytes × (0 < cut.bytes)
      × (d.aside new ≡ take cut.bytes (behind_lines (d.seen old)) ∷ d.aside old)

  -- A file without lines was empty, or what a crash leaves of one that is being begun for this day; it has got the
  -- record of the day, and the auction is the one that the day begins with. Else the lines are those of before, no
  -- more was behind them than a torn commit leaves, which was put aside, and the auction has had their entries.
  pub record HasBegun (day : DayHeader) (old : D) (journal : CommittedLines D) (auction : RunningAuction)
      (cut : Option CutOff) : Type 0 where
    pub settled : IsSettled d.seen d.may_leave journal
    pub new_day : committed (d.seen old) ≡ []
        → IsLeftByBegin day (d.seen old) × (auction ≡ opened_auction day.config) × (cut ≡ None)
        × AddsLines old journal.device (journal_text day [])
    pub gone_on : committed (d.seen old) ≢ []
        → IsResumedFrom day (journal_of (committed (d.seen old))) (Ok auction) × HasTornEnd (d.seen old)
        × IsPutAside old journal.device cut × AddsLines old journal.device []

  -- the cause of a fault of the device while these lines came
  abbrev pub IsCause : D → D → List ℕ → DeviceError → Type 0
  IsCause old last lines device_error.Failed = d.faults old < d.faults last
  IsCause old last lines device_error.Changed = d.faults old < d.faults last
  IsCause old last lines device_error.Full = 2 ^ 60 < length (committed (d.seen old)) + length lines

  -- Why these lines didn't come after those of a file: it failed, others changed it, or it has no room for them. A
  -- crash leaves the lines that it had, and the first of these.
  pub record LacksLines (old last : D) (lines : List ℕ) (error : DeviceError) : Type 0 where
    pub cause : IsCause old last lines error
    pub leaves : LeavesFirst old last lines

-- why a file wasn't repaired
abbrev pub LacksRepair : {D : Type 0} → Ghosts D → D → D → BeginFault → Type 0
LacksRepair d old last (begin_fault.Device error) = LacksLines d old last [] error
LacksRepair d old last fault = ⊥

-- the lines that a session begins with, after those that its file has
abbrev pub opening_lines : DayHeader → List ℕ → List ℕ
opening_lines day [] = journal_text day []
opening_lines day (byte ∷ lines) = []

-- A session may go on with this file: it is nothing but what a crash leaves of one that is being begun, or a journal of
-- the day with lawful replies, behind which is no more than a torn commit leaves.
pub record MayGoOn (day : DayHeader) (file : List ℕ) : Type 0 where
  pub new_day : committed file ≡ [] → IsLeftByBegin day file
  pub gone_on : committed file ≢ []
      → HasTornEnd file × ((auction : RunningAuction) × IsResumedFrom day (journal_of (committed file)) (Ok auction))

-- It is a journal of the day with lawful replies, but behind its lines, of which the next would be this one, are more
-- bytes, this number, than a torn commit leaves.
pub record IsDamaged (day : DayHeader) (file : List ℕ) (record_number bytes : ℕ) : Type 0 where
  pub auction : RunningAuction
  pub read : IsResumedFrom day (journal_of (committed file)) (Ok auction)
  pub number : record_number ≡ auction.calls + 2
  pub behind : IsTextLen (behind_lines file) bytes
  pub torn : HasTornEnd file → ⊥

-- Why a session didn't begin on a file. Where that lies in what the file says, the file is as it was: it has no line,
-- and isn't what a crash leaves of one that is being begun; its lines aren't gone on with; more is behind them than a
-- torn commit leaves. Or the file is gone on with, and failed; or memory was wanted for the first line of a new
-- journal.
abbrev pub HasNotBegun : {D : Type 0} → Ghosts D → DayHeader → D → D → BeginFault → Type 0
HasNotBegun d day old last begin_fault.NotAJournal =
    (last ≡ old) × (committed (d.seen old) ≡ []) × (IsLeftByBegin day (d.seen old) → ⊥)
HasNotBegun d day old last (begin_fault.Resume fault) =
    (last ≡ old) × (committed (d.seen old) ≢ []) × IsResumedFrom day (journal_of (committed (d.seen old))) (Err fault)
HasNotBegun d day old last (begin_fault.Damaged record_number bytes) =
    (last ≡ old) × (committed (d.seen old) ≢ []) × IsDamaged day (d.seen old) record_number bytes
HasNotBegun d day old last (begin_fault.Device error) =
    MayGoOn day (d.seen old) × LacksLines d old last (opening_lines day (committed (d.seen old))) error
HasNotBegun d day old last begin_fault.NoMemory = (last ≡ old) × (committed (d.seen old) ≡ [])
