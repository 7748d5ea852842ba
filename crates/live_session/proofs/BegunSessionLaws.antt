-- A session that begins on a file.
use Rattle.std.proofs.Common.{◌≡◌, ◌<◌, ◌≤◌, ◌+◌, ◌^◌, ℕ, zero, suc, List, [], ◌∷◌, ◌++◌, Option, None, Some}
use Rattle.std.proofs.Common.{Result, Ok, Err, length, refl, ⊎_elim, sym, ap, subst, take, arith, ◌∙◌}
use Rattle.std.specs.Prelude.{slice_index}
use Rattle.std.proofs.lemmas.List.{append-nil, take_at}
use Rattle.auction_terms.specs.Auxiliary.RunningAuction.{RunningAuction}
use Rattle.journal.specs.JournalFile.{journal_of}
use Rattle.journal.specs.JournalText.{journal_text}
use Rattle.journal.specs.declared.day.DayHeader.{DayHeader}
use Rattle.journal_file.specs.Committed.{HasTornEnd, IsBegun, IsTornOf, Means, committed}
use Rattle.journal_file.specs.Device.{HasCause, HasElapsed, LeavesOnly}
use Rattle.journal_file.specs.declared.device.Device.{Ghosts}
use Rattle.journal_file.specs.declared.device.DeviceError.{DeviceError}
use Rattle.journal_file.specs.declared.device.DeviceError.TheVariants as device_error
use Rattle.journal_file.specs.declared.committed.TheConstants.{LONGEST_WRITE}
use Rattle.journal_file.proofs.Chain.{begun_first}
use Rattle.journal_file.proofs.Lines.{parts}
use Rattle.journal_file.proofs.Moments.{one, started, then, weaker}
use Rattle.journal_file.proofs.TornEnds.{torn-end-from}
use Rattle.live_session.specs.Begun.{AddsLines, HasNotBegun, IsCause, IsLeftByBegin, IsPutAside, IsStored, LacksLines}
use Rattle.live_session.specs.Begun.{LacksRepair, MayGoOn, opening_lines}
use Rattle.live_session.specs.declared.beginning.TheConstants.{SPARE}
use Rattle.live_session.specs.declared.begin_fault.BeginFault.{BeginFault}
use Rattle.live_session.specs.declared.begin_fault.BeginFault.TheVariants as begin_fault
use Rattle.live_session.specs.declared.begin_fault.CutOff.{CutOff}
use Rattle.live_session.specs.Resumed.{IsResumedFrom}
use Rattle.live_session.proofs.CommitLaws.{as-failure}

-- the lines of a file, as they were read
pub front-lines : (file bytes : List ℕ) (end : ℕ) → bytes ≡ file → end ≡ length (committed file)
    → take end bytes ≡ committed file
front-lines file bytes end read is =
    ap (λ (l : List ℕ). take end l) (read ∙ (parts file).split)
    ∙ take_at (committed file) (parts file).end end (sym is)

pub is-left-by-begin : (day : DayHeader) (file bytes lines : List ℕ) → bytes ≡ file → lines ≡ journal_text day []
    → (length bytes ≤ length lines + SPARE) × IsTornOf lines bytes → IsLeftByBegin day file
is-left-by-begin day file bytes lines read is left = rw (← read, ← is) left

pub may-begin : (day : DayHeader) (file : List ℕ) → committed file ≡ [] → IsLeftByBegin day file → MayGoOn day file
may-begin day file empty left = record { new_day = λ _. left; gone_on = λ lines. absurd (lines empty) }

pub can-go-on : (day : DayHeader) (file : List ℕ) (auction : RunningAuction) → (committed file ≡ [] → ⊥)
    → HasTornEnd file → IsResumedFrom day (journal_of (committed file)) (Ok auction) → MayGoOn day file
can-go-on day file auction lines torn read = record {
  new_day = λ empty. absurd (lines empty);
  gone_on = λ _. (torn, (auction, read));
}

-- what a crash leaves of a first record, which one write can have, has a torn end
pub torn-end-of-first : (first file : List ℕ) → length first ≤ LONGEST_WRITE → IsTornOf first file → HasTornEnd file
torn-end-of-first first file few torn =
    torn-end-from file (length first) (omega (arith, few))
    (λ k behind. ⊎_elim (λ nul. nul) (λ same. same ∙ past first k behind) (torn k))
  where
    past : (xs : List ℕ) (k : ℕ) → length xs ≤ k → slice_index xs k ≡ 0
    past [] k le = refl
    past (x ∷ xs) zero le = absurd (omega (arith, le))
    past (x ∷ xs) (suc k) le = past xs k (omega (arith, le))

module _ {D : Type 0} (d : Ghosts D) where
  pub as-begun : (old new : D) → LeavesOnly d.moment d.left_since old new (Means (committed (d.seen old)))
      → LeavesOnly d.moment d.left_since old new (IsBegun (committed (d.seen old)) [])
  as-begun old new leaves =
      weaker d.moment d.left_since old new (Means (committed (d.seen old))) (IsBegun (committed (d.seen old)) []) leaves
      (λ c means. (0, (means.0 ∙ sym (append-nil (committed (d.seen old))), means.1)))

  -- no call
  pub not-touched : ((file : D) (c : List ℕ) → d.left_since file (d.moment file) c → d.may_leave file c)
      → (old : D) → HasTornEnd (d.seen old)
      → IsStored d old → LeavesOnly d.moment d.left_since old old (IsBegun (committed (d.seen old)) [])
  not-touched only_now old torn stored =
      let P = IsBegun (committed (d.seen old)) [] in
      started d.moment d.left_since old P (λ c left. subst P (sym (stored c (only_now old c left)))
      (0, (sym (append-nil (committed (d.seen old))), torn)))

  -- a call that leaves the file as it is
  pub untouched : ((file : D) (c : List ℕ) → d.left_since file (d.moment file) c → d.may_leave file c)
      → (old new : D) → HasTornEnd (d.seen old)
      → HasElapsed (d.moment old) (d.moment new) (d.left_since old) (d.left_since new) (d.may_leave new)
      → ((c : List ℕ) → d.may_leave new c → d.may_leave old c)
      → IsStored d old → LeavesOnly d.moment d.left_since old new (IsBegun (committed (d.seen old)) [])
  untouched only_now old new torn time keeps stored =
      let P = IsBegun (committed (d.seen old)) [] in
      let here : (c : List ℕ) → d.may_leave old c → P c = λ c now.
      subst P (sym (stored c now)) (0, (sym (append-nil (committed (d.seen old))), torn)) in
      one d.moment d.left_since d.may_leave only_now old new P here time (λ c now. here c (keeps c now))

  -- one step after another
  pub leaves-both : (old mid new : D) (lines : List ℕ) → committed (d.seen mid) ≡ committed (d.seen old)
      → (IsStored d old → LeavesOnly d.moment d.left_since old mid (IsBegun (committed (d.seen old)) []))
      → (IsStored d old → LeavesOnly d.moment d.left_since mid new (IsBegun (committed (d.seen mid)) lines))
      → IsStored d old → LeavesOnly d.moment d.left_since old new (IsBegun (committed (d.seen old)) lines)
  leaves-both old mid new lines same first second stored =
      then d.moment d.left_since old mid new (IsBegun (committed (d.seen old)) [])
      (IsBegun (committed (d.seen mid)) lines) (IsBegun (committed (d.seen old)) lines) (first stored) (second stored)
      (λ c begun. begun_first (committed (d.seen old)) [] lines c begun)
      (λ c begun. subst (λ (t : List ℕ). IsBegun t lines c) same begun)

  -- by the device's error
  pub cause-by-error : (old last : D) (end : ℕ) (lines : List ℕ) (error : DeviceError)
      → end ≡ length (committed (d.seen old))
      → (as-failure error ≡ as-failure device_error.Failed → d.faults old < d.faults last)
      → (as-failure error ≡ as-failure device_error.Changed → d.faults old < d.faults last)
      → (as-failure error ≡ as-failure device_error.Full → 2 ^ 60 < end + length lines)
      → IsCause d old last lines error
  cause-by-error old last end lines device_error.Failed end_is failed changed full = failed refl
  cause-by-error old last end lines device_error.Changed end_is failed changed full = changed refl
  cause-by-error old last end lines device_error.Full end_is failed changed full = omega (arith, end_is, full refl)

  abbrev pub as-aside : DeviceError → Result ℕ DeviceError
  as-aside error = Err error

  pub aside-cause : (old last : D) (error : DeviceError) → HasCause (d.faults old) (d.faults last) (as-aside error)
      → IsCause d old last [] error
  aside-cause old last device_error.Failed cause = cause.failed refl
  aside-cause old last device_error.Changed cause = cause.changed refl
  aside-cause old last device_error.Full cause = absurd (cause.not_full refl)

  -- that of a step is that of all
  pub cause-before : (old mid last : D) (lines : List ℕ) (error : DeviceError)
      → committed (d.seen mid) ≡ committed (d.seen old) → d.faults old ≤ d.faults mid → IsCause d mid last lines error
      → IsCause d old last lines error
  cause-before old mid last lines device_error.Failed same risen cause = omega (arith, risen, cause)
  cause-before old mid last lines device_error.Changed same risen cause = omega (arith, risen, cause)
  cause-before old mid last lines device_error.Full same risen cause = omega (arith, cause, ap length same)

  -- nor would more lines have come
  pub cause-of-more : (old last : D) (lines : List ℕ) (error : DeviceError) → IsCause d old last [] error
      → IsCause d old last lines error
  cause-of-more old last lines device_error.Failed cause = cause
  cause-of-more old last lines device_error.Changed cause = cause
  cause-of-more old last lines device_error.Full cause = omega (arith, cause)

  pub lacks-more : (old last : D) (lines : List ℕ) (error : DeviceError) → LacksLines d old last [] error
      → LacksLines d old last lines error
  lacks-more old last lines error lacks = record {
    cause = cause-of-more old last lines error lacks.cause;
    leaves =
        λ stored. weaker d.moment d.left_since old last (IsBegun (committed (d.seen old)) [])
        (IsBegun (committed (d.seen old)) lines) (lacks.leaves stored)
        (λ c begun. begun_first (committed (d.seen old)) [] lines c begun);
  }

  pub same-lines-of : (old mid : D) → AddsLines d old mid [] → committed (d.seen mid) ≡ committed (d.seen old)
  same-lines-of old mid adds = adds.all ∙ append-nil (committed (d.seen old))

  -- after a step that adds nothing
  pub lacks-behind : (old mid last : D) (lines : List ℕ) (error : DeviceError) → AddsLines d old mid []
      → d.faults old ≤ d.faults mid → IsCause d mid last lines error
      → (IsStored d old → LeavesOnly d.moment d.left_since mid last (IsBegun (committed (d.seen mid)) lines))
      → LacksLines d old last lines error
  lacks-behind old mid last lines error first risen cause leaves =
      let same = same-lines-of old mid first in
      record {
        cause = cause-before old mid last lines error same risen cause;
        leaves = leaves-both old mid last lines same first.leaves leaves;
      }

  pub adds-behind : (old mid last : D) (lines : List ℕ) → AddsLines d old mid []
      → committed (d.seen last) ≡ committed (d.seen mid) ++ lines
      → (IsStored d old → LeavesOnly d.moment d.left_since mid last (IsBegun (committed (d.seen mid)) lines))
      → AddsLines d old last lines
  adds-behind old mid last lines first all leaves =
      let same = same-lines-of old mid first in
      record {
        all = all ∙ ap (λ (t : List ℕ). t ++ lines) same;
        leaves = leaves-both old mid last lines same first.leaves leaves;
      }

  -- what was put aside stays so
  pub put-aside-behind : (old mid last : D) (cut : Option CutOff) → d.aside last ≡ d.aside mid
      → IsPutAside d old mid cut → IsPutAside d old last cut
  put-aside-behind old mid last None is put = (put.0, is ∙ put.1)
  put-aside-behind old mid last (Some cut) is put = (put.0, put.1, is ∙ put.2)

  pub still-stored : (old mid : D) → d.seen mid ≡ d.seen old
      → ((c : List ℕ) → d.may_leave mid c → d.may_leave old c) → IsStored d old → IsStored d mid
  still-stored old mid same crash stored = λ c left. stored c (crash c left) ∙ sym same

  -- a file that was being begun isn't repaired
  pub not-repaired-new : (day : DayHeader) (old last : D) (fault : BeginFault) → committed (d.seen old) ≡ []
      → IsLeftByBegin day (d.seen old) → LacksRepair d old last fault → HasNotBegun d day old last fault
  not-repaired-new day old last begin_fault.NotAJournal empty left lacks = absurd lacks
  not-repaired-new day old last (begin_fault.Resume fault) empty left lacks = absurd lacks
  not-repaired-new day old last (begin_fault.Damaged n bytes) empty left lacks = absurd lacks
  not-repaired-new day old last begin_fault.NoMemory empty left lacks = absurd lacks
  not-repaired-new day old last (begin_fault.Device error) empty left lacks = (
    may-begin day (d.seen old) empty left,
    lacks-more old last (opening_lines day (committed (d.seen old))) error lacks,
  )

  -- nor one that has lines, after a step that adds none
  pub not-repaired-on : (day : DayHeader) (old mid last : D) (fault : BeginFault) → MayGoOn day (d.seen old)
      → AddsLines d old mid [] → d.faults old ≤ d.faults mid → (IsStored d old → IsStored d mid)
      → LacksRepair d mid last fault → HasNotBegun d day old last fault
  not-repaired-on day old mid last begin_fault.NotAJournal may first risen still lacks = absurd lacks
  not-repaired-on day old mid last (begin_fault.Resume fault) may first risen still lacks = absurd lacks
  not-repaired-on day old mid last (begin_fault.Damaged n bytes) may first risen still lacks = absurd lacks
  not-repaired-on day old mid last begin_fault.NoMemory may first risen still lacks = absurd lacks
  not-repaired-on day old mid last (begin_fault.Device error) may first risen still lacks = (
    may,
    lacks-more old last (opening_lines day (committed (d.seen old))) error
        (lacks-behind old mid last [] error first risen lacks.cause (λ stored. lacks.leaves (still stored))),
  )
