-- What is recorded of a day's entries, call by call.
use Rattle.std.proofs.Common.{◌≡◌, ◌<◌, ◌≤◌, ◌∙◌, ℕ, List, length, nat_lt, false, true, rules}
use Rattle.std.proofs.Common.{Option, None, Some, Ok, Err, Result, refl, ap, sym, subst}
use Rattle.auction_terms.specs.declared.Call.{Call}
use Rattle.auction_terms.specs.declared.Config.{Config}
use Rattle.auction_terms.specs.declared.Entry.{Entry}
use Rattle.auction_terms.specs.Auxiliary.RunningAuction.{RunningAuction, opened_auction}
use Rattle.std.specs.Prelude.{IfSome, IsErrOf, ◌↔◌}
use Rattle.auction.specs.ConfigFault.{open_fault}
use Rattle.journal.specs.declared.day.DayHeader.{DayHeader}
use Rattle.order_file.specs.File.{FailsAsWanted, IsOfRecord, calls_of_file, file, within_limit}
use Rattle.order_file.specs.declared.reading.TheConstants.{MAX_BYTES}
use Rattle.order_file.proofs.CallLaws.{fails-at}
use Rattle.journal.specs.DayWithCalls.{DayWithCalls, run_input, run_input_of, or_orders, orders_for}
use Rattle.journal.specs.JournalFile.{journal_of}
use Rattle.journal.specs.declared.reading.TheConstants.{MAX_JOURNAL_BYTES}
use Rattle.program_runs.specs.declared.fault.Fault.{Fault}
use Rattle.program_runs.specs.declared.recorded_day.PrintableDay.{PrintableDay}
use Rattle.order_file.specs.declared.fault.FileFault.{FileFault}
use Rattle.order_file.specs.declared.fault.FileFault.TheVariants as faults
use Rattle.settings.specs.declared.types.Form.{Form}
use Rattle.program_runs.specs.declared.fault.Fault.TheVariants as fault
use Rattle.program_runs.specs.declared.recorder.Recorder.{Recorder}
use Rattle.program_runs.specs.RecordedEntries.{IsClosedDay, RecordsDay, RecordsDayOfText, calls_for, form_of_recorder}
use Rattle.program_runs.specs.AuctionRun.{auction_job, run_text}
use Rattle.program_runs.specs.FileRun.{Ends, IsRunOf, WritesText}
use Rattle.program_runs.specs.Printed.{IsWideForm, history_of, printed}
use Rattle.program_runs.proofs.OwedLaws.{refused_input, refused_opening}

-- ---- an order file

pub orders-long : (day : DayHeader) (bytes : List ℕ) → MAX_BYTES < length bytes
    → orders_for day bytes ≡ Err faults.TooLong
unfolding orders_for file within_limit
orders-long day bytes h = let long : nat_lt MAX_BYTES (length bytes) ≡ true = search rules in rw long refl

pub orders-short : (day : DayHeader) (bytes : List ℕ) → length bytes ≤ MAX_BYTES
    → orders_for day bytes ≡ calls_for day (calls_of_file day.members day.config.max_calls bytes)
unfolding orders_for file within_limit
orders-short day bytes h = let short : nat_lt MAX_BYTES (length bytes) ≡ false = search rules in rw short refl

-- an auction that was just opened
pub opened_so : (auction : RunningAuction) (config : Config) → auction ≡ opened_auction config
    → auction ≡ opened_auction auction.config
opened_so auction config is =
    is ∙ ap (λ (c : Config). opened_auction c) (sym (ap (λ (a : RunningAuction). a.config) is))

-- what is recorded of a day whose calls have all come
recorded-closed : (form : Form) (day : DayHeader) (calls : List Call) (old : Recorder) (closed : PrintableDay)
    → form_of_recorder old ≡ form
    → open_fault day.config ≡ None
    → length calls ≤ day.config.max_calls → IsClosedDay day old day.config (history_of day.config calls) (Ok closed)
    → RecordsDay form (Ok (record { day = day; calls = calls })) (Ok closed)
recorded-closed form day calls old closed for opens few (is, same, holds) = (
  calls,
  ap (λ (d : DayHeader). Ok (record { day = d; calls = calls })) (sym is),
  (same ∙ for, rw is opens, rw is few, rw is holds),
)

refused-closed : (form : Form) (day : DayHeader) (old : Recorder) (config : Config) (entries : List Entry) (f : Fault)
    (said : Result DayWithCalls FileFault)
    → IsClosedDay day old config entries (Err f) → RecordsDay form said (Err f)
refused-closed form day old config entries f said is = subst (λ (x : Fault). RecordsDay form said (Err x)) (sym is) tt

pub said_closed : (form : Form) (day : DayHeader) (calls : List Call) (old : Recorder) (r : Result PrintableDay Fault)
    → form_of_recorder old ≡ form → open_fault day.config ≡ None
    → length calls ≤ day.config.max_calls → IsClosedDay day old day.config (history_of day.config calls) r
    → RecordsDay form (Ok (record { day = day; calls = calls })) r
said_closed form day calls old (Ok closed) for opens few is = recorded-closed form day calls old closed for opens few is
said_closed form day calls old (Err f) for opens few is =
    refused-closed form day old day.config (history_of day.config calls) f _ is

-- ---- an input
unread : (day : DayHeader) (all : List ℕ) (f : FileFault) → FailsAsWanted f (within_limit MAX_JOURNAL_BYTES all)
    → FailsAsWanted f (run_input day all)
unfolding run_input
unread day all faults.NoMemory h = tt
unread day all faults.ReadFailed h = tt
unread day all faults.TooLong h = rw h refl
unread day all (faults.BadMember n) h = rw h refl
unread day all (faults.BadCommand n) h = rw h refl
unread day all (faults.BadCount n) h = rw h refl
unread day all (faults.BadField n k) h = rw h refl
unread day all (faults.TooManyCommands n) h = rw h refl
unread day all faults.NotADay h = rw h refl

-- what was said is what the input gives, where it is known
pub known_said : (form : Form) (day : DayHeader) (left : Option (List ℕ)) (bytes : List ℕ) (r
    : Result PrintableDay Fault)
    → IfSome left (λ all. within_limit MAX_JOURNAL_BYTES all ≡ Ok bytes) → RecordsDay form (run_input_of day bytes) r
    → (said : Result DayWithCalls FileFault) × RecordsDay form said r × IfSome left (λ all. said ≡ run_input day all)
unfolding run_input
known_said form day None bytes r read recorded = (run_input_of day bytes, recorded, tt)
known_said form day (Some all) bytes r read recorded = (run_input_of day bytes, recorded, rw read refl)

-- the input couldn't be read
pub unread_said : (day : DayHeader) (left : Option (List ℕ)) (f : FileFault)
    → IfSome left (λ all. FailsAsWanted f (within_limit MAX_JOURNAL_BYTES all))
    → (said : Result DayWithCalls FileFault) × FailsAsWanted f said × IfSome left (λ all. said ≡ run_input day all)
unread_said day None f h = (Err f, fails-at f (Err f) refl, tt)
unread_said day (Some all) f h = (run_input day all, unread day all f h, refl)

-- what may come of refused memory may come in any case
records-none : (form : Form) (r : Result PrintableDay Fault) (said : Result DayWithCalls FileFault)
    → RecordsDay form (Err faults.NoMemory) r → RecordsDay form said r
records-none form (Ok recorded) said h = absurd (cc (h.1))
records-none form (Err (fault.File faults.TooLong)) said h = absurd (cc h)
records-none form (Err (fault.File faults.ReadFailed)) said h = tt
records-none form (Err (fault.File (faults.BadMember n))) said h = absurd (cc h)
records-none form (Err (fault.File (faults.BadCommand n))) said h = absurd (cc h)
records-none form (Err (fault.File (faults.BadCount n))) said h = absurd (cc h)
records-none form (Err (fault.File (faults.BadField n k))) said h = absurd (cc h)
records-none form (Err (fault.File (faults.TooManyCommands n))) said h = absurd (cc h)
records-none form (Err (fault.File faults.NotADay)) said h = absurd (cc h)
records-none form (Err (fault.File faults.NoMemory)) said h = tt
records-none form (Err (fault.Open f)) said h = absurd (cc (h.1))
records-none form (Err fault.NoMemory) said h = absurd h
records-none form (Err fault.NotClosed) said h = absurd h
records-none form (Err fault.WriteFailed) said h = absurd h

-- what has a fault as a journal
pub no-journal : (form : Form) (day : DayHeader) (bytes : List ℕ) (f : FileFault) (r : Result PrintableDay Fault)
    → FailsAsWanted f (journal_of bytes) → IsOfRecord f
    → RecordsDay form (or_orders (orders_for day bytes) f) r → RecordsDay form (run_input_of day bytes) r
unfolding run_input_of
no-journal form day bytes faults.TooLong r f n h = absurd n
no-journal form day bytes faults.ReadFailed r f n h = absurd n
no-journal form day bytes (faults.BadMember k) r f n h = rw f h
no-journal form day bytes (faults.BadCommand k) r f n h = rw f h
no-journal form day bytes (faults.BadCount k) r f n h = rw f h
no-journal form day bytes (faults.BadField k l) r f n h = rw f h
no-journal form day bytes (faults.TooManyCommands k) r f n h = rw f h
no-journal form day bytes faults.NotADay r f n h = rw f h
no-journal form day bytes faults.NoMemory r f n h = records-none form r _ h

-- ---- a run of an input that was recorded

-- nothing that was recorded was read at fault
pub recorded_well : {F : Type 0} (r : Result PrintableDay Fault) (recorded : PrintableDay) → r ≡ Ok recorded
    → (IsErrOf r (fault.File faults.ReadFailed) ↔ F) → F → ⊥
recorded_well r recorded is told h = let late : r ≡ Err (fault.File faults.ReadFailed) = told.1 h in absurd cc

-- what was said is what was given, where the input is known
pub said_given : (day : DayHeader) (left : Option (List ℕ)) (said : Result DayWithCalls FileFault)
    (day_with_calls : DayWithCalls) → said ≡ Ok day_with_calls
    → IfSome left (λ all. said ≡ run_input day all) → IfSome left (λ all. run_input day all ≡ Ok day_with_calls)
said_given day None said day_with_calls is known = tt
said_given day (Some all) said day_with_calls is known = sym known ∙ is

said_fails : (day : DayHeader) (left : Option (List ℕ)) (said : Result DayWithCalls FileFault) (f : FileFault)
    → FailsAsWanted f said
    → IfSome left (λ all. said ≡ run_input day all) → IfSome left (λ all. FailsAsWanted f (run_input day all))
said_fails day None said f h known = tt
said_fails day (Some all) said f h known = rw known at h

-- what wasn't recorded
pub unrecorded : (form : Form) (day : DayHeader) (ends : Ends) (said : Result DayWithCalls FileFault)
    (r : Result PrintableDay Fault) (f : Fault) → r ≡ Err f
    → (IsErrOf r (fault.File faults.ReadFailed) ↔ ends.ReadFailed) → (ends.WriteFailed → ⊥) → ends.new ≡ ends.old
    → RecordsDay form said (Err f) → IfSome ends.left (λ all. said ≡ run_input day all)
    → IsRunOf (auction_job day form) ends (Err f)
unrecorded form day ends said r (fault.File f) is told wrote_well quiet recorded known =
    refused_input (auction_job day form) ends (Err f) f refl (λ e. told.0 (is ∙ read e), λ h. failed (told.1 h))
    wrote_well quiet tt (said_fails day ends.left said f recorded known)
  where
    read : IsErrOf {T = Unit {0}} (Err f) faults.ReadFailed → ◌≡◌ {A =
        Result PrintableDay Fault} (Err (fault.File f)) (Err (fault.File faults.ReadFailed))
    read e = let same : f ≡ faults.ReadFailed = cc (e) in ap (λ (x : FileFault). Err (fault.File x)) same

    failed : r ≡ Err (fault.File faults.ReadFailed) → IsErrOf {T = Unit {0}} (Err f) faults.ReadFailed
    failed e = let same : f ≡ faults.ReadFailed = cc (e, is) in ap (λ (x : FileFault). Err x) same
unrecorded form day ends said r (fault.Open f) is told wrote_well quiet recorded known =
    refused_opening (auction_job day form) ends recorded.0 f (said_given day ends.left said recorded.0 recorded.1 known)
    (λ h. let late : r ≡ Err (fault.File faults.ReadFailed) =
    told.1 h in absurd (cc (late, is))) wrote_well quiet tt recorded.2
unrecorded form day ends said r fault.NoMemory is told wrote_well quiet recorded known = absurd recorded
unrecorded form day ends said r fault.NotClosed is told wrote_well quiet recorded known = absurd recorded
unrecorded form day ends said r fault.WriteFailed is told wrote_well quiet recorded known = absurd recorded

-- what was recorded is of a form, and of what was said
pub recorded-said : (form : Form) (r : Result PrintableDay Fault) (text : Option (List ℕ))
    (says : List ℕ → Result DayWithCalls FileFault) → RecordsDayOfText form r text says
    → (for : Form) × (said : Result DayWithCalls FileFault) × RecordsDay for said r
recorded-said form r text says (said, recorded, known) = (form, said, recorded)

-- what was written of it
pub recorded_wrote : (form for : Form) (day_with_calls : DayWithCalls) (old new : Option (List ℕ))
    (r : Result (Unit {0}) Fault) → for ≡ form
    → WritesText old new (printed for day_with_calls.day (history_of day_with_calls.day.config day_with_calls.calls)) r
    → WritesText old new (run_text form day_with_calls) r
recorded_wrote form for day_with_calls old new r is wrote = rw is at wrote

pub recorded_wide : (form for : Form) (entries : List Entry) → for ≡ form → IsWideForm for entries
    → IsWideForm form entries
recorded_wide form for entries is wide = rw is at wide
