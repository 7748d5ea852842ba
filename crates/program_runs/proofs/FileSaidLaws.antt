-- What an input says of which the start was read apart.
use Rattle.std.proofs.Common.{◌≡◌, ◌≤◌, ◌<◌, ◌⊎◌, inl, inr, ◌++◌, ◌∷◌, ◌∙◌, ℕ, List, length, Option, None, Some}
use Rattle.std.proofs.Common.{map, Result, Ok, Err, Bool, true, false, nat_lt, refl, ap, sym, subst, arith, rules}
use Rattle.std.specs.Prelude.{IfSome, IsErrAnd, IsErrOf}
use Rattle.csv.specs.Records.{field_at}
use Rattle.std.specs.Io.KnownBytes.{Consumes, prepend_known}
use Rattle.auction.specs.ConfigFault.{open_fault}
use Rattle.auction_terms.specs.declared.Call.{Call}
use Rattle.auction_terms.specs.declared.Config.{Config}
use Rattle.auction_terms.specs.declared.Entry.{Entry}
use Rattle.auction_terms.specs.Auxiliary.RunningAuction.{RunningAuction, opened_auction}
use Rattle.auction_terms.specs.Results.{◌>>=◌}
use Rattle.day_road.specs.Heard.{after_all, heard_from}
use Rattle.day_road.specs.Inputs.{silent, silent_all}
use Rattle.journal.specs.DayWithCalls.{DayWithCalls, run_input, run_input_of, orders_for}
use Rattle.journal.specs.DayRecord.{is_day_row}
use Rattle.journal.specs.JournalFile.{journal_of, journal_of_rows}
use Rattle.journal.specs.declared.day.DayHeader.{DayHeader}
use Rattle.journal.specs.declared.reading.TheConstants.{MAX_JOURNAL_BYTES}
use Rattle.order_file.specs.File.{FailsAsWanted, file, within_limit}
use Rattle.order_file.specs.declared.fault.FileFault.{FileFault}
use Rattle.order_file.specs.declared.fault.FileFault.TheVariants as faults
use Rattle.order_file.proofs.CallLaws.{fails-at}
use Rattle.order_file.proofs.FirstFieldLaws.{BeginsWith, digit-first}
use Rattle.settings.specs.declared.types.Form.{Form}
use Rattle.program_runs.specs.declared.fault.Fault.{Fault}
use Rattle.program_runs.specs.declared.fault.Fault.TheVariants as fault
use Rattle.program_runs.specs.declared.recorder.Recorder.{Recorder}
use Rattle.program_runs.specs.declared.recorded_day.PrintableDay.{PrintableDay}
use Rattle.program_runs.specs.RecordedEntries.{IsClosedDay, RecordsCallsOfText, RecordsDay, RecordsDayOfText}
use Rattle.program_runs.specs.RecordedEntries.{RecordsEntries, RecordsHeard, calls_for, form_of_recorder}
use Rattle.program_runs.proofs.BlockRunLaws.{fails-then}
use Rattle.program_runs.proofs.ComingLaws.{coming-fails, coming-recorded, coming-orders}
use Rattle.program_runs.proofs.RecorderLaws.{orders-long}

-- ---- a file of a day

orders-known : (day : DayHeader) (wanted : Result (List Call) FileFault) (text : Option (List ℕ))
    → IfSome text (λ bytes. wanted ≡ file bytes day.members day.config.max_calls)
    → IfSome text (λ bytes. calls_for day wanted ≡ orders_for day bytes)
unfolding orders_for
orders-known day wanted None h = tt
orders-known day wanted (Some bytes) h = ap (calls_for day) h

-- memory was refused
pub said-memory : (form : Form) (text : Option (List ℕ)) (says : List ℕ → Result DayWithCalls FileFault)
    → RecordsDayOfText form (Err (fault.File faults.NoMemory)) text says
said-memory form None says = (Err faults.NoMemory, tt, tt)
said-memory form (Some bytes) says = (says bytes, tt, refl)

-- what a `?` handed on
pub said-handed : (form : Form) (text : Option (List ℕ)) (says : List ℕ → Result DayWithCalls FileFault)
    (r : Result PrintableDay Fault) (f : Fault) → IsErrAnd r (λ x. x ≡ f) → RecordsDayOfText form (Err f) text says
    → RecordsDayOfText form r text says
said-handed form text says (Ok day) f is recorded = absurd is
said-handed form text says (Err e) f is recorded =
    subst (λ (x : Fault). RecordsDayOfText form (Err x) text says) (sym is) recorded

-- ---- the start of an input

pub start-said : (form : Form) (start : List ℕ) (a b : Option (List ℕ)) (r : Result PrintableDay Fault) (says : List ℕ
    → Result DayWithCalls FileFault) → Consumes a b start
    → RecordsDayOfText form r (prepend_known start b) says → RecordsDayOfText form r a says
start-said form start None b r says read (said, recorded, known) = (said, recorded, tt)
start-said form start (Some xs) None r says read h = absurd read
start-said form start (Some xs) (Some ys) r says read (said, recorded, known) =
    (said, recorded, known ∙ ap says (sym read))

pub start-unread : (form : Form) (text : Option (List ℕ)) (f : FileFault) (says : List ℕ
    → Result DayWithCalls FileFault)
    → (f ≡ faults.ReadFailed) ⊎ (f ≡ faults.NoMemory) → RecordsDayOfText form (Err (fault.File f)) text says
start-unread form text f says (inl is) = rw is (by_option text)
  where
    by_option : (text : Option (List ℕ)) → RecordsDayOfText form (Err (fault.File faults.ReadFailed)) text says
    by_option None = (Err faults.ReadFailed, tt, tt)
    by_option (Some bytes) = (says bytes, tt, refl)
start-unread form text f says (inr is) = rw is (said-memory form text says)

-- ---- what begins with a digit

digit-no-day : (d : ℕ) (fields : List (List ℕ)) → d ≤ 57 → BeginsWith d fields → is_day_row fields ≡ false
unfolding is_day_row field_at
digit-no-day d fields high (more, others, is) = rw is (search rules)

digit-journal : (d : ℕ) (rest : List ℕ) → 48 ≤ d → d ≤ 57 → journal_of (d ∷ rest) ≡ Err faults.NotADay
unfolding journal_of journal_of_rows
digit-journal d rest low high =
    let (row, rows, is, begins) = digit-first d rest low high in
    rw (is, digit-no-day d row high begins) refl

digit-run_input : (day : DayHeader) (d : ℕ) (rest : List ℕ) → 48 ≤ d → d ≤ 57
    → orders_for day (d ∷ rest) ≡ run_input day (d ∷ rest)
unfolding run_input run_input_of within_limit
digit-run_input day d rest low high = by_less (nat_lt MAX_JOURNAL_BYTES (length (d ∷ rest))) refl
  where
    by_less : (b : Bool) → nat_lt MAX_JOURNAL_BYTES (length (d ∷ rest)) ≡ b
        → orders_for day (d ∷ rest) ≡ (within_limit MAX_JOURNAL_BYTES (d ∷ rest) >>= run_input_of day)
    by_less true e =
        let long : MAX_JOURNAL_BYTES < length (d ∷ rest) = search rules in
        rw e (orders-long day (d ∷ rest) (omega (arith, long)))
    by_less false e = rw (e, digit-journal d rest low high) refl

digit-said : (form : Form) (day : DayHeader) (start : List ℕ) (b : Option (List ℕ)) (r : Result PrintableDay Fault)
    → ((digit : ℕ) × (rest : List ℕ) × (start ≡ digit ∷ rest) × (48 ≤ digit) × (digit ≤ 57))
    → RecordsDayOfText form r (prepend_known start b) (orders_for day)
    → RecordsDayOfText form r (prepend_known start b) (run_input day)
digit-said form day start None r digit (said, recorded, known) = (said, recorded, tt)
digit-said form day start (Some left) r (d, rest, is, low, high) (said, recorded, known) = (
  said,
  recorded,
  known ∙ ap (λ (front : List ℕ). orders_for day (front ++ left)) is ∙ digit-run_input day d (rest ++ left) low high
      ∙ ap (λ (front : List ℕ). run_input day (front ++ left)) (sym is),
)

-- ---- a file that begins with a digit

-- what it says is what the input says, which begins with its start
pub begun-said : (form : Form) (day : DayHeader) (left rest : Option (List ℕ)) (start : List ℕ)
    (r : Result PrintableDay Fault) → Consumes left rest start
    → ((digit : ℕ) × (more : List ℕ) × (start ≡ digit ∷ more) × (48 ≤ digit) × (digit ≤ 57))
    → RecordsDayOfText form r (prepend_known start rest) (orders_for day) → RecordsDayOfText form r left (run_input day)
begun-said form day left rest start r read digit recorded =
    start-said form start left rest r (run_input day) read (digit-said form day start rest r digit recorded)

-- ---- what its blocks say

-- a fault of it
pub blocks-stop : (recorder : Recorder) (old new : RunningAuction) (r : Result (Unit {0}) FileFault)
    (f : FileFault) (text : Option (List ℕ)) (members : ℕ) → IsErrAnd r (λ x. x ≡ f)
    → IfSome text (λ bytes. FailsAsWanted f (file bytes members old.config.max_calls))
    → RecordsCallsOfText (RecordsHeard recorder new) old new r text members
blocks-stop recorder old new (Ok u) f text members is fails = absurd is
blocks-stop recorder old new (Err e) f None members is fails = (Err e, fails-at e (Err e) refl, tt)
blocks-stop recorder old new (Err e) f (Some bytes) members is fails = (
  file bytes members old.config.max_calls,
  fails-then e (file bytes members old.config.max_calls) silent_all
      (subst (λ (x : FileFault). FailsAsWanted x (file bytes members old.config.max_calls)) (sym is) fails),
  refl,
)

-- all of its calls
pub blocks-end : (recorder : Recorder) (old new : RunningAuction) (calls : List Call)
    (text : Option (List ℕ)) (members : ℕ) → IfSome text (λ bytes. file bytes members old.config.max_calls ≡ Ok calls)
    → new ≡ after_all old (map silent calls)
    → RecordsHeard recorder new (heard_from old.config old.state (map silent calls))
    → RecordsCallsOfText (RecordsHeard recorder new) old new (Ok tt) text members
blocks-end recorder old new calls None members says came holds = (Ok calls, (map silent calls, refl, came, holds), tt)
blocks-end recorder old new calls (Some bytes) members says came holds =
    (Ok calls, (map silent calls, refl, came, holds), sym says)

-- its calls came to the auction, and the day was closed
pub blocks-recorded : (form : Form) (day : DayHeader) (recorder : Recorder) (old new : RunningAuction)
    (text : Option (List ℕ)) (r : Result PrintableDay Fault) → old ≡ opened_auction day.config
    → form_of_recorder recorder ≡ form → open_fault day.config ≡ None → new.calls ≤ old.config.max_calls
    → RecordsCallsOfText (RecordsHeard recorder new) old new (Ok tt) text day.members
    → ((entries : List Entry) → RecordsEntries recorder new entries → IsClosedDay day recorder new.config entries r)
    → RecordsDayOfText form r text (orders_for day)
blocks-recorded form day recorder old new text r fresh for opens room (wanted, heard, known) closes = (
  calls_for day wanted,
  subst (λ (said : Result DayWithCalls FileFault). RecordsDay form said r) (coming-orders day wanted)
      (coming-recorded form day recorder old new (wanted >>= silent_all) r fresh for opens room heard closes),
  orders-known day wanted text (rw fresh at known),
)

-- it has a fault
pub blocks-failed : (form : Form) (day : DayHeader) (recorder : Recorder) (old new : RunningAuction)
    (text : Option (List ℕ)) (f : FileFault) (r : Result PrintableDay Fault) → old ≡ opened_auction day.config
    → IsErrAnd r (λ x. x ≡ fault.File f)
    → RecordsCallsOfText (RecordsHeard recorder new) old new (Err f) text day.members
    → RecordsDayOfText form r text (orders_for day)
blocks-failed form day recorder old new text f r fresh is (wanted, fails, known) =
    said-handed form text (orders_for day) r (fault.File f) is (
      calls_for day wanted,
      subst (λ (said : Result DayWithCalls FileFault). RecordsDay form said (Err (fault.File f)))
          (coming-orders day wanted) (coming-fails form day (wanted >>= silent_all) f fails),
      orders-known day wanted text (rw fresh at known),
    )

-- memory that was refused at a day's end is no failed read
pub closed-read : (day : DayHeader) (recorder : Recorder) (config : Config) (entries : List Entry) (r
    : Result PrintableDay Fault)
    → IsClosedDay day recorder config entries r → IsErrOf r (fault.File faults.ReadFailed) → ⊥
closed-read day recorder config entries (Ok closed) is e = absurd (cc (e))
closed-read day recorder config entries (Err f) is e = absurd (cc (is, e))
