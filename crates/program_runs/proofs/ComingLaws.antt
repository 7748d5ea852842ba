-- The days of calls that come from an input.
use Rattle.std.proofs.Common.{◌≡◌, ◌≤◌, ◌+◌, ◌∙◌, [], ℕ, List, length, map, None, Result, Ok, Err}
use Rattle.std.proofs.Common.{refl, ap, arith, subst, sym}
use Rattle.std.proofs.lemmas.List.{length-map}
use Rattle.std.specs.Prelude.{unwrap_or}
use Rattle.auction.specs.ConfigFault.{open_fault}
use Rattle.auction.specs.declared.OpenFault.{OpenFault}
use Rattle.auction.specs.declared.OpenFault.TheVariants.{NoMemory}
use Rattle.auction_terms.specs.declared.Call.{Call}
use Rattle.auction_terms.specs.declared.Entry.{Entry}
use Rattle.auction_terms.specs.Results.{◌>>=◌}
use Rattle.auction_terms.specs.Auxiliary.RunningAuction.{RunningAuction, opened_auction}
use Rattle.day_road.specs.Heard.{HearsAll, heard_from}
use Rattle.auction_terms.specs.Day.{IsLegal, calls_of, opening_state}
use Rattle.day_road.specs.Inputs.{PassesOver, silent, silent_all}
use Rattle.journal.specs.DayWithCalls.{DayWithCalls, calls_coming, run_input_of}
use Rattle.journal.specs.JournalEntries.{day_left, entries_left}
use Rattle.journal.specs.EntryRecord.{RecordedCall, call_part}
use Rattle.journal.specs.JournalFile.{journal_of}
use Rattle.journal.specs.declared.day.DayHeader.{DayHeader}
use Rattle.journal.specs.declared.entries.Entries.{Entries}
use Rattle.journal.proofs.EntryLaws.{fails-alike}
use Rattle.journal.proofs.EntryReadLaws.{entries-run}
use Rattle.order_file.specs.File.{FailsAsWanted}
use Rattle.order_file.specs.declared.fault.FileFault.{FileFault}
use Rattle.settings.specs.declared.types.Form.{Form}
use Rattle.settings.specs.declared.types.Form.TheVariants as forms
use Rattle.settings.specs.declared.types.Listing.{Listing}
use Rattle.program_runs.specs.RecordedEntries.{IsClosedDay, RecordsDay, RecordsEntries, RecordsHeard, RecordsWholeDay}
use Rattle.program_runs.specs.RecordedEntries.{calls_for, entries_heard, form_of_recorder}
use Rattle.program_runs.specs.Printed.{IfBegun, IsWideForm, IsWideListing, history_of, listing_text, printed}
use Rattle.program_runs.proofs.EntriesLaws.{legal-history}
use Rattle.program_runs.specs.declared.fault.Fault.{Fault}
use Rattle.program_runs.specs.declared.fault.Fault.TheVariants as fault
use Rattle.program_runs.specs.declared.recorder.Recorder.{Recorder}
use Rattle.program_runs.specs.declared.recorded_day.PrintableDay.{PrintableDay}
use Rattle.program_runs.proofs.EntriesHeardLaws.{heard-entries, silent-calls}
use Rattle.program_runs.proofs.RecorderLaws.{said_closed}

-- a fault of the input
pub coming-fails : (form : Form) (day : DayHeader) (coming : Result (List RecordedCall) FileFault) (f : FileFault)
    → FailsAsWanted f coming → RecordsDay form (calls_coming day coming) (Err (fault.File f))
coming-fails form day coming f h = fails-alike f coming (calls_coming day coming) (λ e. rw e refl) h

-- a day that can't be opened
pub coming-refused : (form : Form) (day : DayHeader) (coming : Result (List RecordedCall) FileFault) (f : OpenFault)
    → PassesOver coming (Ok tt) → f ≡ unwrap_or (open_fault day.config) NoMemory
    → RecordsDay form (calls_coming day coming) (Err (fault.Open f))
coming-refused form day coming f (rs, is) why =
    (record { day = day; calls = map call_part rs }, rw is refl, why)

-- a day whose calls have come
pub coming-recorded : (form : Form) (day : DayHeader) (recorder : Recorder) (old new : RunningAuction)
    (coming : Result (List RecordedCall) FileFault) (r : Result PrintableDay Fault) → old ≡ opened_auction day.config
    → form_of_recorder recorder ≡ form → open_fault day.config ≡ None → new.calls ≤ old.config.max_calls
    → HearsAll (RecordsHeard recorder new) [] old new coming (Ok tt)
    → ((entries : List Entry) → RecordsEntries recorder new entries → IsClosedDay day recorder new.config entries r)
    → RecordsDay form (calls_coming day coming) r
coming-recorded form day recorder old new coming r fresh for opens room (rs, is, came, holds) closes =
    let calls : List Call = map call_part rs in
    let count : new.calls ≡ old.calls + length rs = ap (λ (a : RunningAuction). a.calls) came in
    let none : old.calls ≡ 0 = ap (λ (a : RunningAuction). a.calls) fresh in
    let most : old.config.max_calls ≡ day.config.max_calls =
    ap (λ (a : RunningAuction). a.config.max_calls) fresh in
    let few : length calls ≤ day.config.max_calls = omega (arith, room, count, none, most, length-map rs call_part) in
    let config : new.config ≡ day.config =
    ap (λ (a : RunningAuction). a.config) came ∙ ap (λ (a : RunningAuction). a.config) fresh in
    let entries : entries_heard (heard_from old.config old.state rs) ≡ history_of day.config calls =
    rw fresh (heard-entries day.config (opening_state day.config) rs) in
    let closed : IsClosedDay day recorder day.config (history_of day.config calls) r =
    rw config at (closes (history_of day.config calls) (subst (RecordsEntries recorder new) entries holds)) in
    rw is (said_closed form day calls recorder r for opens few closed)

-- ---- an order file

pub coming-orders : (day : DayHeader) (calls : Result (List Call) FileFault)
    → calls_coming day (calls >>= silent_all) ≡ calls_for day calls
coming-orders day (Ok calls) = rw (silent-calls calls) refl
coming-orders day (Err f) = refl

-- ---- a journal

pub entries-said : (form : Form) (day : DayHeader) (bytes : List ℕ) (entries : Entries) (r : Result PrintableDay Fault)
    → journal_of bytes ≡ day_left entries → RecordsDay form (calls_coming entries.day (entries_left entries)) r
    → RecordsDay form (run_input_of day bytes) r
entries-said form day bytes entries r is =
    subst (λ (said : Result DayWithCalls FileFault). RecordsDay form said r) (entries-run day bytes entries is)

-- ---- a history

if-begun : (r : Result (Unit {0}) Fault) {P : Type 0} → P → IfBegun r P
if-begun (Ok u) p = p
if-begun (Err fault.WriteFailed) p = p
if-begun (Err fault.NoMemory) p = tt
if-begun (Err fault.NotClosed) p = tt
if-begun (Err (fault.File f)) p = tt
if-begun (Err (fault.Open f)) p = tt

-- what a day is whose calls are those of a legal history
record IsListed (listing : Listing) (day : DayHeader) (entries : List Entry) (recorded_day : PrintableDay)
    : Type 0 where
  same : recorded_day.day ≡ day
  form : form_of_recorder recorded_day.recorder ≡ forms.Listing listing
  recorded : RecordsWholeDay recorded_day.recorder recorded_day.day.config entries

listed : (listing : Listing) (day : DayHeader) (entries : List Entry) (recorded_day : PrintableDay)
    → IsLegal day.config entries
    → RecordsDay (forms.Listing listing) (calls_coming day (silent_all (calls_of entries))) (Ok recorded_day)
    → IsListed listing day entries recorded_day
listed listing day entries recorded_day legal (calls, is, (form, opens, few, recorded)) =
    let given : ◌≡◌ {A = DayWithCalls} (record { day = day; calls = map call_part (map silent (calls_of entries)) })
    (record { day = recorded_day.day; calls = calls }) = cc (is) in
    let same : recorded_day.day ≡ day = sym (ap (λ (d : DayWithCalls). d.day) given) in
    let came : calls ≡ calls_of entries =
    sym (ap (λ (d : DayWithCalls). d.calls) given) ∙ silent-calls (calls_of entries) in
    let history : history_of recorded_day.day.config calls ≡ entries =
    rw (same, came) (legal-history day.config entries legal) in
    record {
      same = same;
      form = form;
      recorded = subst (RecordsWholeDay recorded_day.recorder recorded_day.day.config) history recorded;
    }

-- what is recorded of it
pub listing-recorded : (listing : Listing) (day : DayHeader) (entries : List Entry) (recorded_day : PrintableDay)
    → IsLegal day.config entries
    → RecordsDay (forms.Listing listing) (calls_coming day (silent_all (calls_of entries))) (Ok recorded_day)
    → RecordsWholeDay recorded_day.recorder recorded_day.day.config entries
listing-recorded listing day entries recorded_day legal recorded =
    (listed listing day entries recorded_day legal recorded).recorded

-- and printed of it
pub listing-printed : (listing : Listing) (day : DayHeader) (entries : List Entry) (recorded_day : PrintableDay)
    → IsLegal day.config entries
    → RecordsDay (forms.Listing listing) (calls_coming day (silent_all (calls_of entries))) (Ok recorded_day)
    → printed (form_of_recorder recorded_day.recorder) recorded_day.day entries ≡ listing_text listing day entries
listing-printed listing day entries recorded_day legal recorded =
    let is = listed listing day entries recorded_day legal recorded in
    rw (is.form, is.same) refl

pub listing-wide : (listing : Listing) (day : DayHeader) (entries : List Entry) (recorded_day : PrintableDay)
    (r : Result (Unit {0}) Fault) → IsLegal day.config entries
    → RecordsDay (forms.Listing listing) (calls_coming day (silent_all (calls_of entries))) (Ok recorded_day)
    → IsWideForm (form_of_recorder recorded_day.recorder) entries → IfBegun r (IsWideListing listing entries)
listing-wide listing day entries recorded_day r legal recorded wide =
    if-begun r (rw (listed listing day entries recorded_day legal recorded).form at wide)
