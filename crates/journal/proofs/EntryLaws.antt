-- Calls with their replies that go before others.
use Rattle.std.proofs.Common.{◌≡◌, ◌<◌, ◌≤◌, ◌+◌, ◌++◌, ◌∷◌, ◌∙◌, [], ℕ, List, Bool, Result, Ok, Err, false, true, refl}
use Rattle.std.proofs.Common.{sym, ap, append_assoc, length, map, nat_le, nat_lt, rules}
use Rattle.auction_terms.specs.declared.Call.{Call}
use Rattle.auction_terms.specs.Results.{◌>>=◌}
use Rattle.order_file.specs.File.{FailsAsWanted}
use Rattle.order_file.specs.Record.{with_record_number}
use Rattle.order_file.specs.FileFault.{in_record}
use Rattle.order_file.specs.declared.fault.FileFault.{FileFault}
use Rattle.order_file.specs.declared.fault.FileFault.TheVariants as file
use Rattle.order_file.specs.declared.fault.RecordFault.{RecordFault}
use Rattle.order_file.specs.declared.fault.RecordFault.TheVariants as fault
use Rattle.journal.specs.declared.day.DayHeader.{DayHeader}
use Rattle.journal.specs.declared.entry.RecordStart.{RecordStart}
use Rattle.journal.specs.EntryRecord.{RecordedCall, call_with, fields_of_call, start_of_entry, is_reply_text}
use Rattle.journal.specs.EntryRecord.{reply_of_fields}
use Rattle.journal.specs.EntryRecord.{call_part, recorded_call_of}
use Rattle.order_file.specs.File.{GivesWanted, IsOfRecord, calls_of_file, file as file_says, within_limit}
use Rattle.order_file.specs.declared.reading.TheConstants.{MAX_BYTES}
use Rattle.journal.specs.DayRecord.{day_of_record, is_day_row}
use Rattle.journal.specs.DayWithCalls.{DayWithCalls, calls_coming, day_with_calls, run_input_by, run_input_of}
use Rattle.journal.specs.DayWithCalls.{or_orders, orders_for}
use Rattle.journal.specs.JournalFile.{RecordedDay, journal_of, journal_of_rows, recorded_calls_after, recorded_day}
use Rattle.journal.specs.JournalFile.{recorded_in}
use Rattle.journal.specs.declared.run_input.RunInput.{RunInput}

-- these calls, and then those
abbrev pub behind : List RecordedCall → Result (List RecordedCall) FileFault → Result (List RecordedCall) FileFault
behind front rest = rest >>= λ recording. Ok (front ++ recording)

pub behind-more : (front : List RecordedCall) (recording : RecordedCall) (r : Result (List RecordedCall) FileFault)
    → behind (front ++ recording ∷ []) r ≡ behind front (r >>= λ rest. Ok (recording ∷ rest))
behind-more front recording (Ok x) = ap Ok (append_assoc front (recording ∷ []) x)
behind-more front recording (Err e) = refl

pub one-entry : (members max_calls before : ℕ) (r : List (List ℕ)) (rs : List (List (List ℕ))) → before < max_calls
    → recorded_calls_after members max_calls before (r ∷ rs)
    ≡ (with_record_number (before + 2) (recorded_call_of members r) >>= λ recording. recorded_calls_after members
    max_calls (before + 1) rs >>= λ rest. Ok (recording ∷ rest))
unfolding recorded_calls_after
one-entry members max_calls before r rs room = let full : nat_le max_calls before ≡ false =
    search (rules) in rw full refl

pub calls-more : (front : List RecordedCall) (recording : RecordedCall) → map call_part (front ++ recording ∷ [])
    ≡ map call_part front ++ recording.call ∷ []
calls-more [] recording = refl
calls-more (s ∷ ss) recording = ap (λ (t : List Call). s.call ∷ t) (calls-more ss recording)

-- what fails one of two that fail alike fails the other
pub fails-alike : {X Y : Type 0} (e : FileFault) (x : Result X FileFault) (y : Result Y FileFault)
    → (x ≡ Err e → y ≡ Err e) → FailsAsWanted e x → FailsAsWanted e y
fails-alike file.TooLong x y f h = f h
fails-alike file.ReadFailed x y f h = tt
fails-alike (file.BadMember n) x y f h = f h
fails-alike (file.BadCommand n) x y f h = f h
fails-alike (file.BadCount n) x y f h = f h
fails-alike (file.BadField n k) x y f h = f h
fails-alike (file.TooManyCommands n) x y f h = f h
fails-alike file.NotADay x y f h = f h
fails-alike file.NoMemory x y f h = tt

-- ---- what is left behind what was read

-- the first that is left goes to the end of those before
pub next-behind : (front : List RecordedCall) (r : RecordedCall)
    (left rest all : Result (List RecordedCall) FileFault)
    → behind front left ≡ all → left ≡ (rest >>= λ recordings. Ok (r ∷ recordings))
    → behind (front ++ r ∷ []) rest ≡ all
next-behind front r left rest all same is = behind-more front r rest ∙ ap (behind front) (sym is) ∙ same

-- a fault that was wanted
pub fails-record : {Y : Type 0} (number : ℕ) (fault : RecordFault) (wanted : Result Y FileFault)
    → wanted ≡ Err (in_record number fault) → FailsAsWanted (in_record number fault) wanted
fails-record number fault.BadMember wanted h = h
fails-record number fault.BadCommand wanted h = h
fails-record number fault.BadCount wanted h = h
fails-record number (fault.BadField k) wanted h = h

-- ---- one record

pub head-bad : (members number : ℕ) (fields : List (List ℕ)) (fault : RecordFault)
    → Err fault ≡ start_of_entry members fields
    → with_record_number number (recorded_call_of members fields) ≡ Err (in_record number fault)
unfolding recorded_call_of
head-bad members number fields fault e = rw (sym e) refl

pub call-bad : (members number : ℕ) (fields front : List (List ℕ)) (head : RecordStart) (fine : Bool) (place : ℕ)
    (fault : RecordFault) → Ok head ≡ start_of_entry members fields
    → front ≡ fields_of_call fields → fine ≡ is_reply_text (reply_of_fields fields) → place ≡ length fields
    → Err fault ≡ call_with head front fine place
    → with_record_number number (recorded_call_of members fields) ≡ Err (in_record number fault)
unfolding recorded_call_of
call-bad members number fields front head fine place fault e f g h k =
    let bad : call_with head (fields_of_call fields) (is_reply_text (reply_of_fields fields)) (length fields)
    ≡ Err fault = sym (rw (f, g, h) at k) in
    rw (sym e, bad) refl

pub call-good : (members number : ℕ) (fields front : List (List ℕ)) (head : RecordStart) (fine : Bool) (place : ℕ)
    (call : Call) → Ok head ≡ start_of_entry members fields
    → front ≡ fields_of_call fields → fine ≡ is_reply_text (reply_of_fields fields) → place ≡ length fields
    → Ok call ≡ call_with head front fine place
    → with_record_number number (recorded_call_of members fields) ≡ Ok (record {
      call = call;
      text =
          reply_of_fields fields;
    })
unfolding recorded_call_of
call-good members number fields front head fine place call e f g h k =
    let good : call_with head (fields_of_call fields) (is_reply_text (reply_of_fields fields)) (length fields)
    ≡ Ok call = sym (rw (f, g, h) at k) in
    rw (sym e, good) refl

-- ---- the first record

pub first-missing : (rows : List (List (List ℕ))) → rows ≡ [] → journal_of_rows rows ≡ Err file.NotADay
unfolding journal_of_rows
first-missing rows e = rw e refl

pub first-other : (rows rest : List (List (List ℕ))) (row : List (List ℕ)) → rows ≡ row ∷ rest → is_day_row row ≡ false
    → journal_of_rows rows ≡ Err file.NotADay
unfolding journal_of_rows
first-other rows rest row e f = rw (e, f) refl

pub first-faulty : (rows rest : List (List (List ℕ))) (row : List (List ℕ)) (fault : RecordFault) → rows ≡ row ∷ rest
    → is_day_row row ≡ true
    → Err fault ≡ day_of_record row → journal_of_rows rows ≡ Err (in_record 1 fault)
unfolding journal_of_rows
first-faulty rows rest row fault e f g = rw (e, f, sym g) refl

pub first-day : (rows rest : List (List (List ℕ))) (row : List (List ℕ)) (day : DayHeader) → rows ≡ row ∷ rest
    → is_day_row row ≡ true
    → Ok day ≡ day_of_record row → journal_of_rows rows ≡ recorded_in day rest
unfolding journal_of_rows
first-day rows rest row day e f g = rw (e, f, sym g) refl

-- ---- what bytes give

pub orders-long : (day : DayHeader) (bytes : List ℕ) → MAX_BYTES < length bytes
    → orders_for day bytes ≡ Err file.TooLong
unfolding orders_for file_says within_limit
orders-long day bytes h = let long : nat_lt MAX_BYTES (length bytes) ≡ true = search rules in rw long refl

pub orders-bad : (day : DayHeader) (bytes : List ℕ) (fault : FileFault) → length bytes ≤ MAX_BYTES
    → calls_of_file day.members day.config.max_calls bytes ≡ Err fault
    → orders_for day bytes ≡ Err fault
unfolding orders_for file_says within_limit
orders-bad day bytes fault h e = let short : nat_lt MAX_BYTES (length bytes) ≡ false =
    search rules in rw (short, e) refl

pub orders-good : (day : DayHeader) (bytes : List ℕ) (calls : List Call) → length bytes ≤ MAX_BYTES
    → calls_of_file day.members day.config.max_calls bytes ≡ Ok calls
    → orders_for day bytes ≡ Ok (record { day = day; calls = calls })
unfolding orders_for file_says within_limit
orders-good day bytes calls h e = let short : nat_lt MAX_BYTES (length bytes) ≡ false =
    search rules in rw (short, e) refl

pub run_input-journal : (day : DayHeader) (bytes : List ℕ) (j : RecordedDay) → journal_of bytes ≡ Ok j
    → run_input_of day bytes ≡ Ok (record { day = j.day; calls = j.calls })
unfolding run_input_of
run_input-journal day bytes j e = rw e refl

-- what may be given for refused memory may be given in any case
gives-none : {X Y : Type 0} (view : X → Y) (r : Result X FileFault) (wanted : Result Y FileFault)
    → GivesWanted view r (Err file.NoMemory) → GivesWanted view r wanted
gives-none view (Ok x) wanted h = absurd (cc h)
gives-none view (Err file.TooLong) wanted h = absurd (cc h)
gives-none view (Err file.ReadFailed) wanted h = tt
gives-none view (Err (file.BadMember n)) wanted h = absurd (cc h)
gives-none view (Err (file.BadCommand n)) wanted h = absurd (cc h)
gives-none view (Err (file.BadCount n)) wanted h = absurd (cc h)
gives-none view (Err (file.BadField n k)) wanted h = absurd (cc h)
gives-none view (Err (file.TooManyCommands n)) wanted h = absurd (cc h)
gives-none view (Err file.NotADay) wanted h = absurd (cc h)
gives-none view (Err file.NoMemory) wanted h = tt

-- what fails as a journal, and then as orders
pub run_input-orders : (day : DayHeader) (bytes : List ℕ) (fault : FileFault) (r : Result RunInput FileFault)
    → FailsAsWanted fault (journal_of bytes) → IsOfRecord fault
    → GivesWanted day_with_calls r (or_orders (orders_for day bytes) fault)
    → GivesWanted day_with_calls r (run_input_of day bytes)
unfolding run_input_of
run_input-orders day bytes file.TooLong r f n h = absurd n
run_input-orders day bytes file.ReadFailed r f n h = absurd n
run_input-orders day bytes (file.BadMember k) r f n h = rw f h
run_input-orders day bytes (file.BadCommand k) r f n h = rw f h
run_input-orders day bytes (file.BadCount k) r f n h = rw f h
run_input-orders day bytes (file.BadField k l) r f n h = rw f h
run_input-orders day bytes (file.TooManyCommands k) r f n h = rw f h
run_input-orders day bytes file.NotADay r f n h = rw f h
run_input-orders day bytes file.NoMemory r f n h = gives-none day_with_calls r _ h

-- the entries that are left of a journal give what it gives
pub entries-given : (day : DayHeader) (orders : Result DayWithCalls FileFault)
    (left : Result (List RecordedCall) FileFault) → (left ≡ Err file.NotADay → ⊥)
    → calls_coming day left ≡ run_input_by orders (left >>= λ recordings. Ok (recorded_day day recordings))
entries-given day orders (Ok recordings) n = refl
entries-given day orders (Err file.NotADay) n = absurd (n refl)
entries-given day orders (Err file.TooLong) n = refl
entries-given day orders (Err file.ReadFailed) n = refl
entries-given day orders (Err (file.BadMember k)) n = refl
entries-given day orders (Err (file.BadCommand k)) n = refl
entries-given day orders (Err (file.BadCount k)) n = refl
entries-given day orders (Err (file.BadField k i)) n = refl
entries-given day orders (Err (file.TooManyCommands k)) n = refl
entries-given day orders (Err file.NoMemory) n = refl
