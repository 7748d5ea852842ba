-- The entries that are left, by the first record.
use Rattle.std.proofs.Common.{Result, ◌≡◌, ◌<◌, ◌≤◌, ◌+◌, ◌∷◌, ◌++◌, ◌∙◌, [], ℕ, List, Ok, Err, true, nat_le}
use Rattle.std.proofs.Common.{ap, false, refl, rules}
use Rattle.std.specs.Prelude.{Bool, if◌then◌else◌, unwrap_or}
use Rattle.csv.specs.Records.{field_at}
use Rattle.auction_terms.specs.Results.{◌>>=◌}
use Rattle.order_file.specs.Record.{with_record_number}
use Rattle.order_file.specs.declared.fault.FileFault.{FileFault}
use Rattle.order_file.specs.declared.fault.FileFault.TheVariants as file
use Rattle.order_file.specs.declared.fault.RecordFault.{RecordFault}
use Rattle.order_file.specs.declared.fault.RecordFault.TheVariants as fault
use Rattle.journal.specs.DayWithCalls.{calls_coming, orders_for, run_input_of}
use Rattle.journal.specs.EntryRecord.{RecordedCall, recorded_call_of}
use Rattle.journal.specs.JournalEntries.{day_left, entries_left}
use Rattle.journal.specs.JournalFile.{journal_of, recorded_calls_after}
use Rattle.journal.specs.declared.day.DayHeader.{DayHeader}
use Rattle.journal.specs.declared.entries.Entries.{Entries}
use Rattle.journal.proofs.EntryLaws.{entries-given, one-entry}

-- there is none
pub left-end : (members max_calls before : ℕ) (rows : List (List (List ℕ))) → rows ≡ []
    → recorded_calls_after members max_calls before rows ≡ Ok []
unfolding recorded_calls_after
left-end members max_calls before rows is = rw is refl

-- it is one too many
pub left-full : (members max_calls before : ℕ) (rows : List (List (List ℕ))) (r : List (List ℕ))
    (rs : List (List (List ℕ))) → rows ≡ r ∷ rs → max_calls ≤ before
    → recorded_calls_after members max_calls before rows ≡ Err (file.TooManyCommands (before + 2))
unfolding recorded_calls_after
left-full members max_calls before rows r rs is full =
    let test : nat_le max_calls before ≡ true = search rules in
    rw (is, test) refl

-- it has a fault
pub left-bad : (members max_calls before : ℕ) (rows : List (List (List ℕ))) (r : List (List ℕ))
    (rs : List (List (List ℕ))) (fault : FileFault) → rows ≡ r ∷ rs → before < max_calls
    → with_record_number (before + 2) (recorded_call_of members r) ≡ Err fault
    → recorded_calls_after members max_calls before rows ≡ Err fault
left-bad members max_calls before rows r rs fault is room bad =
    rw is (one-entry members max_calls before r rs room ∙ rw bad refl)

-- it has a call
pub left-next : (members max_calls before : ℕ) (rows : List (List (List ℕ))) (r : List (List ℕ))
    (rs : List (List (List ℕ))) (recording : RecordedCall) → rows ≡ r ∷ rs → before < max_calls
    → with_record_number (before + 2) (recorded_call_of members r) ≡ Ok recording
    → recorded_calls_after members max_calls before rows
    ≡ (recorded_calls_after members max_calls (before + 1) rs >>= λ rest. Ok (recording ∷ rest))
left-next members max_calls before rows r rs recording is room good =
    rw is (one-entry members max_calls before r rs room ∙ rw good refl)

-- the text of the last entry is the only one
pub only-text : (new old : List (List ℕ)) (text : List ℕ) → new ≡ old ++ text ∷ [] → old ≡ []
    → unwrap_or (field_at new 0) [] ≡ text
unfolding field_at
only-text new old text is none = rw (is, none) refl

-- ---- a record of a call is of a journal

other-fault : (full : Bool) (first : Result RecordedCall RecordFault) (n k : ℕ)
    (rest : Result (List RecordedCall) FileFault) → (rest ≡ Err file.NotADay → ⊥)
    → (if full then Err (file.TooManyCommands n) else (with_record_number k first >>= λ recording. rest >>= λ more. Ok
    (recording ∷ more))) ≡ Err file.NotADay → ⊥
other-fault true first n k rest h e = cc e
other-fault false (Ok r) n k (Ok more) h e = cc e
other-fault false (Ok r) n k (Err f) h e = let same : f ≡ file.NotADay = cc e in h (ap (λ (x : FileFault). Err x) same)
other-fault false (Err fault.BadMember) n k rest h e = cc e
other-fault false (Err fault.BadCommand) n k rest h e = cc e
other-fault false (Err fault.BadCount) n k rest h e = cc e
other-fault false (Err (fault.BadField i)) n k rest h e = cc e

pub is-a-day : (members max_calls before : ℕ) (rows : List (List (List ℕ)))
    → recorded_calls_after members max_calls before rows ≡ Err file.NotADay → ⊥
unfolding recorded_calls_after
is-a-day members max_calls before [] e = cc e
is-a-day members max_calls before (row ∷ rows) e =
    other-fault (nat_le max_calls before) (recorded_call_of members row) (before + 2) (before + 2)
    (recorded_calls_after members max_calls (before + 1) rows) (is-a-day members max_calls (before + 1) rows) e

-- what a run is given by entries of which none was read
pub entries-run : (day : DayHeader) (bytes : List ℕ) (entries : Entries) → journal_of bytes ≡ day_left entries
    → calls_coming entries.day (entries_left entries) ≡ run_input_of day bytes
unfolding run_input_of
entries-run day bytes entries is =
    rw is (entries-given entries.day (orders_for day bytes) (entries_left entries) (is-a-day _ _ _ _))
