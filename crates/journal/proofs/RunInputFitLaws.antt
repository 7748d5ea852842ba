-- What is given to a run fits a journal's records.
use Rattle.std.proofs.Common.{◌≡◌, ◌≤◌, ◌<◌, ◌+◌, ◌∷◌, [], ℕ, List, Bool, Option, Some, None, Result, Ok, Err, true}
use Rattle.std.proofs.Common.{false, refl, ap, arith, length, map, nat_le, nat_lt, rules, subst}
use Rattle.std.specs.Prelude.{◌&&◌, IfSome, if◌then◌else◌, ok_or, option_and_then}
use Rattle.std.specs.List.{AllByRecursion}
use Rattle.csv.specs.Records.{field_at}
use Rattle.csv.specs.Reading.{default_config, records, strip_bom}
use Rattle.auction_terms.specs.declared.limits.TheConstants.{MAX_CALLS, MAX_MEMBERS, MAX_OPEN_ORDERS, MAX_TICK}
use Rattle.auction_terms.specs.declared.Call.{Call}
use Rattle.auction_terms.specs.declared.Command.{Command}
use Rattle.auction_terms.specs.Results.{◌>>=◌}
use Rattle.order_file.specs.Field.{number_of}
use Rattle.order_file.specs.File.{calls_after, calls_of_file, file as file_says, within_limit}
use Rattle.order_file.specs.Record.{call_of_record, command_of, count_within, field_as, member_of, with_record_number}
use Rattle.order_file.specs.Record.{numbered_call, word_at}
use Rattle.order_file.specs.declared.fault.FileFault.{FileFault}
use Rattle.order_file.specs.declared.fault.FileFault.TheVariants as file
use Rattle.order_file.specs.declared.fault.RecordFault.{RecordFault}
use Rattle.order_file.specs.declared.fault.RecordFault.TheVariants.{BadField, BadMember}
use Rattle.order_file.specs.declared.reading.TheConstants.{MAX_BYTES}
use Rattle.order_file.specs.declared.record.Word.{Word}
use Rattle.journal.specs.declared.day.DayHeader.{DayHeader}
use Rattle.journal.specs.declared.entry.RecordStart.{RecordStart}
use Rattle.journal.specs.declared.reading.TheConstants.{MAX_JOURNAL_BYTES}
use Rattle.journal.specs.DayRecord.{FitsDay, IsUpTo, day_of_record, is_blank_field, is_day_row, number_if_any}
use Rattle.journal.specs.DayRecord.{number_within}
use Rattle.journal.specs.EntryRecord.{RecordedCall, call_with, fields_of_call, start_of_entry, is_reply_text}
use Rattle.journal.specs.EntryRecord.{reply_of_fields}
use Rattle.journal.specs.EntryRecord.{call_part, recorded_call_of}
use Rattle.journal.specs.DayWithCalls.{DayWithCalls, run_input, run_input_by, run_input_of, orders_for}
use Rattle.journal.specs.JournalFile.{RecordedDay, journal_of, journal_of_rows, recorded_day, recorded_in}
use Rattle.journal.specs.JournalFile.{recorded_calls_after}
use Rattle.journal.specs.JournalPromises.{FitsCall, FitsRunInput, RunInputFits}
use Rattle.journal.proofs.FileFitLaws.{call-fits, recording-fits}

-- ---- members

below-parts : (members : ℕ) (r : Result ℕ RecordFault) (m : ℕ)
    → (r >>= λ member. if nat_lt member members then Ok member else Err BadMember) ≡ Ok m → m < members
below-parts members (Err e) m h = absurd (cc h)
below-parts members (Ok n) m h = by_less (nat_lt n members) refl h
  where
    by_less : (b : Bool) → nat_lt n members ≡ b → (if nat_lt n members then Ok n else Err BadMember) ≡ Ok m
        → m < members
    by_less true t q =
        let same : Ok n ≡ Ok m = rw t at q in
        let is : n ≡ m = cc in
        let lt : n < members = search rules in
        rw (← is) lt
    by_less false t q = let bad : Err BadMember ≡ Ok m = rw t at q in absurd (cc bad)

member-below : (members : ℕ) (fields : List (List ℕ)) (m : ℕ) → member_of members fields ≡ Ok m → m < members
unfolding member_of
member-below members fields m h =
    below-parts members (ok_or (option_and_then number_of (field_at fields 0)) BadMember) m h

call-below-parts : (members : ℕ) (r1 : Result ℕ RecordFault) (r2 : Result Word RecordFault) (g : Word
    → Result Command RecordFault) (call : Call)
    → ((m : ℕ) → r1 ≡ Ok m → m < members)
    → (r1 >>= λ member. r2 >>= λ w. g w >>= λ command. Ok (record { member = member; command = command })) ≡ Ok call
    → call.member < members
call-below-parts members (Err e) r2 g call k h = absurd (cc h)
call-below-parts members (Ok m) (Err e) g call k h = absurd (cc h)
call-below-parts members (Ok m) (Ok w) g call k h = last (g w) h
  where
    last : (r : Result Command RecordFault) → (r >>= λ command. Ok (record { member = m; command = command })) ≡ Ok call
        → call.member < members
    last (Ok c) q = let is : record { member = m; command = c } ≡ call =
        cc in subst (λ (p : Call). p.member < members) is (k m refl)
    last (Err e) q = absurd (cc q)

call-below : (members : ℕ) (fields : List (List ℕ)) (call : Call) → call_of_record members fields ≡ Ok call
    → call.member < members
unfolding call_of_record
call-below members fields call h =
    call-below-parts members (member_of members fields) (word_at fields) (λ w. command_of w fields) call
    (λ m e. member-below members fields m e) h

head-below-parts : (members : ℕ) (r1 : Result ℕ RecordFault) (r2 : Result Word RecordFault) (head : RecordStart)
    → ((m : ℕ) → r1 ≡ Ok m → m < members)
    → (r1 >>= λ member. r2 >>= λ w. Ok (record { member = member; word = w })) ≡ Ok head → head.member < members
head-below-parts members (Err e) r2 head k h = absurd (cc h)
head-below-parts members (Ok m) (Err e) head k h = absurd (cc h)
head-below-parts members (Ok m) (Ok w) head k h = let is : record { member = m; word = w } ≡ head =
    cc in subst (λ (p : RecordStart). p.member < members) is (k m refl)

head-below : (members : ℕ) (fields : List (List ℕ)) (head : RecordStart) → start_of_entry members fields ≡ Ok head
    → head.member < members
unfolding start_of_entry
head-below members fields head h =
    head-below-parts members (member_of members fields) (word_at fields) head (λ m e. member-below members fields m e) h

with-member-parts : (member place : ℕ) (r : Result Command RecordFault) (fine : Bool) (call : Call)
    → (r >>= λ command. if fine then Ok (record { member = member; command = command }) else Err (BadField place))
    ≡ Ok call → call.member ≡ member
with-member-parts member place (Ok c) true call h = let is : record { member = member; command = c } ≡ call =
    cc in subst (λ (p : Call). p.member ≡ member) is refl
with-member-parts member place (Ok c) false call h = absurd (cc h)
with-member-parts member place (Err e) fine call h = absurd (cc h)

with-member : (head : RecordStart) (fields : List (List ℕ)) (fine : Bool) (place : ℕ) (call : Call)
    → call_with head fields fine place ≡ Ok call → call.member ≡ head.member
unfolding call_with
with-member head fields fine place call h =
    with-member-parts head.member place (command_of head.word fields) fine call h

recording-below-parts : (members : ℕ) (r : Result RecordStart RecordFault) (g : RecordStart → Result Call RecordFault)
    (text : List ℕ)
    (recording : RecordedCall)
    → ((head : RecordStart) → r ≡ Ok head → head.member < members)
    → ((head : RecordStart) (call : Call) → g head ≡ Ok call → call.member ≡ head.member)
    → (r >>= λ head. g head >>= λ call. Ok (record { call = call; text = text })) ≡ Ok recording
    → recording.call.member < members
recording-below-parts members (Err e) g text recording k j h = absurd (cc h)
recording-below-parts members (Ok head) g text recording k j h = last (g head) (j head) h
  where
    last : (r : Result Call RecordFault) → ((call : Call) → r ≡ Ok call → call.member ≡ head.member)
        → (r >>= λ call. Ok (record { call = call; text = text })) ≡ Ok recording → recording.call.member < members
    last (Ok c) i q =
        let is : record { call = c; text = text } ≡ recording = cc in
        let member : c.member ≡ head.member = i c refl in
        let below : head.member < members = k head refl in
        let lt : c.member < members = rw member below in
        subst (λ (p : RecordedCall). p.call.member < members) is lt
    last (Err e) i q = absurd (cc q)

recording-below : (members : ℕ) (fields : List (List ℕ)) (recording : RecordedCall)
    → recorded_call_of members fields ≡ Ok recording → recording.call.member < members
unfolding recorded_call_of
recording-below members fields recording h =
    recording-below-parts members (start_of_entry members fields)
    (λ head. call_with head (fields_of_call fields) (is_reply_text (reply_of_fields fields)) (length fields))
    (reply_of_fields fields) recording
    (λ head e. head-below members fields head e) (λ head c e. with-member head _ _ _ c e) h

-- ---- lists of calls

with_record_number-good : {X : Type 0} (number : ℕ) (r : Result X RecordFault) (x : X)
    → with_record_number number r ≡ Ok x → r ≡ Ok x
with_record_number-good number (Ok y) x h = let is : y ≡ x = cc in ap (λ z. Ok z) is
with_record_number-good number (Err e) x h = absurd (cc h)

-- the first call and the others
abbrev Both : ℕ → ℕ → ℕ → List Call → Type 0
Both members max_calls before calls = AllByRecursion (FitsCall members) calls × (before + length calls ≤ max_calls)

recording-list-parts : (members max_calls before : ℕ) (r : Result RecordedCall FileFault)
    (s : Result (List RecordedCall) FileFault) (recording : List RecordedCall) → before < max_calls
    → ((x : RecordedCall) → r ≡ Ok x → FitsCall members x.call)
    → ((xs : List RecordedCall) → s ≡ Ok xs → Both members max_calls (before + 1) (map call_part xs))
    → (r >>= λ x. s >>= λ rest. Ok (x ∷ rest)) ≡ Ok recording → Both members max_calls before (map call_part recording)
recording-list-parts members max_calls before (Err e) s recording room k j h = absurd (cc h)
recording-list-parts members max_calls before (Ok x) (Err e) recording room k j h = absurd (cc h)
recording-list-parts members max_calls before (Ok x) (Ok xs) recording room k j h =
    let is : x ∷ xs ≡ recording = cc in
    let rest = j xs refl in
    let count = rest.1 in
    subst (λ (p : List RecordedCall). Both members max_calls before (map call_part p)) is (
      (k x refl, rest.0),
      omega (arith, count),
    )

recording-list : (members max_calls before : ℕ) (rows : List (List (List ℕ))) (recording : List RecordedCall)
    → before ≤ max_calls → recorded_calls_after members max_calls before rows ≡ Ok recording
    → Both members max_calls before (map call_part recording)
unfolding recorded_calls_after
recording-list members max_calls before [] recording room h =
    let is : [] ≡ recording =
    cc in subst (λ (p : List RecordedCall). Both members max_calls before (map call_part p)) is (tt, omega arith)
recording-list members max_calls before (row ∷ rows) recording room h =
    by_at_most (nat_le max_calls before) refl h (recording-list members max_calls (before + 1) rows)
  where
    by_at_most : (b : Bool) → nat_le max_calls before ≡ b → recorded_calls_after members max_calls before (row ∷ rows)
        ≡ Ok recording
        → ((xs : List RecordedCall) → before + 1 ≤ max_calls → recorded_calls_after members max_calls (before + 1) rows
        ≡ Ok xs → Both members max_calls (before + 1) (map call_part xs))
        → Both members max_calls before (map call_part recording)
    by_at_most true t q more = absurd (cc (rw t at q))
    by_at_most false t q more =
        let free : before < max_calls = search rules in
        recording-list-parts members max_calls before (with_record_number (before + 2) (recorded_call_of members row))
        (recorded_calls_after members max_calls (before + 1) rows) recording free
        (λ x e. let good = with_record_number-good (before + 2) (recorded_call_of members row) x e in
        (recording-below members row x good, recording-fits members row x good))
        (λ xs e. more xs (omega (arith, free)) e) (rw t at q)

calls-list-parts : (members max_calls before : ℕ) (r : Result Call FileFault) (s : Result (List Call) FileFault)
    (calls : List Call) → before < max_calls
    → ((x : Call) → r ≡ Ok x → FitsCall members x)
    → ((xs : List Call) → s ≡ Ok xs → Both members max_calls (before + 1) xs)
    → (r >>= λ x. s >>= λ rest. Ok (x ∷ rest)) ≡ Ok calls → Both members max_calls before calls
calls-list-parts members max_calls before (Err e) s calls room k j h = absurd (cc h)
calls-list-parts members max_calls before (Ok x) (Err e) calls room k j h = absurd (cc h)
calls-list-parts members max_calls before (Ok x) (Ok xs) calls room k j h =
    let is : x ∷ xs ≡ calls = cc in
    let rest = j xs refl in
    let count = rest.1 in
    subst (λ (p : List Call). Both members max_calls before p) is ((k x refl, rest.0), omega (arith, count))

calls-list : (members max_calls before : ℕ) (rows : List (List (List ℕ))) (calls : List Call) → before ≤ max_calls
    → calls_after members max_calls before rows ≡ Ok calls
    → Both members max_calls before calls
unfolding calls_after numbered_call
calls-list members max_calls before [] calls room h =
    let is : [] ≡ calls = cc in subst (λ (p : List Call). Both members max_calls before p) is (tt, omega arith)
calls-list members max_calls before (row ∷ rows) calls room h =
    by_at_most (nat_le max_calls before) refl h (calls-list members max_calls (before + 1) rows)
  where
    by_at_most : (b : Bool) → nat_le max_calls before ≡ b → calls_after members max_calls before (row ∷ rows) ≡ Ok calls
        → ((xs : List Call) → before + 1 ≤ max_calls → calls_after members max_calls (before + 1) rows ≡ Ok xs
        → Both members max_calls (before + 1) xs)
        → Both members max_calls before calls
    by_at_most true t q more = absurd (cc (rw t at q))
    by_at_most false t q more =
        let free : before < max_calls = search rules in
        calls-list-parts members max_calls before (with_record_number (before + 1) (call_of_record members row))
        (calls_after members max_calls (before + 1) rows) calls free
        (λ x e. let good = with_record_number-good (before + 1) (call_of_record members row) x e in
        (call-below members row x good, call-fits members row x good))
        (λ xs e. more xs (omega (arith, free)) e) (rw t at q)

-- ---- days

within-parts : (least most place : ℕ) (r : Result ℕ RecordFault) (n : ℕ)
    → (r >>= λ number. if nat_le least number && nat_le number most then Ok number else Err (BadField (place + 1)))
    ≡ Ok n → (least ≤ n) × (n ≤ most)
within-parts least most place (Err e) n h = absurd (cc h)
within-parts least most place (Ok m) n h = by_at_most (nat_le least m) (nat_le m most) refl refl h
  where
    by_at_most : (a b : Bool) → nat_le least m ≡ a → nat_le m most ≡ b
        → (if nat_le least m && nat_le m most then Ok m else Err (BadField (place + 1))) ≡ Ok n
        → (least ≤ n) × (n ≤ most)
    by_at_most true true s t q =
        let same : Ok m ≡ Ok n = rw (s, t) at q in
        let is : m ≡ n = cc in
        let above : least ≤ m = search rules in
        let below : m ≤ most = search rules in
        rw (← is) (above, below)
    by_at_most true false s t q = let bad : Err (BadField (place + 1)) ≡ Ok n = rw (s, t) at q in absurd (cc bad)
    by_at_most false b s t q = let bad : Err (BadField (place + 1)) ≡ Ok n = rw s at q in absurd (cc bad)

within-good : (least most place : ℕ) (fields : List (List ℕ)) (n : ℕ) → number_within least most place fields ≡ Ok n
    → (least ≤ n) × (n ≤ most)
unfolding number_within
within-good least most place fields n h = within-parts least most place (field_as number_of place fields) n h

any-parts : (most : ℕ) (blank : Bool) (r : Result ℕ RecordFault) (n : Option ℕ) → ((k : ℕ) → r ≡ Ok k → k ≤ most)
    → (if blank then Ok None else (r >>= λ number. Ok (Some number))) ≡ Ok n → IfSome n (λ k. k ≤ most)
any-parts most true r n k h = let is : None ≡ n = cc in subst (λ (p : Option ℕ). IfSome p (λ k. k ≤ most)) is tt
any-parts most false (Ok m) n k h = let is : Some m ≡ n =
    cc in subst (λ (p : Option ℕ). IfSome p (λ k. k ≤ most)) is (k m refl)
any-parts most false (Err e) n k h = absurd (cc h)

any-good : (most place : ℕ) (fields : List (List ℕ)) (n : Option ℕ) → number_if_any most place fields ≡ Ok n
    → IfSome n (λ k. k ≤ most)
unfolding number_if_any
any-good most place fields n h =
    any-parts most (is_blank_field (field_at fields place)) (number_within 0 most place fields) n
    (λ k e. (within-good 0 most place fields k e).1) h

abbrev day_with : ℕ → ℕ → ℕ → ℕ → ℕ → ℕ → Option ℕ → DayHeader
day_with low high reference members max_open max_calls range = record {
  config = record {
    low = low;
    high = high;
    reference = reference;
    max_open = max_open;
    max_calls = max_calls;
    range =
        range;
  };
  members = members;
}

day-parts : (r0 : Result (Unit {0}) RecordFault) (r1 r2 r3 r4 r5 r6 : Result ℕ RecordFault)
    (r7 : Result (Option ℕ) RecordFault) (day : DayHeader)
    → ((n : ℕ) → r1 ≡ Ok n → IsUpTo MAX_TICK n) → ((n : ℕ) → r2 ≡ Ok n → IsUpTo MAX_TICK n)
    → ((n : ℕ) → r3 ≡ Ok n → IsUpTo MAX_TICK n)
    → ((n : ℕ) → r4 ≡ Ok n → IsUpTo MAX_MEMBERS n) → ((n : ℕ) → r5 ≡ Ok n → IsUpTo MAX_OPEN_ORDERS n)
    → ((n : ℕ) → r6 ≡ Ok n → IsUpTo MAX_CALLS n)
    → ((n : Option ℕ) → r7 ≡ Ok n → IfSome n (λ k. k ≤ MAX_TICK))
    → (r0 >>= λ _. r1 >>= λ low. r2 >>= λ high. r3 >>= λ reference. r4 >>= λ members. r5 >>= λ max_open. r6 >>=
    λ max_calls. r7 >>= λ range.
    Ok (day_with low high reference members max_open max_calls range)) ≡ Ok day → FitsDay day
day-parts (Err e) r1 r2 r3 r4 r5 r6 r7 day k1 k2 k3 k4 k5 k6 k7 h = absurd (cc h)
day-parts (Ok u) (Err e) r2 r3 r4 r5 r6 r7 day k1 k2 k3 k4 k5 k6 k7 h = absurd (cc h)
day-parts (Ok u) (Ok a) (Err e) r3 r4 r5 r6 r7 day k1 k2 k3 k4 k5 k6 k7 h = absurd (cc h)
day-parts (Ok u) (Ok a) (Ok b) (Err e) r4 r5 r6 r7 day k1 k2 k3 k4 k5 k6 k7 h = absurd (cc h)
day-parts (Ok u) (Ok a) (Ok b) (Ok c) (Err e) r5 r6 r7 day k1 k2 k3 k4 k5 k6 k7 h = absurd (cc h)
day-parts (Ok u) (Ok a) (Ok b) (Ok c) (Ok d) (Err e) r6 r7 day k1 k2 k3 k4 k5 k6 k7 h = absurd (cc h)
day-parts (Ok u) (Ok a) (Ok b) (Ok c) (Ok d) (Ok m) (Err e) r7 day k1 k2 k3 k4 k5 k6 k7 h = absurd (cc h)
day-parts (Ok u) (Ok a) (Ok b) (Ok c) (Ok d) (Ok m) (Ok n) (Err e) day k1 k2 k3 k4 k5 k6 k7 h = absurd (cc h)
day-parts (Ok u) (Ok a) (Ok b) (Ok c) (Ok d) (Ok m) (Ok n) (Ok range) day k1 k2 k3 k4 k5 k6 k7 h =
    let is : day_with a b c d m n range ≡ day = cc in
    subst FitsDay is (record {
      low = k1 a refl;
      high = k2 b refl;
      reference = k3 c refl;
      members = k4 d refl;
      max_open = k5 m refl;
      max_calls = k6 n refl;
      range = k7 range refl;
    })

day-good : (fields : List (List ℕ)) (day : DayHeader) → day_of_record fields ≡ Ok day → FitsDay day
unfolding day_of_record
day-good fields day h =
    day-parts (count_within 8 8 fields) (number_within 1 MAX_TICK 1 fields) (number_within 1 MAX_TICK 2 fields)
    (number_within 1 MAX_TICK 3 fields)
    (number_within 1 MAX_MEMBERS 4 fields) (number_within 1 MAX_OPEN_ORDERS 5 fields)
    (number_within 1 MAX_CALLS 6 fields) (number_if_any MAX_TICK 7 fields) day
    (λ n e. within-good 1 MAX_TICK 1 fields n e) (λ n e. within-good 1 MAX_TICK 2 fields n e)
    (λ n e. within-good 1 MAX_TICK 3 fields n e)
    (λ n e. within-good 1 MAX_MEMBERS 4 fields n e) (λ n e. within-good 1 MAX_OPEN_ORDERS 5 fields n e)
    (λ n e. within-good 1 MAX_CALLS 6 fields n e)
    (λ n e. any-good MAX_TICK 7 fields n e) h

-- ---- what is given

abbrev made : RecordedDay → DayWithCalls
made j = record { day = j.day; calls = j.calls }

recorded-parts : (day : DayHeader) (r : Result (List RecordedCall) FileFault) (j : RecordedDay) → FitsDay day
    → ((recording : List RecordedCall) → r ≡ Ok recording
    → Both day.members day.config.max_calls 0 (map call_part recording))
    → (r >>= λ recording. Ok (recorded_day day recording)) ≡ Ok j → FitsRunInput (made j)
recorded-parts day (Err e) j fits k h = absurd (cc h)
recorded-parts day (Ok recording) j fits k h =
    let is : recorded_day day recording ≡ j = cc in
    let both = k recording refl in
    let count = both.1 in
    subst (λ (p : RecordedDay). FitsRunInput (made p)) is (record {
      day = fits;
      calls = both.0;
      few =
          omega (arith, count);
    })

recorded-good : (day : DayHeader) (rows : List (List (List ℕ))) (j : RecordedDay) → FitsDay day
    → recorded_in day rows ≡ Ok j → FitsRunInput (made j)
unfolding recorded_in
recorded-good day rows j fits h =
    recorded-parts day (recorded_calls_after day.members day.config.max_calls 0 rows) j fits
    (λ recording e. recording-list day.members day.config.max_calls 0 rows recording (omega arith) e) h

rows-parts : (row : List (List ℕ)) (rows : List (List (List ℕ))) (r : Result DayHeader FileFault) (j : RecordedDay)
    → ((day : DayHeader) → r ≡ Ok day → FitsDay day)
    → (r >>= λ day. recorded_in day rows) ≡ Ok j → FitsRunInput (made j)
rows-parts row rows (Ok day) j k h = recorded-good day rows j (k day refl) h
rows-parts row rows (Err e) j k h = absurd (cc h)

rows-good : (rows : List (List (List ℕ))) (j : RecordedDay) → journal_of_rows rows ≡ Ok j → FitsRunInput (made j)
unfolding journal_of_rows
rows-good [] j h = absurd (cc h)
rows-good (row ∷ rows) j h = by_day_row (is_day_row row) refl h
  where
    by_day_row : (b : Bool) → is_day_row row ≡ b → journal_of_rows (row ∷ rows) ≡ Ok j → FitsRunInput (made j)
    by_day_row true t q =
        rows-parts row rows (with_record_number 1 (day_of_record row)) j
        (λ day e. day-good row day (with_record_number-good 1 (day_of_record row) day e)) (rw t at q)
    by_day_row false t q = absurd (cc (rw t at q))

orders-parts : (day : DayHeader) (r : Result (List Call) FileFault) (g : DayWithCalls) → FitsDay day
    → ((calls : List Call) → r ≡ Ok calls → Both day.members day.config.max_calls 0 calls)
    → (r >>= λ calls. Ok (record { day = day; calls = calls })) ≡ Ok g → FitsRunInput g
orders-parts day (Err e) g fits k h = absurd (cc h)
orders-parts day (Ok calls) g fits k h =
    let is : record { day = day; calls = calls } ≡ g = cc in
    let both = k calls refl in
    let count = both.1 in
    subst FitsRunInput is (record { day = fits; calls = both.0; few = omega (arith, count) })

within-then : {X : Type 0} (most : ℕ) (bytes : List ℕ) (f : List ℕ → Result X FileFault) (x : X)
    → (within_limit most bytes >>= f) ≡ Ok x → f bytes ≡ Ok x
unfolding within_limit
within-then most bytes f x h = by_less (nat_lt most (length bytes)) refl h
  where
    by_less : (b : Bool) → nat_lt most (length bytes) ≡ b → (within_limit most bytes >>= f) ≡ Ok x → f bytes ≡ Ok x
    by_less true t q = absurd (cc (rw t at q))
    by_less false t q = rw t at q

orders-fit : (day : DayHeader) (bytes : List ℕ) (g : DayWithCalls) → FitsDay day → orders_for day bytes ≡ Ok g
    → FitsRunInput g
unfolding orders_for file_says
orders-fit day bytes g fits h =
    orders-parts day (file_says bytes day.members day.config.max_calls) g fits
    (λ calls e. calls-list day.members day.config.max_calls 0 (records default_config (strip_bom bytes)) calls
    (omega arith)
    (within-then MAX_BYTES bytes (calls_of_file day.members day.config.max_calls) calls e)) h

run_input-parts : (day : DayHeader) (bytes : List ℕ) (r : Result RecordedDay FileFault) (g : DayWithCalls) → FitsDay day
    → ((j : RecordedDay) → r ≡ Ok j → FitsRunInput (made j))
    → run_input_by (orders_for day bytes) r ≡ Ok g → FitsRunInput g
run_input-parts day bytes (Ok j) g fits k h = let is : made j ≡ g = cc in subst FitsRunInput is (k j refl)
run_input-parts day bytes (Err file.NotADay) g fits k h = orders-fit day bytes g fits h
run_input-parts day bytes (Err file.TooLong) g fits k h = absurd (cc h)
run_input-parts day bytes (Err file.ReadFailed) g fits k h = absurd (cc h)
run_input-parts day bytes (Err (file.BadMember n)) g fits k h = absurd (cc h)
run_input-parts day bytes (Err (file.BadCommand n)) g fits k h = absurd (cc h)
run_input-parts day bytes (Err (file.BadCount n)) g fits k h = absurd (cc h)
run_input-parts day bytes (Err (file.BadField n i)) g fits k h = absurd (cc h)
run_input-parts day bytes (Err (file.TooManyCommands n)) g fits k h = absurd (cc h)
run_input-parts day bytes (Err file.NoMemory) g fits k h = absurd (cc h)

run_input-good : (day : DayHeader) (bytes : List ℕ) (g : DayWithCalls) → FitsDay day → run_input_of day bytes ≡ Ok g
    → FitsRunInput g
unfolding run_input_of journal_of
run_input-good day bytes g fits h =
    run_input-parts day bytes (journal_of_rows (records default_config (strip_bom bytes))) g fits
    (λ j e. rows-good (records default_config (strip_bom bytes)) j e) h

pub run_input-fits : RunInputFits
unfolding run_input
run_input-fits day bytes g fits h =
    run_input-good day bytes g fits (within-then MAX_JOURNAL_BYTES bytes (run_input_of day) g h)
