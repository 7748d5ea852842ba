-- What a journal says that is cut in an overlong record.
use Rattle.std.proofs.Common.{◌≡◌, ◌<◌, ◌+◌, ◌-◌, inl, inr, ℕ, List, [], ◌∷◌, length, take}
use Rattle.std.proofs.Common.{Result, Ok, Err, refl, arith, if◌then◌else◌}
use Rattle.std.proofs.lemmas.List.{length-take-le}
use Rattle.csv.specs.Reading.{default_config, records, strip_bom}
use Rattle.auction_terms.specs.Results.{◌>>=◌}
use Rattle.order_file.specs.Overlong.{AreOverlong, AreUpToOverlong}
use Rattle.order_file.specs.Record.{member_of, with_record_number, word_at}
use Rattle.order_file.specs.declared.fault.RecordFault.{RecordFault}
use Rattle.order_file.specs.declared.fault.RecordFault.TheVariants.{BadCount}
use Rattle.order_file.specs.declared.fault.FileFault.TheVariants.{NotADay}
use Rattle.order_file.specs.declared.record.Word.{Word}
use Rattle.order_file.proofs.OverlongLaws.{FailAlike, command-too_long, overlong-member, overlong-word}
use Rattle.order_file.proofs.OverlongLaws.{same-first_field, too-many}
use Rattle.journal.specs.DayRecord.{day_of_record, is_day_row}
use Rattle.journal.specs.EntryRecord.{call_with, fields_of_call, recorded_call_of, start_of_entry}
use Rattle.journal.specs.JournalFile.{journal_of, journal_of_rows, recorded_calls_after, recorded_in}
use Rattle.journal.specs.declared.day.DayHeader.{DayHeader}

without-reply : (fields : List (List ℕ)) → 64 < length fields → 7 < length (take (length fields - 1) fields)
without-reply fields h = omega (arith, h, length-take-le (length fields - 1) fields (omega (arith, h)))

entries-overlong : (members : ℕ) (one other : List (List ℕ)) → AreOverlong one other
    → FailAlike (recorded_call_of members one) (recorded_call_of members other)
unfolding recorded_call_of start_of_entry call_with
entries-overlong members one other long =
    by_start (member_of members other) (word_at other) (overlong-member members one other long) refl
    (overlong-word one other long) refl
  where
    by_start : (m : Result ℕ RecordFault) (w : Result Word RecordFault) → member_of members one ≡ m
        → member_of members other ≡ m → word_at one ≡ w → word_at other ≡ w
        → FailAlike (recorded_call_of members one) (recorded_call_of members other)
    by_start (Err fault) w a b c d = (fault, rw a refl, rw b refl)
    by_start (Ok member) (Err fault) a b c d = (fault, rw (a, c) refl, rw (b, d) refl)
    by_start (Ok member) (Ok word) a b c d = (
      BadCount,
      rw (a, c, command-too_long word (fields_of_call one) (without-reply one long.many)) refl,
      rw (b, d, command-too_long word (fields_of_call other) (without-reply other long.others)) refl,
    )

entries-up_to : (members max_calls before : ℕ) (rows all : List (List (List ℕ))) → AreUpToOverlong rows all
    → recorded_calls_after members max_calls before rows ≡ recorded_calls_after members max_calls before all
unfolding recorded_calls_after AreUpToOverlong
entries-up_to members max_calls before [] [] h = refl
entries-up_to members max_calls before [] (w ∷ ws) h = absurd h
entries-up_to members max_calls before (r ∷ rs) [] h = absurd h
entries-up_to members max_calls before (r ∷ rs) (w ∷ ws) (inl (is, more)) =
    rw (is, entries-up_to members max_calls (before + 1) rs ws more) refl
entries-up_to members max_calls before (r ∷ rs) (w ∷ ws) (inr (none, long)) =
    let (fault, one, other) = entries-overlong members r w long in rw (one, other) refl

recording-up_to : (day : DayHeader) (rows all : List (List (List ℕ))) → AreUpToOverlong rows all
    → recorded_in day rows ≡ recorded_in day all
unfolding recorded_in
recording-up_to day rows all h = rw (entries-up_to day.members day.config.max_calls 0 rows all h) refl

day-too_long : (fields : List (List ℕ)) → 64 < length fields → day_of_record fields ≡ Err BadCount
unfolding day_of_record
day-too_long fields h = rw (too-many 8 8 fields (omega (arith, h))) refl

same-day_row : (one other : List (List ℕ)) → AreOverlong one other → is_day_row one ≡ is_day_row other
unfolding is_day_row
same-day_row one other long = rw (same-first_field one other long) refl

rows-up_to : (rows all : List (List (List ℕ))) → AreUpToOverlong rows all
    → journal_of_rows rows ≡ journal_of_rows all
unfolding journal_of_rows AreUpToOverlong
rows-up_to [] [] h = refl
rows-up_to [] (w ∷ ws) h = absurd h
rows-up_to (r ∷ rs) [] h = absurd h
rows-up_to (r ∷ rs) (w ∷ ws) (inl (is, more)) = rw is (by_day (day_of_record w))
  where
    by_day : (day : Result DayHeader RecordFault)
        → (if is_day_row w then (with_record_number 1 day >>= λ d. recorded_in d rs) else Err NotADay)
        ≡ (if is_day_row w then (with_record_number 1 day >>= λ d. recorded_in d ws) else Err NotADay)
    by_day (Ok day) = rw (recording-up_to day rs ws more) refl
    by_day (Err fault) = refl
rows-up_to (r ∷ rs) (w ∷ ws) (inr (none, long)) =
    rw (same-day_row r w long, day-too_long r long.many, day-too_long w long.others) refl

-- a journal that is cut in an overlong record says what the whole one says
pub journal-up_to : (text bytes : List ℕ)
    → AreUpToOverlong (records default_config (strip_bom text)) (records default_config (strip_bom bytes))
    → journal_of text ≡ journal_of bytes
unfolding journal_of
journal-up_to text bytes h =
    rows-up_to (records default_config (strip_bom text)) (records default_config (strip_bom bytes)) h
