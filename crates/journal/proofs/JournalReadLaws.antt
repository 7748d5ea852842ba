-- Reading a journal's text gives what was written.
use Rattle.std.proofs.Common.{◌≡◌, ◌≤◌, ◌<◌, ◌==◌, ◌^◌, ◌+◌, ◌-◌, ◌++◌, ◌∷◌, [], ℕ, List, Option, Some, None, true}
use Rattle.std.proofs.Common.{false, refl, arith, length, length-append, map, get_or, nat_le, nat_lt, rules}
use Rattle.std.specs.Prelude.{IfSome, Ok, decimal}
use Rattle.std.specs.List.{AllByRecursion}
use Rattle.std.proofs.lemmas.Fmt.{decimal_nonempty}
use Rattle.std.proofs.Math.Seq.{take-append_seam}
use Rattle.csv.specs.Records.{field_at}
use Rattle.csv.specs.Reading.{default_config, records, strip_bom}
use Rattle.order_file.specs.File.{within_limit}
use Rattle.order_file.specs.Record.{count_within, field_as}
use Rattle.auction_terms.specs.declared.limits.TheConstants.{MAX_CALLS, MAX_MEMBERS, MAX_OPEN_ORDERS, MAX_TICK}
use Rattle.auction_terms.specs.declared.Side.{Side}
use Rattle.auction_terms.specs.declared.Side.TheVariants.{Bid, Ask}
use Rattle.auction_terms.specs.declared.Limit.{Limit}
use Rattle.auction_terms.specs.declared.Limit.TheVariants.{Market, At}
use Rattle.auction_terms.specs.declared.Restriction.{Restriction}
use Rattle.auction_terms.specs.declared.Restriction.TheVariants.{Unrestricted, OpeningOnly, ClosingOnly}
use Rattle.auction_terms.specs.declared.Command.{Command}
use Rattle.auction_terms.specs.declared.Command.TheVariants.{Enter, Change, Delete, OrderStatus, Indicate, ReadTrade}
use Rattle.auction_terms.specs.declared.Command.TheVariants.{Uncross}
use Rattle.journal.specs.PlainLines.{IsPlain, IsPlainRow, record_line, record_lines}
use Rattle.journal.specs.CallFields.{FitsRecord, HasShortTick, FitsU32, call_fields, command_fields, enter_ending}
use Rattle.journal.specs.CallFields.{number_field, side_field}
use Rattle.printed_lines.specs.CsvRecord.{limit_field}
use Rattle.journal.specs.declared.day.DayHeader.{DayHeader}
use Rattle.journal.specs.declared.reading.TheConstants.{MAX_JOURNAL_BYTES}
use Rattle.journal.specs.DayRecord.{FitsDay, day_fields, day_of_record, is_blank_field, is_day_row, number_if_any}
use Rattle.journal.specs.DayRecord.{number_within}
use Rattle.journal.specs.EntryRecord.{RecordedCall, call_with, fields_of_call, is_reply_text, reply_of_fields}
use Rattle.journal.specs.EntryRecord.{recorded_call_fields, recorded_call_of}
use Rattle.journal.specs.JournalFile.{journal, journal_of, journal_of_rows, recorded_day, recorded_in}
use Rattle.journal.specs.JournalFile.{recorded_calls_after}
use Rattle.journal.specs.JournalText.{recorded_journal}
use Rattle.journal.specs.JournalPromises.{FitsEntry, ReadsBack}
use Rattle.journal.proofs.RecordLineLaws.{records-read}
use Rattle.journal.proofs.CallFieldLaws.{command-read, decimal-number, head-read}
use Rattle.journal.proofs.SpacedWordLaws.{decimal-plain}

-- ---- the fields are plain

side-plain : (side : Side) → IsPlain (side_field side)
side-plain Bid = refl
side-plain Ask = refl

limit-plain : (limit : Limit) → HasShortTick limit → IsPlain (limit_field limit)
limit-plain Market h = refl
limit-plain (At tick) h = decimal-plain tick (omega arith)

number-plain : (n : Option ℕ) → IfSome n FitsU32 → IsPlain (number_field n)
number-plain None h = refl
number-plain (Some n) h = decimal-plain n (omega arith)

short-plain : (n : ℕ) → FitsU32 n → IsPlain (decimal n)
short-plain n h = decimal-plain n (omega arith)

ending-plain : (restriction : Restriction) (peak : Option ℕ) → IfSome peak FitsU32
    → AllByRecursion IsPlain (enter_ending restriction peak)
ending-plain Unrestricted None h = tt
ending-plain Unrestricted (Some n) h = (short-plain n h, tt)
ending-plain OpeningOnly peak h = (number-plain peak h, (refl, tt))
ending-plain ClosingOnly peak h = (number-plain peak h, (refl, tt))

command-plain : (command : Command) → FitsRecord command → AllByRecursion IsPlain (command_fields command)
command-plain (Enter side restriction limit quantity peak) h =
    (refl, (side-plain side, (short-plain quantity h.1, (limit-plain limit h.0, ending-plain restriction peak h.2))))
command-plain (Change id limit quantity) h =
    (refl, (short-plain id h.0, (short-plain quantity h.2, (limit-plain limit h.1, tt))))
command-plain (Delete id) h = (refl, (short-plain id h, tt))
command-plain (OrderStatus id) h = (refl, (short-plain id h, tt))
command-plain Indicate h = (refl, tt)
command-plain (ReadTrade number) h = (refl, (short-plain number h, tt))
command-plain Uncross h = (refl, tt)

-- ---- a row of each kind

pub all-append : {X : Type 0} (P : X → Type 0) (xs ys : List X) → AllByRecursion P xs → AllByRecursion P ys
    → AllByRecursion P (xs ++ ys)
all-append P [] ys h k = k
all-append P (x ∷ xs) ys h k = (h.0, all-append P xs ys h.1 k)

entry-plain : (members : ℕ) (recording : RecordedCall) → members ≤ MAX_MEMBERS → FitsEntry members recording
    → IsPlainRow (recorded_call_fields recording)
unfolding recorded_call_fields
entry-plain members recording few h =
    let member : recording.call.member < members = h.member in
    let wide : recording.call.member < 2 ^ 64 = omega arith in (
      decimal_nonempty recording.call.member wide,
      decimal-plain recording.call.member wide,
      all-append IsPlain (command_fields recording.call.command) (recording.text ∷ [])
          (command-plain recording.call.command h.command) (h.text.plain, tt),
    )

entries-plain : (members : ℕ) (recording : List RecordedCall) → members ≤ MAX_MEMBERS
    → AllByRecursion (FitsEntry members) recording → AllByRecursion IsPlainRow (map recorded_call_fields recording)
entries-plain members [] few h = tt
entries-plain members (s ∷ ss) few h = (entry-plain members s few h.0, entries-plain members ss few h.1)

tick-plain : (n : ℕ) → n ≤ MAX_TICK → IsPlain (decimal n)
tick-plain n h = decimal-plain n (omega arith)

range-plain : (range : Option ℕ) → IfSome range (λ n. n ≤ MAX_TICK) → IsPlain (number_field range)
range-plain None h = refl
range-plain (Some n) h = tick-plain n h

day-plain : (day : DayHeader) → FitsDay day → IsPlainRow (day_fields day)
unfolding day_fields
day-plain day h =
    let members : day.members ≤ MAX_MEMBERS = h.members.1 in
    let open_orders : day.config.max_open ≤ MAX_OPEN_ORDERS = h.max_open.1 in
    let calls : day.config.max_calls ≤ MAX_CALLS = h.max_calls.1 in (
      omega arith,
      refl,
      (
        tick-plain _ h.low.1,
        (
          tick-plain _ h.high.1,
          (
            tick-plain _ h.reference.1,
            (
              decimal-plain day.members (omega arith),
              (
                decimal-plain day.config.max_open (omega arith),
                (decimal-plain day.config.max_calls (omega arith), (range-plain day.config.range h.range, tt)),
              ),
            ),
          ),
        ),
      ),
    )

-- ---- and read back

within-read : (least most n place : ℕ) (fields : List (List ℕ)) → most < 2 ^ 32 → (least ≤ n) × (n ≤ most)
    → field_at fields place ≡ Some (decimal n)
    → number_within least most place fields ≡ Ok n
unfolding number_within field_as
within-read least most n place fields small h at =
    let above : nat_le least n ≡ true = search (rules, h.0) in
    let below : nat_le n most ≡ true = search (rules, h.1) in
    let short : n < 2 ^ 32 = omega (arith, h.1) in
    rw (at, decimal-number n short, above, below) refl

not-blank : (ds : List ℕ) → 0 < length ds → is_blank_field (Some ds) ≡ false
not-blank [] h = absurd (omega arith)
not-blank (d ∷ ds) h = refl

any-read : (most place : ℕ) (n : Option ℕ) (fields : List (List ℕ)) → most < 2 ^ 32 → IfSome n (λ k. k ≤ most)
    → field_at fields place ≡ Some (number_field n)
    → number_if_any most place fields ≡ Ok n
unfolding number_if_any
any-read most place None fields small h at = rw at refl
any-read most place (Some n) fields small h at =
    let short : n < 2 ^ 64 = omega arith in
    rw (
      within-read 0 most n place fields small (omega arith, h) at,
      at,
      not-blank (decimal n) (decimal_nonempty n short),
    ) refl

pub day-read : (day : DayHeader) → FitsDay day → day_of_record (day_fields day) ≡ Ok day
unfolding day_of_record day_fields count_within field_at
day-read day h = rw (
  within-read 1 MAX_TICK day.config.low 1 (day_fields day) (omega arith) h.low refl,
  within-read 1 MAX_TICK day.config.high 2 (day_fields day) (omega arith) h.high refl,
  within-read 1 MAX_TICK day.config.reference 3 (day_fields day) (omega arith) h.reference refl,
  within-read 1 MAX_MEMBERS day.members 4 (day_fields day) (omega arith) h.members refl,
  within-read 1 MAX_OPEN_ORDERS day.config.max_open 5 (day_fields day) (omega arith) h.max_open refl,
  within-read 1 MAX_CALLS day.config.max_calls 6 (day_fields day) (omega arith) h.max_calls refl,
  any-read MAX_TICK 7 day.config.range (day_fields day) (omega arith) h.range refl,
) refl

seam : (xs : List (List ℕ)) (x : List ℕ) → field_at (xs ++ (x ∷ [])) (length xs) ≡ Some x
unfolding field_at
seam [] x = refl
seam (y ∷ ys) x = seam ys x

reply-is-last : (xs : List (List ℕ)) (x : List ℕ) → reply_of_fields (xs ++ (x ∷ [])) ≡ x
reply-is-last xs x =
    let n : length (xs ++ (x ∷ [])) - 1 ≡ length xs = omega (arith, length-append xs (x ∷ [])) in
    rw (n, seam xs x) refl

call-before-last : (xs : List (List ℕ)) (x : List ℕ) → fields_of_call (xs ++ (x ∷ [])) ≡ xs
call-before-last xs x =
    let n : length (xs ++ (x ∷ [])) - 1 ≡ length xs = omega (arith, length-append xs (x ∷ [])) in
    rw n (take-append_seam xs (x ∷ []))

pub entry-read : (members : ℕ) (recording : RecordedCall) → members ≤ MAX_MEMBERS → FitsEntry members recording
    → recorded_call_of members (recorded_call_fields recording) ≡ Ok recording
unfolding recorded_call_of recorded_call_fields call_with
entry-read members recording few h =
    let calls : fields_of_call (call_fields recording.call ++ (recording.text ∷ [])) ≡ call_fields recording.call =
    call-before-last _ _ in
    let text : reply_of_fields (call_fields recording.call ++ (recording.text ∷ [])) ≡ recording.text =
    reply-is-last (call_fields recording.call) recording.text in
    let fine : is_reply_text recording.text ≡ true = h.text.reply in
    rw (
      head-read members recording.call.member recording.call.command (recording.text ∷ []) (omega arith) h.member,
      calls,
      text,
      fine,
      command-read (decimal recording.call.member) recording.call.command h.command,
    ) refl

pub entries-read : (members max_calls before : ℕ) (recording : List RecordedCall) → members ≤ MAX_MEMBERS
    → AllByRecursion (FitsEntry members) recording → before + length recording ≤ max_calls
    → recorded_calls_after members max_calls before (map recorded_call_fields recording) ≡ Ok recording
unfolding recorded_calls_after
entries-read members max_calls before [] few h room = refl
entries-read members max_calls before (s ∷ ss) few h room =
    let free : nat_le max_calls before ≡ false = search rules in
    rw (free, entry-read members s few h.0, entries-read members max_calls (before + 1) ss few h.1 (omega arith)) refl

day-first : (day : DayHeader) → is_day_row (day_fields day) ≡ true
unfolding is_day_row day_fields field_at
day-first day = refl

pub rows-read : (day : DayHeader) (recording : List RecordedCall) → FitsDay day
    → AllByRecursion (FitsEntry day.members) recording → length recording ≤ day.config.max_calls
    → journal_of_rows (day_fields day ∷ map recorded_call_fields recording) ≡ Ok (recorded_day day recording)
unfolding journal_of_rows recorded_in
rows-read day recording h k room =
    rw (
      day-first day,
      day-read day h,
      entries-read day.members day.config.max_calls 0 recording h.members.1 k
          (omega arith),
    ) refl

first-letter : (day : DayHeader) (rows : List (List (List ℕ)))
    → (get_or (record_lines (day_fields day ∷ rows)) 0 0 == 239) ≡ false
unfolding record_lines record_line day_fields
first-letter day rows = refl

-- the records of a journal's text
pub text-rows : (day : DayHeader) (recording : List RecordedCall) → FitsDay day
    → AllByRecursion (FitsEntry day.members) recording
    → records default_config (strip_bom (recorded_journal day recording)) ≡ day_fields day
    ∷ map recorded_call_fields recording
unfolding recorded_journal
text-rows day recording h k =
    records-read (day_fields day ∷ map recorded_call_fields recording)
    (day-plain day h, entries-plain day.members recording h.members.1 k) (first-letter day _)

pub reads-back : ReadsBack
unfolding journal journal_of within_limit
reads-back day recording h k room size =
    let fits : nat_lt MAX_JOURNAL_BYTES (length (recorded_journal day recording)) ≡ false = search rules in
    rw (fits, text-rows day recording h k) (rows-read day recording h k room)
