-- The records of a text that is cut in an overlong one.
use Rattle.std.proofs.Common.{◌≡◌, ◌<◌, ◌≤◌, ◌+◌, ◌⊎◌, inl, inr, ℕ, zero, suc, List, [], ◌∷◌, ◌++◌, length, take, drop}
use Rattle.std.proofs.Common.{Option, Some, None, Bool, true, false, ◌==◌, nat_le, nat_lt, Result, Ok, Err, refl}
use Rattle.std.proofs.Common.{ap, sym, arith, rules, add-one, append_assoc, length-append, slice_index, ◌∙◌}
use Rattle.std.proofs.Common.{if◌then◌else◌}
use Rattle.std.proofs.Math.Seq.{drop-cons}
use Rattle.std.proofs.lemmas.List.{drop_all, take-append-le}
use Rattle.csv.specs.Machine.{Read, ends_at_end, field_after, fields_after, in_field, is_end, next_record, step}
use Rattle.csv.specs.Reading.{default_config, is_bom, records, records_next, strip_bom}
use Rattle.csv.specs.declared.parser.Action.{Action}
use Rattle.csv.specs.declared.parser.Action.TheVariants as act
use Rattle.csv.specs.declared.parser.State.{State}
use Rattle.csv.specs.declared.parser.State.TheVariants as st
use Rattle.csv.specs.Records.{field_at}
use Rattle.order_file.specs.File.{calls_after}
use Rattle.order_file.specs.Record.{call_of_record, change_of, command_of, count_within, enter_of, lone_number}
use Rattle.order_file.specs.Record.{member_of, numbered_call, word_at}
use Rattle.order_file.specs.Overlong.{AreOverlong, AreUpToOverlong, bytes_to_overlong, fields_at, mark_len}
use Rattle.order_file.specs.Blocks.{Rows}
use Rattle.order_file.specs.Rows.{records_left}
use Rattle.order_file.specs.declared.overlong.TheConstants.{MOST_FIELDS}
use Rattle.order_file.specs.declared.fault.RecordFault.{RecordFault}
use Rattle.order_file.specs.declared.fault.RecordFault.TheVariants.{BadCount}
use Rattle.order_file.specs.declared.record.Word.{Word}
use Rattle.order_file.specs.declared.record.Word.TheVariants as word
use Rattle.order_file.proofs.FirstFieldLaws.{IsInside, inside-end}
use Rattle.order_file.proofs.RowLaws.{first-record, no-record, records_from-done}
use Rattle.order_file.proofs.WholeLineLaws.{IsBetween, IsPassedOver}

-- the records from a state on, where these fields of one were read, and these bytes of a field
abbrev pub rows_on : State → List (List ℕ) → List ℕ → List ℕ → Rows
rows_on s fields field [] = if ends_at_end s then (fields ++ (field ∷ [])) ∷ [] else []
rows_on s fields field (c ∷ rest) =
    if is_end (step default_config s c).1
    then fields_after (step default_config s c).1 fields field ∷ rows_on (step default_config s c).0 [] [] rest
    else rows_on (step default_config s c).0 (fields_after (step default_config s c).1 fields field)
    (field_after (step default_config s c).1 c field) rest

-- the records that are left, by the first of them
by-first : (s : State) (bytes : List ℕ)
    → records_left s bytes ≡ records_next records_left (next_record default_config s [] [] bytes)
by-first s bytes = by_next_record (next_record default_config s [] [] bytes) refl
  where
    by_next_record : (o : Option Read) → next_record default_config s [] [] bytes ≡ o
        → records_left s bytes ≡ records_next records_left o
    by_next_record None e = no-record s bytes e
    by_next_record (Some p) e = first-record s bytes p e

rows_on-next : (s : State) (fields : List (List ℕ)) (field bytes : List ℕ)
    → records_next records_left (next_record default_config s fields field bytes) ≡ rows_on s fields field bytes
unfolding next_record
rows_on-next s fields field [] = by_end (ends_at_end s) refl
  where
    by_end : (b : Bool) → ends_at_end s ≡ b
        → records_next records_left (next_record default_config s fields field []) ≡ rows_on s fields field []
    by_end true e = rw e (ap (λ rs. (fields ++ (field ∷ [])) ∷ rs) (records_from-done default_config 1))
    by_end false e = rw e refl
rows_on-next s fields field (c ∷ rest) =
    by_end (is_end (step default_config s c).1) refl
    (by-first (step default_config s c).0 rest ∙ rows_on-next (step default_config s c).0 [] [] rest)
    (rows_on-next (step default_config s c).0 (fields_after (step default_config s c).1 fields field)
    (field_after (step default_config s c).1 c field) rest)
  where
    by_end : (b : Bool) → is_end (step default_config s c).1 ≡ b
        → records_left (step default_config s c).0 rest ≡ rows_on (step default_config s c).0 [] [] rest
        → records_next records_left (next_record default_config (step default_config s c).0
        (fields_after (step default_config s c).1 fields field) (field_after (step default_config s c).1 c field) rest)
        ≡ rows_on (step default_config s c).0 (fields_after (step default_config s c).1 fields field)
        (field_after (step default_config s c).1 c field) rest
        → records_next records_left (next_record default_config s fields field (c ∷ rest))
        ≡ rows_on s fields field (c ∷ rest)
    by_end true e later more =
        rw e (ap (λ rs. fields_after (step default_config s c).1 fields field ∷ rs) later)
    by_end false e later more = rw e more

pub all-rows : (bytes : List ℕ) → records default_config bytes ≡ rows_on st.StartRecord [] [] bytes
all-rows bytes = by-first st.StartRecord bytes ∙ rows_on-next st.StartRecord [] [] bytes

-- ---- what a byte does

-- a record ends with it, or a field, or the field at hand goes on, or it is passed over between records
abbrev pub EndsRecord : State → ℕ → Type 0
EndsRecord s c = (t : State) × IsBetween t × (step default_config s c ≡ (t, act.EndRecord))

abbrev pub EndsField : State → ℕ → Type 0
EndsField s c = step default_config s c ≡ (st.StartField, act.EndField)

abbrev pub StaysInField : State → ℕ → Type 0
StaysInField s c = (t : State) × (a : Action) × IsInside t × ((n : ℕ) → fields_at t n ≡ n) × (is_end a ≡ false)
    × ((fields : List (List ℕ)) (field : List ℕ) → fields_after a fields field ≡ fields)
    × (step default_config s c ≡ (t, a))

abbrev pub Steps : State → ℕ → Type 0
Steps s c = EndsRecord s c ⊎ EndsField s c ⊎ StaysInField s c ⊎ IsPassedOver s c

field-goes_on : (s t : State) (a : Action) (c : ℕ) → IsInside t → ((n : ℕ) → fields_at t n ≡ n) → (is_end a ≡ false)
    → ((fields : List (List ℕ)) (field : List ℕ) → fields_after a fields field ≡ fields)
    → step default_config s c ≡ (t, a)
    → Steps s c
field-goes_on s t a c inside count no_end same e = inr (inr (inl (t, a, inside, count, no_end, same, e)))

in-field-steps : (s : State) (c : ℕ) → step default_config s c ≡ in_field default_config c → Steps s c
in-field-steps s c e = by_comma (c == 44) (c == 13) (c == 10) refl refl refl
  where
    by_comma : (x y z : Bool) → (c == 44) ≡ x → (c == 13) ≡ y → (c == 10) ≡ z → Steps s c
    by_comma true y z p q r = inr (inl (e ∙ rw p refl))
    by_comma false true z p q r = inl (st.AfterCr, tt, e ∙ rw (p, q) refl)
    by_comma false false true p q r = inl (st.StartRecord, tt, e ∙ rw (p, q, r) refl)
    by_comma false false false p q r =
        field-goes_on s st.InField act.Copy c tt (λ n. refl) refl (λ fields field. refl) (e ∙ rw (p, q, r) refl)

start-field-steps : (s : State) (c : ℕ) → step default_config s c ≡ step default_config st.StartField c → Steps s c
start-field-steps s c e = by_quote (c == 34) refl
  where
    by_quote : (q : Bool) → (c == 34) ≡ q → Steps s c
    by_quote true d = field-goes_on s st.InQuoted act.Skip c tt (λ n. refl) refl (λ fields field. refl) (e ∙ rw d refl)
    by_quote false d = in-field-steps s c (e ∙ rw d refl)

start-record-steps : (s : State) (c : ℕ) → IsBetween s
    → step default_config s c ≡ step default_config st.StartRecord c → Steps s c
start-record-steps s c between e = by_line_end (c == 13) (c == 10) refl refl
  where
    by_line_end : (y z : Bool) → (c == 13) ≡ y → (c == 10) ≡ z → Steps s c
    by_line_end true z q r = inr (inr (inr (between, e ∙ rw q refl)))
    by_line_end false true q r = inr (inr (inr (between, e ∙ rw (q, r) refl)))
    by_line_end false false q r = start-field-steps s c (e ∙ rw (q, r) refl)

-- a state that a text leads to, with the fields that were read there of the record at hand
abbrev pub MayBeAt : State → List (List ℕ) → Type 0
MayBeAt s fields = IsInside s ⊎ (IsBetween s × (fields ≡ []))

steps : (s : State) (c : ℕ) → IsInside s ⊎ IsBetween s → Steps s c
steps st.StartRecord c i = start-record-steps st.StartRecord c tt refl
steps st.AfterCr c i = by_line_end (c == 10) refl
  where
    by_line_end : (z : Bool) → (c == 10) ≡ z → Steps st.AfterCr c
    by_line_end true r = inr (inr (inr (tt, rw r refl)))
    by_line_end false r = start-record-steps st.AfterCr c tt (rw r refl)
steps st.StartField c i = start-field-steps st.StartField c refl
steps st.InField c i = in-field-steps st.InField c refl
steps st.InQuoted c i = by_quote (c == 34) refl
  where
    by_quote : (q : Bool) → (c == 34) ≡ q → Steps st.InQuoted c
    by_quote true d =
        field-goes_on st.InQuoted st.AfterQuote act.Skip c tt (λ n. refl) refl (λ fields field. refl) (rw d refl)
    by_quote false d =
        field-goes_on st.InQuoted st.InQuoted act.Copy c tt (λ n. refl) refl (λ fields field. refl) (rw d refl)
steps st.AfterQuote c i = by_quote (c == 34) refl
  where
    by_quote : (q : Bool) → (c == 34) ≡ q → Steps st.AfterQuote c
    by_quote true d =
        field-goes_on st.AfterQuote st.InQuoted act.Copy c tt (λ n. refl) refl (λ fields field. refl) (rw d refl)
    by_quote false d = in-field-steps st.AfterQuote c (rw d refl)
steps st.InEscape c (inl i) = absurd i
steps st.InEscape c (inr i) = absurd i
steps st.InComment c (inl i) = absurd i
steps st.InComment c (inr i) = absurd i

pub reached-steps : (s : State) (c : ℕ) (fields : List (List ℕ)) → MayBeAt s fields → Steps s c
reached-steps s c fields (inl i) = steps s c (inl i)
reached-steps s c fields (inr (between, none)) = steps s c (inr between)

not-both : (s : State) → IsInside s → IsBetween s → ⊥
not-both st.StartRecord x y = x
not-both st.AfterCr x y = x
not-both st.StartField x y = y
not-both st.InField x y = y
not-both st.InQuoted x y = y
not-both st.AfterQuote x y = y
not-both st.InEscape x y = y
not-both st.InComment x y = y

pub none-between : (s : State) → IsBetween s → (n : ℕ) → fields_at s n ≡ 0
none-between st.StartRecord b n = refl
none-between st.AfterCr b n = refl
none-between st.StartField b n = absurd b
none-between st.InField b n = absurd b
none-between st.InQuoted b n = absurd b
none-between st.AfterQuote b n = absurd b
none-between st.InEscape b n = absurd b
none-between st.InComment b n = absurd b

-- ---- a record that is being read keeps the fields that were

abbrev Keeps : List (List ℕ) → Rows → Type 0
Keeps fields rows = (more : List (List ℕ)) × (later : Rows) × (rows ≡ (fields ++ more) ∷ later)

keeps-behind : (fields : List (List ℕ)) (field : List ℕ) (rows : Rows) → Keeps (fields ++ (field ∷ [])) rows
    → Keeps fields rows
keeps-behind fields field rows (more, later, is) =
    (field ∷ more, later, is ∙ ap (λ (r : List (List ℕ)). r ∷ later) (append_assoc fields (field ∷ []) more))

keeps-fields : (s : State) (fields : List (List ℕ)) (field bytes : List ℕ) → IsInside s
    → Keeps fields (rows_on s fields field bytes)
keeps-fields s fields field [] i = (field ∷ [], [], rw (inside-end s i) refl)
keeps-fields s fields field (c ∷ rest) i =
    by_step (steps s c (inl i)) (λ t f p inside. keeps-fields t f p rest inside)
  where
    by_step : Steps s c
        → ((t : State) (f : List (List ℕ)) (p : List ℕ) → IsInside t → Keeps f (rows_on t f p rest))
        → Keeps fields (rows_on s fields field (c ∷ rest))
    by_step (inl (t, between, e)) more = (field ∷ [], rows_on t [] [] rest, rw e refl)
    by_step (inr (inl e)) more =
        rw e (keeps-behind fields field _ (more st.StartField (fields ++ (field ∷ [])) [] tt))
    by_step (inr (inr (inl (t, a, inside, count, no_end, same, e)))) more =
        rw (e, no_end, same fields field) (more t fields (field_after a c field) inside)
    by_step (inr (inr (inr (between, e)))) more = absurd (not-both s i between)

same-rows : (rows : Rows) → AreUpToOverlong rows rows
unfolding AreUpToOverlong
same-rows [] = tt
same-rows (r ∷ rs) = inl (refl, same-rows rs)

both-overlong : (fields x y : List (List ℕ)) → MOST_FIELDS < length fields → AreOverlong (fields ++ x) (fields ++ y)
both-overlong fields x y many = record {
  many = omega (arith, many, length-append fields x);
  others = omega (arith, many, length-append fields y);
  alike =
      take-append-le MOST_FIELDS fields x (omega (arith, many))
      ∙ sym (take-append-le MOST_FIELDS fields y (omega (arith, many)));
}

-- the text ends where a record has too many fields
cut-here : (s : State) (fields : List (List ℕ)) (field : List ℕ) (rows : Rows) → IsInside s
    → MOST_FIELDS < length fields → Keeps fields rows → AreUpToOverlong (rows_on s fields field []) rows
unfolding AreUpToOverlong
cut-here s fields field rows i many (more, later, is) =
    rw (inside-end s i, is) (inr (refl, both-overlong fields (field ∷ []) more many))

open-inside : (s : State) (fields : List (List ℕ)) → MayBeAt s fields → 0 < length fields → IsInside s
open-inside s fields (inl i) some = i
open-inside s fields (inr (between, none)) some = absurd (omega (arith, some, ap length none))

pub none-passed : (s : State) (fields : List (List ℕ)) → MayBeAt s fields → IsBetween s → fields ≡ []
none-passed s fields (inl i) between = absurd (not-both s i between)
none-passed s fields (inr (b, none)) between = none

up-to : (s : State) (n : ℕ) (fields : List (List ℕ)) (field bytes : List ℕ) → n ≡ length fields
    → MayBeAt s fields
    → AreUpToOverlong (rows_on s fields field (take (bytes_to_overlong s n bytes) bytes)) (rows_on s fields field bytes)
unfolding bytes_to_overlong AreUpToOverlong
up-to s n fields field [] e i = same-rows (rows_on s fields field [])
up-to s n fields field (c ∷ rest) e i =
    by_many (nat_lt MOST_FIELDS n) refl (λ t m f p d j. up-to t m f p rest d j)
  where
    More : Type 0
    More = (t : State) (m : ℕ) (f : List (List ℕ)) (p : List ℕ) → m ≡ length f → MayBeAt t f
        → AreUpToOverlong (rows_on t f p (take (bytes_to_overlong t m rest) rest)) (rows_on t f p rest)

    by_step : Steps s c → More
        → AreUpToOverlong (rows_on s fields field
        (c ∷ take (bytes_to_overlong (step default_config s c).0 (fields_at (step default_config s c).0 n) rest) rest))
        (rows_on s fields field (c ∷ rest))
    by_step (inl (t, between, d)) more =
        rw (d, none-between t between n) (inl (refl, more t 0 [] [] refl (inr (between, refl))))
    by_step (inr (inl d)) more =
        rw d (more st.StartField (n + 1) (fields ++ (field ∷ [])) []
        (omega (arith, e, length-append fields (field ∷ []))) (inl tt))
    by_step (inr (inr (inl (t, a, inside, count, no_end, same, d)))) more =
        rw (d, no_end, same fields field, count n) (more t n fields (field_after a c field) e (inl inside))
    by_step (inr (inr (inr (between, d)))) more =
        let none = none-passed s fields i between in
        rw d (more st.StartRecord 0 fields field (sym (ap length none)) (inr (tt, none)))

    by_many : (b : Bool) → nat_lt MOST_FIELDS n ≡ b → More
        → AreUpToOverlong (rows_on s fields field (take (bytes_to_overlong s n (c ∷ rest)) (c ∷ rest)))
        (rows_on s fields field (c ∷ rest))
    by_many true m more =
        let many : MOST_FIELDS < n = search rules in
        let inside : IsInside s = open-inside s fields i (omega (arith, many, e)) in
        rw m (cut-here s fields field _ inside (omega (arith, many, e)) (keeps-fields s fields field (c ∷ rest) inside))
    by_many false m more =
        rw (m, add-one (bytes_to_overlong (step default_config s c).0 (fields_at (step default_config s c).0 n) rest))
        (by_step (reached-steps s c fields i) more)

cut-text : (bytes : List ℕ)
    → AreUpToOverlong (records default_config (take (bytes_to_overlong st.StartRecord 0 bytes) bytes))
    (records default_config bytes)
cut-text bytes =
    rw (all-rows (take (bytes_to_overlong st.StartRecord 0 bytes) bytes), all-rows bytes)
    (up-to st.StartRecord 0 [] [] bytes refl (inr (tt, refl)))

-- ---- a byte order mark

three-more : (k : ℕ) → 3 + k ≡ suc (suc (suc k))
three-more k = omega arith

none-more : (k : ℕ) → 0 + k ≡ k
none-more k = omega arith

mark-none : (text : List ℕ) (k : ℕ) → strip_bom text ≡ text → strip_bom (take k text) ≡ take k text
unfolding strip_bom
mark-none text zero e = refl
mark-none [] (suc k) e = refl
mark-none (a ∷ rest) (suc zero) e = refl
mark-none (a ∷ []) (suc (suc k)) e = refl
mark-none (a ∷ b ∷ rest) (suc (suc zero)) e = refl
mark-none (a ∷ b ∷ []) (suc (suc (suc k))) e = refl
mark-none (a ∷ b ∷ c ∷ rest) (suc (suc (suc k))) e = by_bom (is_bom a b c) refl
  where
    by_bom : (q : Bool) → is_bom a b c ≡ q
        → strip_bom (take (suc (suc (suc k))) (a ∷ b ∷ c ∷ rest)) ≡ take (suc (suc (suc k))) (a ∷ b ∷ c ∷ rest)
    by_bom true d = let short : rest ≡ a ∷ b ∷ c ∷ rest = rw d at e in absurd (omega (arith, ap length short))
    by_bom false d = rw d refl

-- what comes behind a byte order mark, and the text up to a place of that
pub record IsMarked (text : List ℕ) (start : ℕ) : Type 0 where
  pub within : start ≤ length text
  pub behind : drop start text ≡ strip_bom text
  pub up_to : (k : ℕ) → strip_bom (take (start + k) text) ≡ take k (drop start text)

pub mark-found : (text : List ℕ) → IsMarked text (mark_len text)
unfolding mark_len strip_bom
mark-found [] = record { within = omega arith; behind = refl; up_to = λ k. rw (none-more k) (mark-none [] k refl) }
mark-found (a ∷ []) =
    record { within = omega arith; behind = refl; up_to = λ k. rw (none-more k) (mark-none (a ∷ []) k refl) }
mark-found (a ∷ b ∷ []) =
    record { within = omega arith; behind = refl; up_to = λ k. rw (none-more k) (mark-none (a ∷ b ∷ []) k refl) }
mark-found (a ∷ b ∷ c ∷ rest) = by_bom (is_bom a b c) refl
  where
    long : nat_le 3 (length (a ∷ b ∷ c ∷ rest)) ≡ true
    long = search rules

    by_bom : (q : Bool) → is_bom a b c ≡ q → IsMarked (a ∷ b ∷ c ∷ rest) (mark_len (a ∷ b ∷ c ∷ rest))
    by_bom true e = rw (long, e) (record {
      within = omega arith;
      behind = rw e refl;
      up_to = λ k. rw (three-more k, e) refl;
    })
    by_bom false e = rw (long, e) (record {
      within = omega arith;
      behind = rw e refl;
      up_to = λ k. rw (none-more k) (mark-none (a ∷ b ∷ c ∷ rest) k (rw e refl));
    })

-- the text up to an overlong record, behind its byte order mark
pub cut-overlong : (text : List ℕ) (start count : ℕ) → start ≡ mark_len text
    → count ≡ bytes_to_overlong st.StartRecord 0 (drop start text)
    → AreUpToOverlong (records default_config (strip_bom (take (start + count) text)))
    (records default_config (strip_bom text))
cut-overlong text start count s n =
    let marked : IsMarked text start = rw s (mark-found text) in
    rw (marked.up_to count, ← marked.behind, n) (cut-text (drop start text))

pub whole-text : (text : List ℕ)
    → AreUpToOverlong (records default_config (strip_bom text)) (records default_config (strip_bom text))
whole-text text = same-rows (records default_config (strip_bom text))

pub mark-within : (text : List ℕ) → mark_len text ≤ length text
mark-within text = (mark-found text).within

-- ---- what is said of an overlong record

field-within : (n : ℕ) (fields : List (List ℕ)) (i : ℕ) → i < n → field_at (take n fields) i ≡ field_at fields i
unfolding field_at
field-within zero fields i h = absurd (omega (arith, h))
field-within (suc n) [] i h = refl
field-within (suc n) (f ∷ fs) zero h = refl
field-within (suc n) (f ∷ fs) (suc i) h = field-within n fs i (omega (arith, h))

same-field : (one other : List (List ℕ)) (i : ℕ) → AreOverlong one other → i < MOST_FIELDS
    → field_at one i ≡ field_at other i
same-field one other i long h =
    sym (field-within MOST_FIELDS one i h)
    ∙ ap (λ (fields : List (List ℕ)). field_at fields i) long.alike
    ∙ field-within MOST_FIELDS other i h

-- the member and the command word of an overlong record are those of the other one
pub overlong-member : (members : ℕ) (one other : List (List ℕ)) → AreOverlong one other
    → member_of members one ≡ member_of members other
unfolding member_of
overlong-member members one other long = rw (same-field one other 0 long (omega arith)) refl

pub overlong-word : (one other : List (List ℕ)) → AreOverlong one other → word_at one ≡ word_at other
unfolding word_at
overlong-word one other long = rw (same-field one other 1 long (omega arith)) refl

pub same-first_field : (one other : List (List ℕ)) → AreOverlong one other → field_at one 0 ≡ field_at other 0
same-first_field one other long = same-field one other 0 long (omega arith)

pub too-many : (least most : ℕ) (fields : List (List ℕ)) → most < length fields
    → count_within least most fields ≡ Err BadCount
unfolding count_within
too-many least most fields h = by_least (nat_le least (length fields)) refl
  where
    more : nat_le (length fields) most ≡ false
    more = search rules

    by_least : (b : Bool) → nat_le least (length fields) ≡ b → count_within least most fields ≡ Err BadCount
    by_least true e = rw (e, more) refl
    by_least false e = rw e refl

pub command-too_long : (word : Word) (fields : List (List ℕ)) → 7 < length fields
    → command_of word fields ≡ Err BadCount
unfolding command_of enter_of change_of lone_number
command-too_long word.Enter fields h = rw (too-many 5 7 fields (omega (arith, h))) refl
command-too_long word.Change fields h = rw (too-many 5 5 fields (omega (arith, h))) refl
command-too_long word.Delete fields h = rw (too-many 3 3 fields (omega (arith, h))) refl
command-too_long word.OrderStatus fields h = rw (too-many 3 3 fields (omega (arith, h))) refl
command-too_long word.ReadTrade fields h = rw (too-many 3 3 fields (omega (arith, h))) refl
command-too_long word.Indicate fields h = rw (too-many 2 2 fields (omega (arith, h))) refl
command-too_long word.Uncross fields h = rw (too-many 2 2 fields (omega (arith, h))) refl

-- both have the same fault
abbrev pub FailAlike : {X : Type 0} → Result X RecordFault → Result X RecordFault → Type 0
FailAlike one other = (fault : RecordFault) × (one ≡ Err fault) × (other ≡ Err fault)

calls-overlong : (members : ℕ) (one other : List (List ℕ)) → AreOverlong one other
    → FailAlike (call_of_record members one) (call_of_record members other)
unfolding call_of_record
calls-overlong members one other long =
    by_start (member_of members other) (word_at other) (overlong-member members one other long) refl
    (overlong-word one other long) refl
  where
    by_start : (m : Result ℕ RecordFault) (w : Result Word RecordFault) → member_of members one ≡ m
        → member_of members other ≡ m → word_at one ≡ w → word_at other ≡ w
        → FailAlike (call_of_record members one) (call_of_record members other)
    by_start (Err fault) w a b c d = (fault, rw a refl, rw b refl)
    by_start (Ok member) (Err fault) a b c d = (fault, rw (a, c) refl, rw (b, d) refl)
    by_start (Ok member) (Ok word) a b c d = (
      BadCount,
      rw (a, c, command-too_long word one (omega (arith, long.many))) refl,
      rw (b, d, command-too_long word other (omega (arith, long.others))) refl,
    )

-- the calls of records up to an overlong one, or their first fault
pub calls-up_to : (members max_calls before : ℕ) (rows all : Rows) → AreUpToOverlong rows all
    → calls_after members max_calls before rows ≡ calls_after members max_calls before all
unfolding calls_after AreUpToOverlong numbered_call
calls-up_to members max_calls before [] [] h = refl
calls-up_to members max_calls before [] (w ∷ ws) h = absurd h
calls-up_to members max_calls before (r ∷ rs) [] h = absurd h
calls-up_to members max_calls before (r ∷ rs) (w ∷ ws) (inl (is, more)) =
    rw (is, calls-up_to members max_calls (before + 1) rs ws more) refl
calls-up_to members max_calls before (r ∷ rs) (w ∷ ws) (inr (none, long)) =
    let (fault, one, other) = calls-overlong members r w long in rw (one, other) refl

-- ---- what a scan of a text keeps

many-now : (s : State) (n : ℕ) (bytes : List ℕ) → MOST_FIELDS < n → bytes_to_overlong s n bytes ≡ 0
unfolding bytes_to_overlong
many-now s n [] h = refl
many-now s n (c ∷ rest) h = let test : nat_lt MOST_FIELDS n ≡ true = search rules in rw test refl

byte-counted : (s : State) (n c : ℕ) (rest : List ℕ) → n ≤ MOST_FIELDS → bytes_to_overlong s n (c ∷ rest)
    ≡ bytes_to_overlong (step default_config s c).0 (fields_at (step default_config s c).0 n) rest + 1
unfolding bytes_to_overlong
byte-counted s n c rest h = let test : nat_lt MOST_FIELDS n ≡ false = search rules in rw test refl

nothing-counted : (s : State) (n : ℕ) → bytes_to_overlong s n [] ≡ 0
unfolding bytes_to_overlong
nothing-counted s n = refl

pub scan-stops : (text : List ℕ) (at n all : ℕ) (s : State) → all ≡ at + bytes_to_overlong s n (drop at text)
    → MOST_FIELDS < n → at ≡ all
scan-stops text at n all s is h = omega (arith, is, many-now s n (drop at text) h)

pub scan-next : (text : List ℕ) (at n m all : ℕ) (s t : State) → all ≡ at + bytes_to_overlong s n (drop at text)
    → at < length text → n ≤ MOST_FIELDS → t ≡ (step default_config s (slice_index text at)).0 → m ≡ fields_at t n
    → all ≡ (at + 1) + bytes_to_overlong t m (drop (at + 1) text)
scan-next text at n m all s t is h few e d =
    let parts : drop at text ≡ slice_index text at ∷ drop (suc at) text = drop-cons text at 0 h in
    let next = byte-counted s n (slice_index text at) (drop (suc at) text) few in
    let whole = is ∙ ap (λ (xs : List ℕ). at + bytes_to_overlong s n xs) parts in
    rw (add-one at, d, e) (omega (arith, whole, next))

pub scan-ends : (text : List ℕ) (at n all : ℕ) (s : State) → all ≡ at + bytes_to_overlong s n (drop at text)
    → at ≤ length text → length text ≤ at → length text ≡ all
scan-ends text at n all s is low high =
    let none : drop at text ≡ [] = drop_all at text high in
    let whole = is ∙ ap (λ (xs : List ℕ). at + bytes_to_overlong s n xs) none in
    omega (arith, whole, nothing-counted s n, low, high)
