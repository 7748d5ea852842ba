-- The reader of records finds the fields of a line without quotes between its commas.
use Rattle.std.proofs.Common.{◌≡◌, ◌≤◌, ◌==◌, inl, inr, ℕ, zero, suc, List, [], ◌∷◌, ◌++◌, length, take, drop}
use Rattle.std.proofs.Common.{Option, None, Some, is_none, Bool, true, false, refl, ap, sym, arith, append_assoc, ◌∙◌}
use Rattle.std.specs.Prelude.{◌||◌, Result, Ok, Err, OnOk, slice_index}
use Rattle.std.proofs.lemmas.Bool.{cases_Bool}
use Rattle.std.proofs.lemmas.List.{append-nil}
use Rattle.csv.specs.Machine.{next_record}
use Rattle.csv.specs.Reading.{default_config, records}
use Rattle.csv.specs.declared.parser.State.TheVariants as st
use Rattle.csv.proofs.RoundTrip.{record-same, start-same}
use Rattle.memchr.specs.Find.{IsFirstByte, Nowhere, Passes, is_byte, is_byte3}
use Rattle.order_file.proofs.RowLaws.{first-record, records_from-done}
use Rattle.live_session.specs.UnquotedLines.{HasNone, fields_of_line, fields_on, is_mark}
use Rattle.live_session.proofs.InputLineLaws.{split-there}

-- ---- no byte passes a test

is-false : (x : Bool) → (x ≡ true → ⊥) → x ≡ false
is-false true never = absurd (never refl)
is-false false never = refl

pub none-passes : (test : ℕ → Bool) (bytes : List ℕ) → Nowhere (Passes test bytes) 0 (length bytes)
    → HasNone test bytes
none-passes test [] none = tt
none-passes test (b ∷ bs) none = (
  is-false (test b) (none 0 (omega arith) (omega arith)),
  none-passes test bs (λ k low high is. none (suc k) (omega arith) (omega arith) is),
)

pub none-up-to : (test : ℕ → Bool) (bytes : List ℕ) (place : ℕ) → place ≤ length bytes
    → Nowhere (Passes test bytes) 0 place → HasNone test (take place bytes)
none-up-to test bytes zero le none = tt
none-up-to test [] (suc place) le none = absurd (omega arith)
none-up-to test (b ∷ bs) (suc place) le none = (
  is-false (test b) (none 0 (omega arith) (omega arith)),
  none-up-to test bs place (omega arith) (λ k low high is. none (suc k) (omega arith) (omega arith) is),
)

-- a line in which no mark was found
pub plain-line : (line : List ℕ) (found : Option ℕ) → IsFirstByte (is_byte3 34 10 13) line found
    → is_none found ≡ true → HasNone is_mark line
plain-line line None none is = none-passes is_mark line none
plain-line line (Some place) first is = absurd (cc is)

-- ---- fields and commas

-- without a comma there is one field
pub last-field : (field bytes : List ℕ) → HasNone (is_byte 44) bytes → fields_on field bytes ≡ (field ++ bytes) ∷ []
unfolding fields_on
last-field field [] none = rw (append-nil field) refl
last-field field (b ∷ bs) none =
    rw none.0 (last-field (field ++ b ∷ []) bs none.1
    ∙ ap (λ (f : List ℕ). f ∷ []) (append_assoc field (b ∷ []) bs))

-- a comma ends the first one
pub first-field : (field front more : List ℕ) (comma : ℕ) → HasNone (is_byte 44) front → (comma == 44) ≡ true
    → fields_on field (front ++ comma ∷ more) ≡ (field ++ front) ∷ fields_on [] more
unfolding fields_on
first-field field [] more comma none is = rw (is, append-nil field) refl
first-field field (b ∷ bs) more comma none is =
    rw none.0 (first-field (field ++ b ∷ []) bs more comma none.1 is
    ∙ ap (λ (f : List ℕ). f ∷ fields_on [] more) (append_assoc field (b ∷ []) bs))

-- ---- a record that gets the fields of a line

pub next-put : (fields longer : List (List ℕ)) (begun line rest field behind more : List ℕ) (place : ℕ)
    → fields ++ fields_on [] rest ≡ fields_on [] line → begun ≡ [] → IsFirstByte (is_byte 44) rest (Some place)
    → field ≡ take place rest → behind ≡ drop place rest → more ≡ drop 1 behind
    → longer ≡ fields ++ (begun ++ field) ∷ [] → longer ++ fields_on [] more ≡ fields_on [] line
next-put fields longer begun line rest field behind more place so_far none first front back back2 put =
    let comma = first-field [] (take place rest) (drop 1 (drop place rest)) (slice_index rest place)
    (none-up-to (is_byte 44) rest place (omega (arith, first.0.high)) first.0.before) first.1 in
    let whole : fields_on [] rest ≡ take place rest ∷ fields_on [] (drop 1 (drop place rest)) =
    ap (fields_on []) (sym (split-there rest place first.0.high)) ∙ comma in
    rw (put, none, front, back2, back)
    (append_assoc fields (take place rest ∷ []) (fields_on [] (drop 1 (drop place rest)))
    ∙ ap (λ (fs : List (List ℕ)). fields ++ fs) (sym whole) ∙ so_far)

pub last-put : {E : Type 0} (result : Result (Unit {0}) E) (fields longer : List (List ℕ)) (begun line rest : List ℕ)
    → fields ++ fields_on [] rest ≡ fields_on [] line → begun ≡ [] → IsFirstByte (is_byte 44) rest None
    → OnOk result (longer ≡ fields ++ (begun ++ rest) ∷ []) → OnOk result (longer ≡ fields_on [] line)
last-put (Err e) fields longer begun line rest so_far none first put = put
last-put (Ok x) fields longer begun line rest so_far none first put =
    rw (put, none)
    (ap (λ (fs : List (List ℕ)). fields ++ fs) (sym (last-field [] rest (none-passes (is_byte 44) rest first)))
    ∙ so_far)

-- ---- the reader of records

or-left : (a b : Bool) → (a || b) ≡ false → a ≡ false
or-left false b e = refl
or-left true b e = cc e

or-right : (a b : Bool) → (a || b) ≡ false → b ≡ false
or-right false b e = e
or-right true b e = cc e

-- a byte that is no mark
unmarked : (b : ℕ) → is_mark b ≡ false → ((b == 34) ≡ false) × ((b == 10) ≡ false) × ((b == 13) ≡ false)
unmarked b e = (
  or-left (b == 34) (b == 10) (or-left ((b == 34) || (b == 10)) (b == 13) e),
  or-right (b == 34) (b == 10) (or-left ((b == 34) || (b == 10)) (b == 13) e),
  or-right ((b == 34) || (b == 10)) (b == 13) e,
)

-- a field begins as it goes on
field-begins : (fields : List (List ℕ)) (line tail : List ℕ) → HasNone is_mark line
    → next_record default_config st.StartField fields [] (line ++ 10 ∷ tail)
    ≡ next_record default_config st.InField fields [] (line ++ 10 ∷ tail)
field-begins fields [] tail none = start-same fields [] 10 tail refl
field-begins fields (b ∷ bs) tail none = start-same fields [] b (bs ++ 10 ∷ tail) (unmarked b none.0).0

-- the rest of a line, within a field
fields-run : (fields : List (List ℕ)) (field line tail : List ℕ) → HasNone is_mark line
    → next_record default_config st.InField fields field (line ++ 10 ∷ tail)
    ≡ Some (fields ++ fields_on field line, st.StartRecord, tail)
unfolding next_record fields_on
fields-run fields field [] tail none = refl
fields-run fields field (b ∷ bs) tail none = elim (cases_Bool (b == 44)) [
  | inl comma ↦
      rw comma (field-begins (fields ++ field ∷ []) bs tail none.1
      ∙ fields-run (fields ++ field ∷ []) [] bs tail none.1
      ∙ ap (λ (fs : List (List ℕ)). Some (fs, st.StartRecord, tail))
      (append_assoc fields (field ∷ []) (fields_on [] bs)))
  | inr other ↦
      let marks = unmarked b none.0 in
      rw (other, marks.2, marks.1) (fields-run fields (field ++ b ∷ []) bs tail none.1)
]

-- a line that isn't blank
line-run : (line tail : List ℕ) (b : ℕ) (bs : List ℕ) → line ≡ b ∷ bs → HasNone is_mark (b ∷ bs)
    → next_record default_config st.StartRecord [] [] ((b ∷ bs) ++ 10 ∷ tail)
    ≡ Some (fields_of_line (b ∷ bs), st.StartRecord, tail)
line-run line tail b bs is none =
    let marks = unmarked b none.0 in
    record-same [] [] b (bs ++ 10 ∷ tail) marks.2 marks.1 ∙ field-begins [] (b ∷ bs) tail none
    ∙ fields-run [] [] (b ∷ bs) tail none

-- the record of a line that isn't blank
pub line-record : (b : ℕ) (bs : List ℕ) → HasNone is_mark (b ∷ bs)
    → records default_config ((b ∷ bs) ++ 10 ∷ []) ≡ fields_of_line (b ∷ bs) ∷ []
line-record b bs none =
    first-record st.StartRecord ((b ∷ bs) ++ 10 ∷ []) _ (line-run (b ∷ bs) [] b bs refl none)
    ∙ ap (λ (rs : List (List (List ℕ))). fields_of_line (b ∷ bs) ∷ rs) (records_from-done default_config 1)
