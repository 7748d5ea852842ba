-- What is written as records is read back as them.
use Rattle.std.proofs.Common.{◌≡◌, ◌≤◌, ◌==◌, ◌+◌, ◌++◌, ◌∷◌, ◌∙◌, [], ℕ, zero, suc, List, Bool, Some, true, false}
use Rattle.std.proofs.Common.{refl, ap, append_assoc, arith, length, length-append, get_or}
use Rattle.std.specs.Prelude.{◌&&◌, ◌||◌, not}
use Rattle.std.specs.List.{AllByRecursion}
use Rattle.std.proofs.lemmas.List.{append-nil}
use Rattle.csv.specs.Machine.{next_record}
use Rattle.csv.specs.Reading.{default_config, records, records_from, strip_bom}
use Rattle.csv.specs.declared.parser.State.TheVariants as st
use Rattle.csv.proofs.RoundTrip.{start-same, record-same}
use Rattle.journal.specs.PlainLines.{IsPlain, IsPlainRow, fields_to_line_end, is_plain_byte, record_line, record_lines}

pub and-left : (a b : Bool) → (a && b) ≡ true → a ≡ true
and-left true b e = refl
and-left false b e = cc e

pub and-right : (a b : Bool) → (a && b) ≡ true → b ≡ true
and-right true b e = e
and-right false b e = cc e

marks-apart : (a b c d : Bool) → not (a || b || c || d) ≡ true → (a ≡ false) × (b ≡ false) × (c ≡ false) × (d ≡ false)
marks-apart true b c d e = cc e
marks-apart false true c d e = cc e
marks-apart false false true d e = cc e
marks-apart false false false true e = cc e
marks-apart false false false false e = (refl, refl, refl, refl)

plain-byte : (b : ℕ) → is_plain_byte b ≡ true → ((b == 44) ≡ false) × ((b == 34) ≡ false) × ((b == 13) ≡ false)
    × ((b == 10) ≡ false)
plain-byte b e = marks-apart (b == 44) (b == 34) (b == 13) (b == 10) e

-- the bytes of a plain field join the field at hand
field-run : (fields : List (List ℕ)) (field x tail : List ℕ) → IsPlain x
    → next_record default_config st.InField fields field (x ++ tail) ≡ next_record default_config st.InField fields
    (field ++ x) tail
unfolding next_record
field-run fields field [] tail e = rw (append-nil field) refl
field-run fields field (b ∷ rest) tail e =
    let q = plain-byte b (and-left _ _ e) in
    rw (q.0, q.2, q.3) (field-run fields (field ++ (b ∷ [])) rest tail (and-right _ _ e)
    ∙ ap (λ (f : List ℕ). next_record default_config st.InField fields f tail) (append_assoc field (b ∷ []) rest))

-- a field from its start
field-start : (fields : List (List ℕ)) (x : List ℕ) (rest : List (List ℕ)) (tail : List ℕ) → IsPlain x
    → next_record default_config st.StartField fields [] (x ++ (fields_to_line_end rest ++ tail))
    ≡ next_record default_config st.InField fields x (fields_to_line_end rest ++ tail)
unfolding next_record fields_to_line_end
field-start fields [] [] tail p = refl
field-start fields [] (y ∷ ys) tail p = refl
field-start fields (b ∷ more) rest tail p =
    let q = plain-byte b (and-left _ _ p) in
    start-same fields [] b (more ++ (fields_to_line_end rest ++ tail)) q.1
    ∙ field-run fields [] (b ∷ more) (fields_to_line_end rest ++ tail) p

-- the rest of a record, after a field
rest-run : (fields : List (List ℕ)) (x : List ℕ) (rest : List (List ℕ)) (tail : List ℕ) → AllByRecursion IsPlain rest
    → next_record default_config st.InField fields x (fields_to_line_end rest ++ tail)
    ≡ Some (fields ++ (x ∷ rest), st.StartRecord, tail)
unfolding next_record fields_to_line_end
rest-run fields x [] tail p = refl
rest-run fields x (y ∷ ys) tail p =
    rw (append_assoc y (fields_to_line_end ys) tail) (field-start (fields ++ (x ∷ [])) y ys tail p.0
    ∙ rest-run (fields ++ (x ∷ [])) y ys tail p.1
    ∙ rw (append_assoc fields (x ∷ []) (y ∷ ys)) refl)

-- one record
pub record-read : (row : List (List ℕ)) (tail : List ℕ) → IsPlainRow row
    → next_record default_config st.StartRecord [] [] (record_line row ++ tail) ≡ Some (row, st.StartRecord, tail)
unfolding record_line
record-read [] tail p = absurd p
record-read ([] ∷ rest) tail p = absurd (omega (arith, p.0))
record-read ((b ∷ more) ∷ rest) tail p =
    let q = plain-byte b (and-left _ _ p.1) in
    rw (append_assoc (b ∷ more) (fields_to_line_end rest) tail)
    (record-same [] [] b (more ++ (fields_to_line_end rest ++ tail)) q.2 q.3
    ∙ field-start [] (b ∷ more) rest tail p.1
    ∙ rest-run [] (b ∷ more) rest tail p.2)

line-some : (row : List (List ℕ)) → 1 ≤ length (record_line row)
unfolding record_line fields_to_line_end
line-some [] = omega arith
line-some (x ∷ []) = omega (arith, length-append x (10 ∷ []))
line-some (x ∷ y ∷ ys) = omega (arith, length-append x (44 ∷ (y ++ fields_to_line_end ys)))

-- there are no more records than bytes
rows-few : (rows : List (List (List ℕ))) → length rows ≤ length (record_lines rows)
unfolding record_lines
rows-few [] = omega arith
rows-few (row ∷ rows) = omega (arith, line-some row, length-append (record_line row) (record_lines rows), rows-few rows)

rows-read : (n : ℕ) (rows : List (List (List ℕ))) → AllByRecursion IsPlainRow rows → length rows ≤ n
    → records_from default_config n st.StartRecord (record_lines rows) ≡ rows
unfolding records_from record_lines next_record
rows-read zero [] p h = refl
rows-read (suc n) [] p h = refl
rows-read zero (row ∷ rows) p h = absurd (omega (arith, h))
rows-read (suc n) (row ∷ rows) p h =
    rw (record-read row (record_lines rows) p.0)
    (ap (λ (t : List (List (List ℕ))). row ∷ t) (rows-read n rows p.1 (omega arith)))

-- a text whose first byte is no byte of a mark
pub no-bom : (a : ℕ) (rest : List ℕ) → (a == 239) ≡ false → strip_bom (a ∷ rest) ≡ a ∷ rest
unfolding strip_bom
no-bom a [] e = refl
no-bom a (b ∷ []) e = refl
no-bom a (b ∷ c ∷ rest) e = rw e refl

keeps-start : (bytes : List ℕ) → (get_or bytes 0 0 == 239) ≡ false → strip_bom bytes ≡ bytes
unfolding strip_bom
keeps-start [] e = refl
keeps-start (a ∷ rest) e = no-bom a rest e

-- the records of a text of plain records
pub records-read : (rows : List (List (List ℕ))) → AllByRecursion IsPlainRow rows
    → (get_or (record_lines rows) 0 0 == 239) ≡ false
    → records default_config (strip_bom (record_lines rows)) ≡ rows
records-read rows p e =
    rw (keeps-start (record_lines rows) e)
    (rows-read (length (record_lines rows) + 1) rows p (omega (arith, rows-few rows)))
