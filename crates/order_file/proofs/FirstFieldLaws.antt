-- The first field of a text that begins with a digit.
use Rattle.std.proofs.Common.{◌≡◌, ◌≤◌, ◌⊎◌, inl, inr, ℕ, List, [], ◌∷◌, ◌++◌, Some, Bool, true}
use Rattle.std.proofs.Common.{false, ◌==◌, refl, ap, rules, ◌∙◌}
use Rattle.csv.specs.Machine.{Read, ends_at_end, field_after, fields_after, in_field, is_end, next_record, step}
use Rattle.csv.specs.Reading.{default_config, records, strip_bom}
use Rattle.csv.specs.declared.parser.Action.{Action}
use Rattle.csv.specs.declared.parser.Action.TheVariants as act
use Rattle.csv.specs.declared.parser.State.{State}
use Rattle.csv.specs.declared.parser.State.TheVariants as st
use Rattle.order_file.specs.Rows.{records_left}
use Rattle.order_file.proofs.RowLaws.{first-record}
use Rattle.order_file.proofs.WholeLineLaws.{steps-on}

-- in a record, in quotes or not
abbrev pub IsInside : State → Type 0
IsInside st.StartField = Unit {0}
IsInside st.InField = Unit {0}
IsInside st.InQuoted = Unit {0}
IsInside st.AfterQuote = Unit {0}
IsInside s = ⊥

-- the first field begins with this byte: it is the field at hand, or was read
abbrev Begins : ℕ → List (List ℕ) → List ℕ → Type 0
Begins d fields field =
    ((fields ≡ []) × (more : List ℕ) × (field ≡ d ∷ more))
    ⊎ ((more : List ℕ) × (others : List (List ℕ)) × (fields ≡ (d ∷ more) ∷ others))

abbrev pub BeginsWith : ℕ → List (List ℕ) → Type 0
BeginsWith d fields = (more : List ℕ) × (others : List (List ℕ)) × (fields ≡ (d ∷ more) ∷ others)

ended : (d : ℕ) (fields : List (List ℕ)) (field : List ℕ) → Begins d fields field
    → BeginsWith d (fields ++ (field ∷ []))
ended d fields field (inl (none, more, is)) = (more, [], rw (none, is) refl)
ended d fields field (inr (more, others, is)) = (more, others ++ (field ∷ []), rw is refl)

-- so it stays, byte for byte
stays : (a : Action) (d c : ℕ) (fields : List (List ℕ)) (field : List ℕ) → Begins d fields field
    → Begins d (fields_after a fields field) (field_after a c field)
stays act.EndField d c fields field h = inr (ended d fields field h)
stays act.EndRecord d c fields field h = inr (ended d fields field h)
stays act.Skip d c fields field h = h
stays act.Copy d c fields field (inl (none, more, is)) =
    inl (none, more ++ c ∷ [], ap (λ (xs : List ℕ). xs ++ c ∷ []) is)
stays act.Copy d c fields field (inr h) = inr h

ends_as : (a : Action) (d : ℕ) (fields : List (List ℕ)) (field : List ℕ) → is_end a ≡ true → Begins d fields field
    → BeginsWith d (fields_after a fields field)
ends_as act.EndRecord d fields field e h = ended d fields field h
ends_as act.EndField d fields field e h = absurd (cc e)
ends_as act.Skip d fields field e h = absurd (cc e)
ends_as act.Copy d fields field e h = absurd (cc e)

-- a byte that doesn't end the record stays in it
abbrev StaysInside : State → ℕ → Type 0
StaysInside s c = is_end (step default_config s c).1 ≡ false → IsInside (step default_config s c).0

in-field-inside : (s : State) (c : ℕ) → step default_config s c ≡ in_field default_config c → StaysInside s c
in-field-inside s c e = by_comma (c == 44) (c == 13) (c == 10) refl refl refl
  where
    by_comma : (x y z : Bool) → (c == 44) ≡ x → (c == 13) ≡ y → (c == 10) ≡ z → StaysInside s c
    by_comma true y z p q r = rw (e, p) (λ h. tt)
    by_comma false true z p q r = rw (e, p, q) (λ h. absurd (cc h))
    by_comma false false true p q r = rw (e, p, q, r) (λ h. absurd (cc h))
    by_comma false false false p q r = rw (e, p, q, r) (λ h. tt)

inside-step : (s : State) (c : ℕ) → IsInside s → StaysInside s c
inside-step st.InField c i = in-field-inside st.InField c refl
inside-step st.StartField c i = by_quote (c == 34) refl
  where
    by_quote : (q : Bool) → (c == 34) ≡ q → StaysInside st.StartField c
    by_quote true e = rw e (λ h. tt)
    by_quote false e = in-field-inside st.StartField c (rw e refl)
inside-step st.InQuoted c i = by_quote (c == 34) refl
  where
    by_quote : (q : Bool) → (c == 34) ≡ q → StaysInside st.InQuoted c
    by_quote true e = rw e (λ h. tt)
    by_quote false e = rw e (λ h. tt)
inside-step st.AfterQuote c i = by_quote (c == 34) refl
  where
    by_quote : (q : Bool) → (c == 34) ≡ q → StaysInside st.AfterQuote c
    by_quote true e = rw e (λ h. tt)
    by_quote false e = in-field-inside st.AfterQuote c (rw e refl)
inside-step st.StartRecord c i = absurd i
inside-step st.InEscape c i = absurd i
inside-step st.InComment c i = absurd i
inside-step st.AfterCr c i = absurd i

pub inside-end : (s : State) → IsInside s → ends_at_end s ≡ true
inside-end st.InField i = refl
inside-end st.StartField i = refl
inside-end st.InQuoted i = refl
inside-end st.AfterQuote i = refl
inside-end st.StartRecord i = absurd i
inside-end st.InEscape i = absurd i
inside-end st.InComment i = absurd i
inside-end st.AfterCr i = absurd i

-- there is a record then, and it begins with that byte
inside-record : (d : ℕ) (s : State) (fields : List (List ℕ)) (field rest : List ℕ) → IsInside s → Begins d fields field
    → (p : Read) × (next_record default_config s fields field rest ≡ Some p) × BeginsWith d p.0
unfolding next_record
inside-record d s fields field [] i h =
    ((fields ++ (field ∷ []), st.StartRecord, []), rw (inside-end s i) refl, ended d fields field h)
inside-record d s fields field (c ∷ rest) i h = by_end (is_end (step default_config s c).1) refl
    (λ inside. inside-record d (step default_config s c).0 _ _ rest inside
    (stays (step default_config s c).1 d c fields field h))
  where
    by_end : (b : Bool) → is_end (step default_config s c).1 ≡ b
        → (IsInside (step default_config s c).0
        → (p : Read)
        × (next_record default_config (step default_config s c).0
        (fields_after (step default_config s c).1 fields field) (field_after (step default_config s c).1 c field)
        rest ≡ Some p) × BeginsWith d p.0)
        → (p : Read) × (next_record default_config s fields field (c ∷ rest) ≡ Some p) × BeginsWith d p.0
    by_end true e more = (
      (fields_after (step default_config s c).1 fields field, (step default_config s c).0, rest),
      rw e refl,
      ends_as (step default_config s c).1 d fields field e h,
    )
    by_end false e more = rw e (more (inside-step s c i e))

digit-step : (d : ℕ) → 48 ≤ d → d ≤ 57 → step default_config st.StartRecord d ≡ (st.InField, act.Copy)
digit-step d low high =
    let delimiter : (d == 44) ≡ false = search rules in
    let quote : (d == 34) ≡ false = search rules in
    let return : (d == 13) ≡ false = search rules in
    let line : (d == 10) ≡ false = search rules in
    rw (delimiter, quote, return, line) refl

digit-unmarked : (d : ℕ) (rest : List ℕ) → d ≤ 57 → strip_bom (d ∷ rest) ≡ d ∷ rest
unfolding strip_bom
digit-unmarked d [] h = refl
digit-unmarked d (a ∷ []) h = refl
digit-unmarked d (a ∷ b ∷ rest) h = let no_mark : (d == 0xEF) ≡ false = search rules in rw no_mark refl

-- the first record of a text that begins with a digit begins with it
pub digit-first : (d : ℕ) (rest : List ℕ) → 48 ≤ d → d ≤ 57 → (row : List (List ℕ)) × (rows : List (List (List ℕ)))
    × (records default_config (strip_bom (d ∷ rest)) ≡ row ∷ rows) × BeginsWith d row
digit-first d rest low high =
    let first = steps-on st.StartRecord st.InField act.Copy [] [] d rest (digit-step d low high) refl in
    let (p, is, begins) = inside-record d st.InField [] (d ∷ []) rest tt (inl (refl, [], refl)) in (
      p.0,
      records_left p.1 p.2,
      rw (digit-unmarked d rest high) (first-record st.StartRecord (d ∷ rest) p (first ∙ is)),
      begins,
    )
