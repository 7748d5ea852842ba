-- The records of texts, one after the other.
use Rattle.std.proofs.Common.{◌≡◌, ◌⊎◌, inl, inr, ℕ, List, [], ◌∷◌, ◌++◌, Option, Some, None, Bool, true, false, ◌==◌}
use Rattle.std.proofs.Common.{refl, ap, sym, ◌∙◌}
use Rattle.std.proofs.lemmas.Bool.{true≢false}
use Rattle.csv.specs.Machine.{Read, ends_at_end, in_field, is_end, next_record, step}
use Rattle.csv.specs.Reading.{default_config, records, strip_bom}
use Rattle.csv.specs.declared.parser.Action.{Action}
use Rattle.csv.specs.declared.parser.Action.TheVariants as act
use Rattle.csv.specs.declared.parser.State.{State}
use Rattle.csv.specs.declared.parser.State.TheVariants as st
use Rattle.order_file.specs.Blocks.{Rows}
use Rattle.order_file.specs.Rows.{records_left}
use Rattle.order_file.proofs.RowLaws.{first-record, no-record}
use Rattle.order_file.proofs.WholeLineLaws.{ends-here, steps-on}
use Rattle.live_session.specs.InputLines.{is_record_open, line_state_after}

-- ---- the machine between records and in them

-- a state that the machine comes to
abbrev pub IsReached : State → Type 0
IsReached st.InComment = ⊥
IsReached st.InEscape = ⊥
IsReached s = Unit {0}

-- between records nothing is at hand
abbrev pub IsClean : State → List (List ℕ) → List ℕ → Type 0
IsClean s fields field = IsReached s × (ends_at_end s ≡ false → (fields ≡ []) × (field ≡ []))

-- ---- what a byte does

-- it goes on with a record, ends it, or is passed over between two
abbrev GoesOnWithText : State → ℕ → Type 0
GoesOnWithText s c = (t : State) × (a : Action) × IsReached t × (ends_at_end t ≡ true) × (is_end a ≡ false)
    × (step default_config s c ≡ (t, a))

abbrev EndsText : State → ℕ → Type 0
EndsText s c = (t : State) × IsReached t × (ends_at_end t ≡ false) × (step default_config s c ≡ (t, act.EndRecord))

abbrev IsSkipped : State → ℕ → Type 0
IsSkipped s c = (ends_at_end s ≡ false) × (step default_config s c ≡ (st.StartRecord, act.Skip))

abbrev IsOneOfThree : State → ℕ → Type 0
IsOneOfThree s c = GoesOnWithText s c ⊎ EndsText s c ⊎ IsSkipped s c

in-field-does : (s : State) (c : ℕ) → step default_config s c ≡ in_field default_config c → IsOneOfThree s c
in-field-does s c e = by_comma (c == 44) (c == 13) (c == 10) refl refl refl
  where
    by_comma : (x y z : Bool) → (c == 44) ≡ x → (c == 13) ≡ y → (c == 10) ≡ z → IsOneOfThree s c
    by_comma true y z p q r = inl (st.StartField, act.EndField, tt, refl, refl, e ∙ rw p refl)
    by_comma false true z p q r = inr (inl (st.AfterCr, tt, refl, e ∙ rw (p, q) refl))
    by_comma false false true p q r = inr (inl (st.StartRecord, tt, refl, e ∙ rw (p, q, r) refl))
    by_comma false false false p q r = inl (st.InField, act.Copy, tt, refl, refl, e ∙ rw (p, q, r) refl)

start-does : (s : State) (c : ℕ) → ends_at_end s ≡ false
    → step default_config s c ≡ step default_config st.StartRecord c → IsOneOfThree s c
start-does s c between e = by_return (c == 13) (c == 10) (c == 34) refl refl refl
  where
    by_return : (y z x : Bool) → (c == 13) ≡ y → (c == 10) ≡ z → (c == 34) ≡ x → IsOneOfThree s c
    by_return true z x q r p = inr (inr (between, e ∙ rw q refl))
    by_return false true x q r p = inr (inr (between, e ∙ rw (q, r) refl))
    by_return false false true q r p = inl (st.InQuoted, act.Skip, tt, refl, refl, e ∙ rw (q, r, p) refl)
    by_return false false false q r p = in-field-does s c (e ∙ rw (q, r, p) refl)

-- after a carriage return a byte does what it does before a record
step-between : (c : ℕ) → step default_config st.AfterCr c ≡ step default_config st.StartRecord c
step-between c = by_return (c == 13) (c == 10) refl refl
  where
    by_return : (y z : Bool) → (c == 13) ≡ y → (c == 10) ≡ z
        → step default_config st.AfterCr c ≡ step default_config st.StartRecord c
    by_return y true q r = by_line_end (c == 13) refl r
      where
        by_line_end : (y : Bool) → (c == 13) ≡ y → (c == 10) ≡ true
            → step default_config st.AfterCr c ≡ step default_config st.StartRecord c
        by_line_end true q r = rw (r, q) refl
        by_line_end false q r = rw (r, q) refl
    by_return y false q r = rw r refl

does : (s : State) (c : ℕ) → IsReached s → IsOneOfThree s c
does st.StartRecord c h = start-does st.StartRecord c refl refl
does st.AfterCr c h = start-does st.AfterCr c refl (step-between c)
does st.InField c h = in-field-does st.InField c refl
does st.StartField c h = by_quote (c == 34) refl
  where
    by_quote : (x : Bool) → (c == 34) ≡ x → IsOneOfThree st.StartField c
    by_quote true p = inl (st.InQuoted, act.Skip, tt, refl, refl, rw p refl)
    by_quote false p = in-field-does st.StartField c (rw p refl)
does st.InQuoted c h = by_quote (c == 34) refl
  where
    by_quote : (x : Bool) → (c == 34) ≡ x → IsOneOfThree st.InQuoted c
    by_quote true p = inl (st.AfterQuote, act.Skip, tt, refl, refl, rw p refl)
    by_quote false p = inl (st.InQuoted, act.Copy, tt, refl, refl, rw p refl)
does st.AfterQuote c h = by_quote (c == 34) refl
  where
    by_quote : (x : Bool) → (c == 34) ≡ x → IsOneOfThree st.AfterQuote c
    by_quote true p = inl (st.InQuoted, act.Copy, tt, refl, refl, rw p refl)
    by_quote false p = in-field-does st.AfterQuote c (rw p refl)
does st.InEscape c h = absurd h
does st.InComment c h = absurd h

-- ---- the records of a text

-- a record, and those after it
abbrev rows_then : Option Read → Rows
rows_then None = []
rows_then (Some r) = r.0 ∷ records_left r.1 r.2

-- those of a text, from the middle of a record on
abbrev rows : State → List (List ℕ) → List ℕ → List ℕ → Rows
rows s fields field xs = rows_then (next_record default_config s fields field xs)

left-are-rows : (s : State) (xs : List ℕ) → records_left s xs ≡ rows s [] [] xs
left-are-rows s xs = by_next_record (next_record default_config s [] [] xs) refl
  where
    by_next_record : (o : Option Read) → next_record default_config s [] [] xs ≡ o → records_left s xs ≡ rows_then o
    by_next_record None e = no-record s xs e
    by_next_record (Some p) e = first-record s xs p e

next-between : (xs : List ℕ) → next_record default_config st.AfterCr [] [] xs
    ≡ next_record default_config st.StartRecord [] [] xs
unfolding next_record
next-between [] = refl
next-between (c ∷ rest) = rw (step-between c) refl

left-between : (s : State) (xs : List ℕ) → IsReached s → ends_at_end s ≡ false
    → records_left s xs ≡ records_left st.StartRecord xs
left-between st.StartRecord xs h e = refl
left-between st.AfterCr xs h e =
    left-are-rows st.AfterCr xs ∙ ap rows_then (next-between xs) ∙ sym (left-are-rows st.StartRecord xs)
left-between st.InField xs h e = absurd (true≢false e)
left-between st.StartField xs h e = absurd (true≢false e)
left-between st.InQuoted xs h e = absurd (true≢false e)
left-between st.AfterQuote xs h e = absurd (true≢false e)
left-between st.InEscape xs h e = absurd h
left-between st.InComment xs h e = absurd h

no-row : (s : State) → ends_at_end s ≡ false → rows s [] [] [] ≡ []
unfolding next_record
no-row s e = rw e refl

-- a text that ends between two records, and then another
whole-then : (s : State) (fields : List (List ℕ)) (field x y : List ℕ) → IsClean s fields field
    → ends_at_end (line_state_after s x) ≡ false
    → rows s fields field (x ++ y) ≡ rows s fields field x ++ records_left st.StartRecord y
unfolding line_state_after
whole-then s fields field [] y clean e =
    let (none, empty) = clean.1 e in
    rw (none, empty, no-row s e) (sym (left-are-rows s y) ∙ left-between s y clean.0 e)
whole-then s fields field (c ∷ x) y clean e = by_action (does s c clean.0) (λ t f p h k. whole-then t f p x y h k)
  where
    by_action : IsOneOfThree s c
        → ((t : State) (f : List (List ℕ)) (p : List ℕ) → IsClean t f p → ends_at_end (line_state_after t x) ≡ false
        → rows t f p (x ++ y) ≡ rows t f p x ++ records_left st.StartRecord y)
        → rows s fields field (c ∷ (x ++ y)) ≡ rows s fields field (c ∷ x) ++ records_left st.StartRecord y
    by_action (inl (t, a, reached, within, no_end, is)) more =
        rw (steps-on s t a fields field c (x ++ y) is no_end, steps-on s t a fields field c x is no_end)
        (more t _ _ (reached, λ f. absurd (true≢false (sym within ∙ f))) (rw is at e))
    by_action (inr (inl (t, reached, between, is))) more =
        rw (ends-here s t fields field c (x ++ y) is, ends-here s t fields field c x is)
        (ap (λ (rs : Rows). (fields ++ (field ∷ [])) ∷ rs) (left-are-rows t (x ++ y)
        ∙ more t [] [] (reached, λ f. (refl, refl)) (rw is at e)
        ∙ ap (λ (rs : Rows). rs ++ records_left st.StartRecord y) (sym (left-are-rows t x))))
    by_action (inr (inr (between, is))) more =
        rw (
          steps-on s st.StartRecord act.Skip fields field c (x ++ y) is refl,
          steps-on s st.StartRecord act.Skip fields field c x is refl,
        )
        (more st.StartRecord _ _ (tt, λ f. clean.1 between) (rw is at e))

-- the text ends between two records
abbrev pub IsClosed : List ℕ → Type 0
IsClosed x = is_record_open x ≡ false

pub records-then : (x y : List ℕ) → IsClosed x → records default_config (x ++ y) ≡ records default_config x
    ++ records default_config y
records-then x y e =
    left-are-rows st.StartRecord (x ++ y) ∙ whole-then st.StartRecord [] [] x y (tt, λ f. (refl, refl)) e
    ∙ ap (λ (rs : Rows). rs ++ records_left st.StartRecord y) (sym (left-are-rows st.StartRecord x))

-- a line end before a record is passed over
pub line-end-first : (x : List ℕ) → records default_config (strip_bom (10 ∷ x)) ≡ records default_config x
unfolding strip_bom
line-end-first x = by_first_bytes x
  where
    passed : (x : List ℕ) → records default_config (10 ∷ x) ≡ records default_config x
    passed x =
        left-are-rows st.StartRecord (10 ∷ x)
        ∙ ap rows_then (steps-on st.StartRecord st.StartRecord act.Skip [] [] 10 x refl refl)
        ∙ sym (left-are-rows st.StartRecord x)

    by_first_bytes : (x : List ℕ) → records default_config (strip_bom (10 ∷ x)) ≡ records default_config x
    by_first_bytes [] = passed []
    by_first_bytes (b ∷ []) = passed (b ∷ [])
    by_first_bytes (b ∷ c ∷ rest) = passed (b ∷ c ∷ rest)

-- ---- texts one after the other

pub state-append : (s : State) (x y : List ℕ) → line_state_after s (x ++ y) ≡ line_state_after (line_state_after s x) y
unfolding line_state_after
state-append s [] y = refl
state-append s (c ∷ x) y = state-append (step default_config s c).0 x y

reached-after : (s : State) (x : List ℕ) → IsReached s → IsReached (line_state_after s x)
unfolding line_state_after
reached-after s [] h = h
reached-after s (c ∷ x) h = by_action (does s c h) (λ t k. reached-after t x k)
  where
    by_action : IsOneOfThree s c → ((t : State) → IsReached t → IsReached (line_state_after t x))
        → IsReached (line_state_after (step default_config s c).0 x)
    by_action (inl (t, a, reached, within, no_end, is)) more = rw is (more t reached)
    by_action (inr (inl (t, reached, between, is))) more = rw is (more t reached)
    by_action (inr (inr (between, is))) more = rw is (more st.StartRecord tt)

-- from between two records a text leads where it leads from the start
closed-from : (s : State) (y : List ℕ) → IsReached s → ends_at_end s ≡ false → IsClosed y
    → ends_at_end (line_state_after s y) ≡ false
unfolding line_state_after
closed-from st.StartRecord y h e k = k
closed-from st.AfterCr [] h e k = refl
closed-from st.AfterCr (c ∷ y) h e k = rw (step-between c) k
closed-from st.InField y h e k = absurd (true≢false e)
closed-from st.StartField y h e k = absurd (true≢false e)
closed-from st.InQuoted y h e k = absurd (true≢false e)
closed-from st.AfterQuote y h e k = absurd (true≢false e)
closed-from st.InEscape y h e k = absurd h
closed-from st.InComment y h e k = absurd h

pub closed-both : (x y : List ℕ) → IsClosed x → IsClosed y → IsClosed (x ++ y)
closed-both x y h k =
    rw (state-append st.StartRecord x y)
    (closed-from (line_state_after st.StartRecord x) y (reached-after st.StartRecord x tt) h k)

pub closed-none : IsClosed []
unfolding line_state_after
closed-none = refl
