-- The records of lines: outside quotes a line end ends a record.
use Rattle.std.proofs.Common.{◌≡◌, ◌≢◌, ◌<◌, ◌+◌, ◌⊎◌, inl, inr, ℕ, zero, suc, List, [], ◌∷◌, ◌++◌, length, Option}
use Rattle.std.proofs.Common.{Some, None, Bool, true, false, ◌==◌, refl, ap, sym, arith, rules, ◌∙◌}
use Rattle.std.proofs.lemmas.List.Elements.{All-head, All-tail}
use Rattle.std.specs.List.{All}
use Rattle.csv.specs.Machine.{Read, field_after, fields_after, in_field, is_end, next_record, step}
use Rattle.csv.specs.Reading.{default_config, records}
use Rattle.csv.specs.declared.parser.Action.{Action}
use Rattle.csv.specs.declared.parser.Action.TheVariants as act
use Rattle.csv.specs.declared.parser.State.{State}
use Rattle.csv.specs.declared.parser.State.TheVariants as st
use Rattle.order_file.specs.Rows.{records_left}
use Rattle.order_file.proofs.RowLaws.{first-record, no-record, records_from-done}

-- between two records
abbrev pub IsBetween : State → Type 0
IsBetween st.StartRecord = Unit {0}
IsBetween st.AfterCr = Unit {0}
IsBetween s = ⊥

-- in a record, and not in quotes
abbrev pub IsInRecord : State → Type 0
IsInRecord st.StartField = Unit {0}
IsInRecord st.InField = Unit {0}
IsInRecord s = ⊥

abbrev pub IsOutside : State → Type 0
IsOutside s = IsBetween s ⊎ IsInRecord s

abbrev pub NoQuote : List ℕ → Type 0
NoQuote = All (λ c. c ≢ 34)

-- a byte that goes on with a record, one that ends it, one that is passed over between records
abbrev StaysInRecord : State → ℕ → Type 0
StaysInRecord s c = (t : State) × (a : Action) × IsInRecord t × (is_end a ≡ false) × (step default_config s c ≡ (t, a))

abbrev EndsRecord : State → ℕ → Type 0
EndsRecord s c = (t : State) × IsOutside t × (step default_config s c ≡ (t, act.EndRecord))

abbrev pub IsPassedOver : State → ℕ → Type 0
IsPassedOver s c = IsBetween s × (step default_config s c ≡ (st.StartRecord, act.Skip))

in-field-step : (s : State) (c : ℕ) → step default_config s c ≡ in_field default_config c → StaysInRecord s c
    ⊎ EndsRecord s c
    ⊎ IsPassedOver s c
in-field-step s c e = by_comma (c == 44) (c == 13) (c == 10) refl refl refl
  where
    by_comma : (x y z : Bool) → (c == 44) ≡ x → (c == 13) ≡ y → (c == 10) ≡ z
        → StaysInRecord s c ⊎ EndsRecord s c ⊎ IsPassedOver s c
    by_comma true y z p q r = inl (st.StartField, act.EndField, tt, refl, e ∙ rw p refl)
    by_comma false true z p q r = inr (inl (st.AfterCr, inl tt, e ∙ rw (p, q) refl))
    by_comma false false true p q r = inr (inl (st.StartRecord, inl tt, e ∙ rw (p, q, r) refl))
    by_comma false false false p q r = inl (st.InField, act.Copy, tt, refl, e ∙ rw (p, q, r) refl)

not_quote : (c : ℕ) → c ≢ 34 → (c == 34) ≡ false
not_quote c h = search rules

start-step : (s : State) (c : ℕ) → c ≢ 34 → IsBetween s → step default_config s c ≡ step default_config st.StartRecord c
    → StaysInRecord s c ⊎ EndsRecord s c ⊎ IsPassedOver s c
start-step s c h between e = by_return (c == 13) (c == 10) refl refl
  where
    by_return : (y z : Bool) → (c == 13) ≡ y → (c == 10) ≡ z → StaysInRecord s c ⊎ EndsRecord s c ⊎ IsPassedOver s c
    by_return true z q r = inr (inr (between, e ∙ rw q refl))
    by_return false true q r = inr (inr (between, e ∙ rw (q, r) refl))
    by_return false false q r = in-field-step s c (e ∙ rw (q, r, not_quote c h) refl)

outside-step : (s : State) (c : ℕ) → c ≢ 34 → IsOutside s → StaysInRecord s c ⊎ EndsRecord s c ⊎ IsPassedOver s c
outside-step st.StartRecord c h o = start-step st.StartRecord c h tt refl
outside-step st.AfterCr c h o = by_line_end (c == 10) refl
  where
    by_line_end : (z : Bool) → (c == 10) ≡ z
        → StaysInRecord st.AfterCr c ⊎ EndsRecord st.AfterCr c ⊎ IsPassedOver st.AfterCr c
    by_line_end true r = inr (inr (tt, rw r refl))
    by_line_end false r = start-step st.AfterCr c h tt (rw r refl)
outside-step st.StartField c h o = in-field-step st.StartField c (rw (not_quote c h) refl)
outside-step st.InField c h o = in-field-step st.InField c refl
outside-step st.InQuoted c h (inl o) = absurd o
outside-step st.InQuoted c h (inr o) = absurd o
outside-step st.AfterQuote c h (inl o) = absurd o
outside-step st.AfterQuote c h (inr o) = absurd o
outside-step st.InEscape c h (inl o) = absurd o
outside-step st.InEscape c h (inr o) = absurd o
outside-step st.InComment c h (inl o) = absurd o
outside-step st.InComment c h (inr o) = absurd o

-- a byte is read, and the record goes on
pub steps-on : (s t : State) (a : Action) (fields : List (List ℕ)) (field : List ℕ) (c : ℕ) (rest : List ℕ)
    → step default_config s c ≡ (t, a) → is_end a ≡ false
    → next_record default_config s fields field (c ∷ rest) ≡ next_record default_config t (fields_after a fields field)
    (field_after a c field) rest
unfolding next_record
steps-on s t a fields field c rest e stays = rw (e, stays) refl

-- a byte is read that ends the record
pub ends-here : (s t : State) (fields : List (List ℕ)) (field : List ℕ) (c : ℕ) (rest : List ℕ)
    → step default_config s c ≡ (t, act.EndRecord)
    → next_record default_config s fields field (c ∷ rest) ≡ Some (fields ++ (field ∷ []), t, rest)
unfolding next_record
ends-here s t fields field c rest e = rw e refl

-- the same record, of two texts that begin alike, ends before the line end
pub record EndsBefore (zs : List ℕ) (n : ℕ) (a b : Option Read) : Type 0 where
  pub fields : List (List ℕ)
  pub state : State
  pub text : List ℕ
  pub outside : IsOutside state
  pub no_quote : NoQuote text
  pub less : length text < n
  pub short : a ≡ Some (fields, state, text ++ 10 ∷ [])
  pub long : b ≡ Some (fields, state, text ++ 10 ∷ zs)

-- it ends at the line end
pub record EndsAt (zs : List ℕ) (a b : Option Read) : Type 0 where
  pub fields : List (List ℕ)
  pub short : a ≡ Some (fields, st.StartRecord, [])
  pub long : b ≡ Some (fields, st.StartRecord, zs)

-- there is none up to the line end
pub record BeginsAfter (zs : List ℕ) (s : State) (fields : List (List ℕ)) (field : List ℕ) (a b : Option Read) : Type 0
  where
    pub between : IsBetween s
    pub short : a ≡ None
    pub long : b ≡ next_record default_config st.StartRecord fields field zs

abbrev Cut : List ℕ → ℕ → State → List (List ℕ) → List ℕ → Option Read → Option Read → Type 0
Cut zs n s fields field a b = EndsBefore zs n a b ⊎ EndsAt zs a b ⊎ BeginsAfter zs s fields field a b

-- what is so of a record that goes on is so of the whole
steps-on-cut : (zs : List ℕ) (n m : ℕ) (s t : State) (f g : List (List ℕ)) (p q : List ℕ) (a b a' b' : Option Read)
    → a ≡ a' → b ≡ b' → IsInRecord t
    → n < m → Cut zs n t g q a' b' → Cut zs m s f p a b
steps-on-cut zs n m s t f g p q a b a' b' e d within h (inl c) =
    inl (record {
      fields = c.fields;
      state = c.state;
      text = c.text;
      outside = c.outside;
      no_quote = c.no_quote;
      less =
          omega arith;
      short = e ∙ c.short;
      long = d ∙ c.long;
    })
steps-on-cut zs n m s t f g p q a b a' b' e d within h (inr (inl c)) =
    inr (inl (record { fields = c.fields; short = e ∙ c.short; long = d ∙ c.long }))
steps-on-cut zs n m s t f g p q a b a' b' e d within h (inr (inr c)) = absurd (not-both t c.between within)
  where
    not-both : (t : State) → IsBetween t → IsInRecord t → ⊥
    not-both st.StartRecord x y = y
    not-both st.AfterCr x y = y
    not-both st.StartField x y = x
    not-both st.InField x y = x
    not-both st.InQuoted x y = x
    not-both st.AfterQuote x y = x
    not-both st.InEscape x y = x
    not-both st.InComment x y = x

passes-cut : (zs : List ℕ) (n m : ℕ) (s : State) (f : List (List ℕ)) (p : List ℕ) (a b a' b' : Option Read) → a ≡ a'
    → b ≡ b' → IsBetween s
    → n < m → Cut zs n st.StartRecord f p a' b' → Cut zs m s f p a b
passes-cut zs n m s f p a b a' b' e d between h (inl c) =
    inl (record {
      fields = c.fields;
      state = c.state;
      text = c.text;
      outside = c.outside;
      no_quote = c.no_quote;
      less =
          omega arith;
      short = e ∙ c.short;
      long = d ∙ c.long;
    })
passes-cut zs n m s f p a b a' b' e d between h (inr (inl c)) =
    inr (inl (record { fields = c.fields; short = e ∙ c.short; long = d ∙ c.long }))
passes-cut zs n m s f p a b a' b' e d between h (inr (inr c)) =
    inr (inr (record { between = between; short = e ∙ c.short; long = d ∙ c.long }))

-- the line end itself
cut-end : (zs : List ℕ) (s : State) (fields : List (List ℕ)) (field : List ℕ) → IsOutside s
    → Cut zs 0 s fields field (next_record default_config s fields field (10 ∷ []))
    (next_record default_config s fields field (10 ∷ zs))
unfolding next_record
cut-end zs st.StartRecord fields field o = inr (inr (record { between = tt; short = refl; long = refl }))
cut-end zs st.AfterCr fields field o = inr (inr (record { between = tt; short = refl; long = refl }))
cut-end zs st.StartField fields field o =
    inr (inl (record { fields = fields ++ (field ∷ []); short = refl; long = refl }))
cut-end zs st.InField fields field o = inr (inl (record { fields = fields ++ (field ∷ []); short = refl; long = refl }))
cut-end zs st.InQuoted fields field (inl o) = absurd o
cut-end zs st.InQuoted fields field (inr o) = absurd o
cut-end zs st.AfterQuote fields field (inl o) = absurd o
cut-end zs st.AfterQuote fields field (inr o) = absurd o
cut-end zs st.InEscape fields field (inl o) = absurd o
cut-end zs st.InEscape fields field (inr o) = absurd o
cut-end zs st.InComment fields field (inl o) = absurd o
cut-end zs st.InComment fields field (inr o) = absurd o

cut-at : (zs : List ℕ) (s : State) (fields : List (List ℕ)) (field ys : List ℕ) → IsOutside s → NoQuote ys
    → Cut zs (length ys) s fields field (next_record default_config s fields field (ys ++ 10 ∷ []))
    (next_record default_config s fields field (ys ++ 10 ∷ zs))
cut-at zs s fields field [] o free = cut-end zs s fields field o
cut-at zs s fields field (c ∷ rest) o free =
    by_action (outside-step s c (All-head (λ b. b ≢ 34) c rest free) o)
    (λ t f p out. cut-at zs t f p rest out (All-tail (λ b. b ≢ 34) c rest free))
  where
    by_action : StaysInRecord s c ⊎ EndsRecord s c ⊎ IsPassedOver s c
        → ((t : State) (f : List (List ℕ)) (p : List ℕ) → IsOutside t
        → Cut zs (length rest) t f p (next_record default_config t f p (rest ++ 10 ∷ []))
        (next_record default_config t f p (rest ++ 10 ∷ zs)))
        → Cut zs (length (c ∷ rest)) s fields field (next_record default_config s fields field (c ∷ (rest ++ 10 ∷ [])))
        (next_record default_config s fields field (c ∷ (rest ++ 10 ∷ zs)))
    by_action (inl (t, a, within, no_end, e)) more =
        steps-on-cut zs (length rest) _ s t _ _ _ _ _ _ _ _ (steps-on s t a fields field c _ e no_end)
        (steps-on s t a fields field c _ e no_end) within (omega arith) (more t _ _ (inr within))
    by_action (inr (inl (t, out, e))) more =
        inl (record {
          fields = fields ++ (field ∷ []);
          state = t;
          text = rest;
          outside = out;
          no_quote = All-tail (λ b. b ≢ 34) c rest free;
          less = omega arith;
          short = ends-here s t fields field c _ e;
          long = ends-here s t fields field c _ e;
        })
    by_action (inr (inr (between, e))) more =
        passes-cut zs (length rest) _ s _ _ _ _ _ _ (steps-on s st.StartRecord act.Skip fields field c _ e refl)
        (steps-on s st.StartRecord act.Skip fields field c _ e refl) between (omega arith)
        (more st.StartRecord fields field (inl tt))

-- the records after the same next record
records-alike : (s t : State) (x y : List ℕ)
    → next_record default_config s [] [] x ≡ next_record default_config t [] [] y → records_left s x ≡ records_left t y
records-alike s t x y same = by_next_record (next_record default_config t [] [] y) same refl
  where
    by_next_record : (o : Option Read) → next_record default_config s [] [] x ≡ o
        → next_record default_config t [] [] y ≡ o
        → records_left s x ≡ records_left t y
    by_next_record None e d = no-record s x e ∙ sym (no-record t y d)
    by_next_record (Some p) e d = first-record s x p e ∙ sym (first-record t y p d)

-- a line end at the start of a record is passed over
pub line-end-first : (zs : List ℕ) → records default_config (10 ∷ zs) ≡ records default_config zs
line-end-first zs =
    records-alike st.StartRecord st.StartRecord (10 ∷ zs) zs
    (steps-on st.StartRecord st.StartRecord act.Skip [] [] 10 zs refl refl)

lines-first : (n : ℕ) (zs : List ℕ) (s : State) (ys : List ℕ) → length ys < n → IsOutside s → NoQuote ys
    → records_left s (ys ++ 10 ∷ zs) ≡ records_left s (ys ++ 10 ∷ []) ++ records_left st.StartRecord zs
lines-first zero zs s ys h o free = absurd (omega arith)
lines-first (suc n) zs s ys h o free =
    by_cut (cut-at zs s [] [] ys o free) (λ t x less out none. lines-first n zs t x (omega arith) out none)
  where
    by_cut : Cut zs (length ys) s [] [] (next_record default_config s [] [] (ys ++ 10 ∷ []))
        (next_record default_config s [] [] (ys ++ 10 ∷ zs))
        → ((t : State) (x : List ℕ) → length x < length ys → IsOutside t → NoQuote x
        → records_left t (x ++ 10 ∷ zs) ≡ records_left t (x ++ 10 ∷ []) ++ records_left st.StartRecord zs)
        → records_left s (ys ++ 10 ∷ zs) ≡ records_left s (ys ++ 10 ∷ []) ++ records_left st.StartRecord zs
    by_cut (inl c) more =
        first-record s _ (c.fields, c.state, c.text ++ 10 ∷ zs) c.long
        ∙ ap (λ (rs : List (List (List ℕ))). c.fields ∷ rs) (more c.state c.text c.less c.outside c.no_quote)
        ∙ ap (λ (rs : List (List (List ℕ))). rs ++ records_left st.StartRecord zs)
        (sym (first-record s _ (c.fields, c.state, c.text ++ 10 ∷ []) c.short))
    by_cut (inr (inl c)) more =
        first-record s _ (c.fields, st.StartRecord, zs) c.long
        ∙ ap (λ (rs : List (List (List ℕ))). rs ++ records_left st.StartRecord zs)
        (sym (first-record s _ (c.fields, st.StartRecord, []) c.short
        ∙ ap (λ (rs : List (List (List ℕ))). c.fields ∷ rs) (records_from-done default_config 1)))
    by_cut (inr (inr c)) more =
        records-alike s st.StartRecord _ zs c.long
        ∙ ap (λ (rs : List (List (List ℕ))). rs ++ records_left st.StartRecord zs) (sym (no-record s _ c.short))

-- the records of whole lines without a quote, and then those of the rest
pub lines-then : (ys zs : List ℕ) → NoQuote ys → records default_config (ys ++ 10 ∷ zs)
    ≡ records default_config (ys ++ 10 ∷ []) ++ records default_config zs
lines-then ys zs free = lines-first (length ys + 1) zs st.StartRecord ys (omega arith) (inl tt) free
