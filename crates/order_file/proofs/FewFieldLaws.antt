-- How many fields the records of a text have.
use Rattle.std.proofs.Common.{◌≡◌, ◌<◌, ◌≤◌, ◌+◌, ◌∙◌, inl, inr, ℕ, List, [], ◌∷◌, ◌++◌, length, take, drop}
use Rattle.std.proofs.Common.{◌≢◌, Option, None, Some, Bool, true, false, is_some, nat_lt, refl, ap, sym, subst}
use Rattle.std.proofs.Common.{arith, rules, add-one, length-append, slice_index}
use Rattle.std.proofs.Math.Seq.{drop-cons}
use Rattle.std.proofs.lemmas.List.{length-take-le, take-append-drop}
use Rattle.std.proofs.lemmas.List.Elements.{All-append, All-cons, All-from_get_or, All-nil, All-take}
use Rattle.std.specs.List.{All}
use Rattle.csv.specs.Machine.{ends_at_end, field_after, fields_after, is_end, step}
use Rattle.csv.specs.Reading.{default_config, records, strip_bom}
use Rattle.csv.specs.declared.parser.Action.{Action}
use Rattle.csv.specs.declared.parser.Action.TheVariants as act
use Rattle.csv.specs.declared.parser.State.{State}
use Rattle.csv.specs.declared.parser.State.TheVariants as st
use Rattle.memchr.specs.Find.{IsFirstByte, is_byte}
use Rattle.order_file.specs.Overlong.{HaveFewFields, bytes_to_overlong, fields_at, mark_len}
use Rattle.order_file.specs.declared.overlong.TheConstants.{MOST_FIELDS, SHORT_LINE}
use Rattle.order_file.proofs.OverlongLaws.{IsMarked, MayBeAt, Steps, all-rows, mark-found, none-between, none-passed}
use Rattle.order_file.proofs.OverlongLaws.{reached-steps, rows_on}
use Rattle.order_file.proofs.WholeLineLaws.{NoQuote, lines-then}

-- ---- by the bytes

fields-grow : (a : Action) (fields : List (List ℕ)) (field : List ℕ)
    → length (fields_after a fields field) ≤ length fields + 1
fields-grow act.EndField fields field = omega (arith, length-append fields (field ∷ []))
fields-grow act.Skip fields field = omega arith
fields-grow act.Copy fields field = omega arith
fields-grow act.EndRecord fields field = omega (arith, length-append fields (field ∷ []))

few-rows : (n : ℕ) (s : State) (fields : List (List ℕ)) (field bytes : List ℕ)
    → length fields + 1 + length bytes ≤ n → All (λ row. length row ≤ n) (rows_on s fields field bytes)
few-rows n s fields field [] h = by_end (ends_at_end s) refl
  where
    by_end : (b : Bool) → ends_at_end s ≡ b → All (λ row. length row ≤ n) (rows_on s fields field [])
    by_end true e =
        rw e (All-cons (λ row. length row ≤ n) (fields ++ (field ∷ [])) []
        (omega (arith, h, length-append fields (field ∷ []))) (All-nil (λ row. length row ≤ n)))
    by_end false e = rw e (All-nil (λ row. length row ≤ n))
few-rows n s fields field (c ∷ rest) h =
    by_end (is_end (step default_config s c).1) refl
    (few-rows n (step default_config s c).0 [] [] rest (omega (arith, h)))
    (few-rows n (step default_config s c).0 (fields_after (step default_config s c).1 fields field)
    (field_after (step default_config s c).1 c field) rest
    (omega (arith, h, fields-grow (step default_config s c).1 fields field)))
  where
    by_end : (b : Bool) → is_end (step default_config s c).1 ≡ b
        → All (λ row. length row ≤ n) (rows_on (step default_config s c).0 [] [] rest)
        → All (λ row. length row ≤ n) (rows_on (step default_config s c).0
        (fields_after (step default_config s c).1 fields field) (field_after (step default_config s c).1 c field) rest)
        → All (λ row. length row ≤ n) (rows_on s fields field (c ∷ rest))
    by_end true e later more =
        rw e (All-cons (λ row. length row ≤ n) (fields_after (step default_config s c).1 fields field) _
        (omega (arith, h, fields-grow (step default_config s c).1 fields field)) later)
    by_end false e later more = rw e more

-- a short text
pub few-in_short : (text : List ℕ) → length text ≤ SHORT_LINE → HaveFewFields (records default_config text)
few-in_short text short =
    rw (all-rows text) (few-rows (SHORT_LINE + 1) st.StartRecord [] [] text (omega (arith, short)))

-- a text in which no quote is found
pub no-quote : (text : List ℕ) (found : Option ℕ) → is_some found ≡ false → IsFirstByte (is_byte 34) text found
    → NoQuote text
no-quote text None none first =
    All-from_get_or (λ c. c ≢ 34) text 0 (λ i within same. first i (omega arith) within (search (rules, same)))
no-quote text (Some place) none first = absurd cc

-- a short line, and then text in which they are few
pub few-behind : (text : List ℕ) (end : ℕ) → end < SHORT_LINE → end < length text → slice_index text end ≡ 10
    → NoQuote text → HaveFewFields (records default_config (drop (end + 1) text))
    → HaveFewFields (records default_config text)
few-behind text end short within is free few =
    let line = take end text ++ 10 ∷ [] in
    let parts : text ≡ take end text ++ 10 ∷ drop (end + 1) text =
    sym (take-append-drop end text)
    ∙ ap (λ xs. take end text ++ xs) (drop-cons text end 0 within ∙ rw (is, add-one end) refl) in
    let long : length line ≡ end + 1 =
    length-append (take end text) (10 ∷ []) ∙ ap (λ n. n + 1) (length-take-le end text (omega (arith, within))) in
    let first : HaveFewFields (records default_config line) = few-in_short line (omega (arith, long, short)) in
    rw (ap (records default_config) parts
    ∙ lines-then (take end text) (drop (end + 1) text) (All-take (λ c. c ≢ 34) end text free))
    (All-append (λ row. length row ≤ SHORT_LINE + 1) _ _ first few)

-- ---- up to an overlong record

few-cut : (s : State) (n : ℕ) (fields : List (List ℕ)) (field bytes : List ℕ) → n ≡ length fields
    → MayBeAt s fields → n ≤ MOST_FIELDS + 1
    → HaveFewFields (rows_on s fields field (take (bytes_to_overlong s n bytes) bytes))
unfolding bytes_to_overlong
few-cut s n fields field [] e i few = few-rows (SHORT_LINE + 1) s fields field [] (omega (arith, e, few))
few-cut s n fields field (c ∷ rest) e i few =
    by_many (nat_lt MOST_FIELDS n) refl (λ t m f p d j l. few-cut t m f p rest d j l)
  where
    More : Type 0
    More = (t : State) (m : ℕ) (f : List (List ℕ)) (p : List ℕ) → m ≡ length f → MayBeAt t f → m ≤ MOST_FIELDS + 1
        → HaveFewFields (rows_on t f p (take (bytes_to_overlong t m rest) rest))

    by_step : n ≤ MOST_FIELDS → Steps s c → More
        → HaveFewFields (rows_on s fields field
        (c ∷ take (bytes_to_overlong (step default_config s c).0 (fields_at (step default_config s c).0 n) rest) rest))
    by_step low (inl (t, between, d)) more =
        rw d (subst (λ (k : ℕ). HaveFewFields ((fields ++ (field ∷ []))
        ∷ rows_on t [] [] (take (bytes_to_overlong t k rest) rest))) (sym (none-between t between n))
        (All-cons (λ row. length row ≤ SHORT_LINE + 1) (fields ++ (field ∷ []))
        (rows_on t [] [] (take (bytes_to_overlong t 0 rest) rest))
        (omega (arith, e, low, length-append fields (field ∷ [])))
        (more t 0 [] [] refl (inr (between, refl)) (omega arith))))
    by_step low (inr (inl d)) more =
        rw d (more st.StartField (n + 1) (fields ++ (field ∷ [])) []
        (omega (arith, e, length-append fields (field ∷ []))) (inl tt) (omega (arith, low)))
    by_step low (inr (inr (inl (t, a, inside, count, no_end, same, d)))) more =
        rw (d, no_end, same fields field, count n) (more t n fields (field_after a c field) e (inl inside) few)
    by_step low (inr (inr (inr (between, d)))) more =
        let none = none-passed s fields i between in
        rw d (more st.StartRecord 0 fields field (sym (ap length none)) (inr (tt, none)) (omega arith))

    by_many : (b : Bool) → nat_lt MOST_FIELDS n ≡ b → More
        → HaveFewFields (rows_on s fields field (take (bytes_to_overlong s n (c ∷ rest)) (c ∷ rest)))
    by_many true m more = rw m (few-rows (SHORT_LINE + 1) s fields field [] (omega (arith, e, few)))
    by_many false m more =
        let low : n ≤ MOST_FIELDS = search rules in
        rw (m, add-one (bytes_to_overlong (step default_config s c).0 (fields_at (step default_config s c).0 n) rest))
        (by_step low (reached-steps s c fields i) more)

few-text : (bytes : List ℕ)
    → HaveFewFields (records default_config (take (bytes_to_overlong st.StartRecord 0 bytes) bytes))
few-text bytes =
    rw (all-rows (take (bytes_to_overlong st.StartRecord 0 bytes) bytes))
    (few-cut st.StartRecord 0 [] [] bytes refl (inr (tt, refl)) (omega arith))

-- behind a byte order mark
pub few-overlong : (text : List ℕ) (start count : ℕ) → start ≡ mark_len text
    → count ≡ bytes_to_overlong st.StartRecord 0 (drop start text)
    → HaveFewFields (records default_config (strip_bom (take (start + count) text)))
few-overlong text start count s n =
    let marked : IsMarked text start = rw s (mark-found text) in
    rw (marked.up_to count, n) (few-text (drop start text))

pub few-whole : (text : List ℕ) (start : ℕ) → start ≡ mark_len text
    → HaveFewFields (records default_config (drop start text))
    → HaveFewFields (records default_config (strip_bom text))
few-whole text start s few =
    let marked : IsMarked text start = rw s (mark-found text) in rw marked.behind at few
