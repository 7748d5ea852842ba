-- The lines of an input, and what is held of a line.
use Rattle.std.proofs.Common.{◌≡◌, ◌<◌, ◌≤◌, ◌+◌, ◌-◌, ℕ, zero, suc, List, [], ◌∷◌, ◌++◌, length, take, drop, get_or}
use Rattle.std.proofs.Common.{Option, Some, None, Bool, true, false, refl, ap, sym, arith, rules, add-one, drop-cons}
use Rattle.std.proofs.Common.{append_assoc, cond, is_some, ◌==◌, ◌∙◌}
use Rattle.std.specs.Prelude.{min, nat_lt, slice_index}
use Rattle.std.proofs.lemmas.Bool.{true≢false}
use Rattle.std.proofs.lemmas.List.{append-nil, drop_all, take_all}
use Rattle.csv.specs.Machine.{after_end, ends_at_end, ends_with, in_field, start_field, start_record, step}
use Rattle.csv.specs.Reading.{default_config, is_bom, strip_bom}
use Rattle.csv.specs.declared.parser.Action.{Action}
use Rattle.csv.specs.declared.parser.Action.TheVariants as act
use Rattle.csv.specs.declared.parser.State.{State}
use Rattle.csv.specs.declared.parser.State.TheVariants as st
use Rattle.csv.specs.declared.parser.Terminator.TheVariants as term
use Rattle.memchr.specs.Find.{IsFirstByte, is_byte, is_byte2}
use Rattle.input_hints.proofs.StartLaws.{added}
use Rattle.live_session.specs.Answered.{line_fault}
use Rattle.live_session.specs.InputLines.{HasNoLineEnd, IsFirstLineEnd, Lines, is_line_end, is_marked, is_quote_open}
use Rattle.live_session.specs.InputLines.{is_too_long}
use Rattle.live_session.specs.InputLines.{line_ended, line_longer, lines_once_read, next_byte, line_state_after}
use Rattle.live_session.specs.declared.line.TheConstants.{MAX_RECORD_BYTES}
use Rattle.live_session.proofs.RecordTextLaws.{state-append}

-- ---- lines, as more bytes come

pub lines-append : (lines : Lines) (xs ys : List ℕ)
    → lines_once_read lines (xs ++ ys) ≡ lines_once_read (lines_once_read lines xs) ys
unfolding lines_once_read
lines-append lines [] ys = refl
lines-append lines (x ∷ xs) ys = lines-append (next_byte lines x) xs ys

pub lines-longer : (lines : Lines) (bytes : List ℕ) → HasNoLineEnd bytes
    → lines_once_read lines bytes ≡ line_longer bytes lines
unfolding lines_once_read
lines-longer lines [] h =
    ap (λ (x : List ℕ). record { ended = lines.ended; at_hand = x }) (sym (append-nil lines.at_hand))
lines-longer lines (b ∷ bs) h =
    let here : next_byte lines b ≡ line_longer (b ∷ []) lines = rw h.0 refl in
    ap (λ (l : Lines). lines_once_read l bs) here ∙ lines-longer (line_longer (b ∷ []) lines) bs h.1
    ∙ ap (λ (x : List ℕ). record { ended = lines.ended; at_hand = x }) (append_assoc lines.at_hand (b ∷ []) bs)

one-end : (lines : Lines) (b : ℕ) (more : List ℕ) → is_line_end b ≡ true
    → lines_once_read lines (b ∷ more) ≡ lines_once_read (line_ended lines) more
unfolding lines_once_read
one-end lines b more is =
    let here : next_byte lines b ≡ line_ended lines = rw is refl in ap (λ (l : Lines). lines_once_read l more) here

pub lines-ended : (lines : Lines) (front more : List ℕ) (b : ℕ) → HasNoLineEnd front → is_line_end b ≡ true
    → lines_once_read lines (front ++ b ∷ more) ≡ lines_once_read (line_ended (line_longer front lines)) more
lines-ended lines front more b none is =
    lines-append lines front (b ∷ more) ∙ ap (λ (l : Lines). lines_once_read l (b ∷ more)) (lines-longer lines front
    none)
    ∙ one-end (line_longer front lines) b more is

pub lines-none : (lines : Lines) → lines_once_read lines [] ≡ lines
unfolding lines_once_read
lines-none lines = refl

-- ---- the first line end

is-false : (x : Bool) → (x ≡ true → ⊥) → x ≡ false
is-false x never = by_truth x refl
  where
    by_truth : (y : Bool) → x ≡ y → x ≡ false
    by_truth true e = absurd (never e)
    by_truth false e = e

no-end : (bytes : List ℕ) → ((k : ℕ) → k < length bytes → is_line_end (slice_index bytes k) ≡ true → ⊥)
    → HasNoLineEnd bytes
no-end [] none = tt
no-end (b ∷ bs) none =
    (is-false (is_line_end b) (none 0 (omega arith)), no-end bs (λ k lt is. none (suc k) (omega arith) is))

no-end-before : (bytes : List ℕ) (place : ℕ) → place ≤ length bytes
    → ((k : ℕ) → k < place → is_line_end (slice_index bytes k) ≡ true → ⊥) → HasNoLineEnd (take place bytes)
no-end-before bytes zero le none = tt
no-end-before [] (suc place) le none = absurd (omega arith)
no-end-before (b ∷ bs) (suc place) le none = (
  is-false (is_line_end b) (none 0 (omega arith)),
  no-end-before bs place (omega arith) (λ k lt is. none (suc k) (omega arith) is),
)

pub first-line-end : (bytes : List ℕ) (r : Option ℕ) → IsFirstByte (is_byte2 10 13) bytes r → IsFirstLineEnd bytes r
first-line-end bytes None h = no-end bytes (λ k lt is. h k (omega arith) lt is)
first-line-end bytes (Some place) h =
    (h.0.high, h.1, no-end-before bytes place (omega (arith, h.0.high)) (λ k lt is. h.0.before k (omega arith) lt is))

-- the bytes before a place, the one there, and those after it
pub split-there : (bytes : List ℕ) (place : ℕ) → place < length bytes
    → take place bytes ++ slice_index bytes place ∷ drop 1 (drop place bytes) ≡ bytes
split-there [] place lt = absurd (omega arith)
split-there (b ∷ bs) zero lt = refl
split-there (b ∷ bs) (suc place) lt = ap (λ (l : List ℕ). b ∷ l) (split-there bs place (omega arith))

-- ---- what is held of a line

pub filled : (most room n : ℕ) (old more front : List ℕ) → length old ≤ most → room ≡ most - length old
    → n ≡ min room (length more) → front ≡ take n more → old ++ front ≡ take most (old ++ more)
filled most room n old more front le is_room is_n is =
    ap (λ (x : List ℕ). old ++ x) (is ∙ ap (λ (m : ℕ). take m more) is_n)
    ∙ added most room old more (omega (arith, le, is_room))

take-more : (n : ℕ) (b : ℕ) (bs : List ℕ) → take (n + 1) (b ∷ bs) ≡ b ∷ take n bs
take-more n b bs = rw (add-one n) refl

pub take-twice : (n : ℕ) (xs ys : List ℕ) → take n (take n xs ++ ys) ≡ take n (xs ++ ys)
take-twice zero xs ys = refl
take-twice (suc n) [] ys = refl
take-twice (suc n) (x ∷ xs) ys = ap (λ (l : List ℕ). x ∷ l) (take-twice n xs ys)

pub take-short : (n : ℕ) (xs : List ℕ) → length (take n xs) ≤ n
take-short zero xs = omega arith
take-short (suc n) [] = omega arith
take-short (suc n) (x ∷ xs) = omega (arith, take-short n xs)

-- a line is too long where what is held of it is
take-long : (n : ℕ) (xs : List ℕ) → n < length xs → length (take (n + 1) xs) ≡ n + 1
take-long zero [] lt = absurd (omega arith)
take-long zero (x ∷ xs) lt = ap length (take-more 0 x xs)
take-long (suc n) [] lt = absurd (omega arith)
take-long (suc n) (x ∷ xs) lt = omega (
  arith,
  ap length (take-more (suc n) x xs),
  ap (λ (m : ℕ). length (take m xs)) (add-one n),
  take-long n xs (omega arith),
)

-- the fault of a line is that of what is held of it, and what has none is held whole
pub record IsHeldOf (held line : List ℕ) : Type 0 where
  pub fault : line_fault held ≡ line_fault line
  pub whole : is_too_long held ≡ false → held ≡ line

is-long : (n : ℕ) (xs : List ℕ) → n < length xs → nat_lt n (length xs) ≡ true
is-long n xs lt = search rules

held-short : (held line : List ℕ) → held ≡ line → IsHeldOf held line
held-short held line is = record { fault = ap line_fault is; whole = λ _. is }

held-long : (held line : List ℕ) → is_too_long held ≡ true → is_too_long line ≡ true → IsHeldOf held line
held-long held line h l = record { fault = rw (h, l) refl; whole = λ short. absurd (true≢false (sym h ∙ short)) }

pub held-line : (line : List ℕ) → IsHeldOf (take (MAX_RECORD_BYTES + 1) line) line
held-line line = by_length (is_too_long line) refl
  where
    by_length : (b : Bool) → is_too_long line ≡ b → IsHeldOf (take (MAX_RECORD_BYTES + 1) line) line
    by_length true e =
        let long : MAX_RECORD_BYTES < length line = search rules in
        held-long _ line
        (is-long MAX_RECORD_BYTES (take (MAX_RECORD_BYTES + 1) line)
        (omega (arith, take-long MAX_RECORD_BYTES line long))) e
    by_length false e =
        let short : length line ≤ MAX_RECORD_BYTES = search rules in
        held-short _ line (take_all (MAX_RECORD_BYTES + 1) line (omega (arith, short)))

pub held-none : (line : List ℕ) → take (MAX_RECORD_BYTES + 1) line ≡ [] → line ≡ []
held-none [] is = refl
held-none (b ∷ bs) is = absurd (cc (sym (take-more MAX_RECORD_BYTES b bs) ∙ is))

-- ---- the byte order mark

pub strip-marked : (line : List ℕ) → is_marked line ≡ true → strip_bom line ≡ drop 3 line
unfolding strip_bom
strip-marked [] e = absurd (true≢false (sym e))
strip-marked (a ∷ []) e = absurd (true≢false (sym e))
strip-marked (a ∷ b ∷ []) e = absurd (true≢false (sym e))
strip-marked (a ∷ b ∷ c ∷ rest) e = rw e refl

pub marked-long : (line : List ℕ) → is_marked line ≡ true → 3 ≤ length line
marked-long [] e = absurd (true≢false (sym e))
marked-long (a ∷ []) e = absurd (true≢false (sym e))
marked-long (a ∷ b ∷ []) e = absurd (true≢false (sym e))
marked-long (a ∷ b ∷ c ∷ rest) e = omega arith

pub strip-unmarked : (line : List ℕ) → is_marked line ≡ false → strip_bom line ≡ line
unfolding strip_bom
strip-unmarked [] e = refl
strip-unmarked (a ∷ []) e = refl
strip-unmarked (a ∷ b ∷ []) e = refl
strip-unmarked (a ∷ b ∷ c ∷ rest) e = rw e refl

-- ---- the state of the reader of records

pub quote-open : (line text : List ℕ) (s t : State) (r : Bool) → text ≡ strip_bom line
    → s ≡ line_state_after st.StartRecord text
    → t ≡ (step default_config s 10).0 → r ≡ ends_at_end t → r ≡ is_quote_open line
unfolding line_state_after
quote-open line text s t r text_is s_is t_is is =
    is
    ∙ ap ends_at_end
    (t_is ∙ ap (λ (u : State). (step default_config u 10).0) (s_is ∙ ap (line_state_after st.StartRecord) text_is)
    ∙ sym (state-append st.StartRecord (strip_bom line) (10 ∷ [])))

pub state-next : (s : State) (text : List ℕ) (i d : ℕ) (t : State) → i < length text
    → t ≡ (step default_config s (get_or text i d)).0
    → line_state_after s (drop i text) ≡ line_state_after t (drop (i + 1) text)
unfolding line_state_after
state-next s text i d t lt is =
    let parts : drop i text ≡ get_or text i d ∷ drop (i + 1) text =
    drop-cons text i d lt ∙ ap (λ (m : ℕ). get_or text i d ∷ drop m text) (sym (add-one i)) in
    rw parts (ap (λ (u : State). line_state_after u (drop (i + 1) text)) (sym is))

pub state-end : (s : State) (text : List ℕ) (i : ℕ) → length text ≤ i → line_state_after s (drop i text) ≡ s
unfolding line_state_after
state-end s text i le = rw (drop_all i text le) refl

-- ---- a line without quotes

-- no byte is a quote
abbrev pub HasNoQuote : List ℕ → Type 0
HasNoQuote [] = Unit {0}
HasNoQuote (b ∷ bs) = (is_byte 34 b ≡ false) × HasNoQuote bs

no-quote-there : (bytes : List ℕ) → ((k : ℕ) → k < length bytes → is_byte 34 (slice_index bytes k) ≡ true → ⊥)
    → HasNoQuote bytes
no-quote-there [] none = tt
no-quote-there (b ∷ bs) none =
    (is-false (is_byte 34 b) (none 0 (omega arith)), no-quote-there bs (λ k lt is. none (suc k) (omega arith) is))

no-quote-else : (x : Bool) (xs ys : List ℕ) → HasNoQuote xs → HasNoQuote ys → HasNoQuote (cond x xs ys)
no-quote-else true xs ys h g = h
no-quote-else false xs ys h g = g

no-quote-stripped : (line : List ℕ) → HasNoQuote line → HasNoQuote (strip_bom line)
unfolding strip_bom
no-quote-stripped [] h = h
no-quote-stripped (a ∷ []) h = h
no-quote-stripped (a ∷ b ∷ []) h = h
no-quote-stripped (a ∷ b ∷ c ∷ rest) h = no-quote-else (is_bom a b c) rest (a ∷ b ∷ c ∷ rest) h.1.1.1 h

-- the reader is in no quotes, and has come out of none
abbrev is_plain : State → Bool
is_plain st.StartRecord = true
is_plain st.AfterCr = true
is_plain st.StartField = true
is_plain st.InField = true
is_plain st.InQuoted = false
is_plain st.AfterQuote = false
is_plain st.InEscape = false
is_plain st.InComment = false

plain-else : (x : Bool) (s t : State × Action) → is_plain s.0 ≡ true → is_plain t.0 ≡ true
    → is_plain (cond x s t).0 ≡ true
plain-else true s t h g = h
plain-else false s t h g = g

plain-either : (x : Bool) (s t : State) → is_plain s ≡ true → is_plain t ≡ true → is_plain (cond x s t) ≡ true
plain-either true s t h g = h
plain-either false s t h g = g

plain-in-field : (c : ℕ) → is_plain (in_field default_config c).0 ≡ true
plain-in-field c =
    plain-else (c == 44) (st.StartField, act.EndField) _ refl
    (plain-else (ends_with term.CRLF c) (after_end term.CRLF c, act.EndRecord) (st.InField, act.Copy)
    (plain-either (c == 13) st.AfterCr st.StartRecord refl refl) refl)

plain-start-field : (c : ℕ) → (c == 34) ≡ false → is_plain (start_field default_config c).0 ≡ true
plain-start-field c p = rw p (plain-in-field c)

plain-start-record : (c : ℕ) → (c == 34) ≡ false → is_plain (start_record default_config c).0 ≡ true
plain-start-record c p =
    plain-else (ends_with term.CRLF c) (st.StartRecord, act.Skip) _ refl (plain-start-field c p)

plain-step : (s : State) (c : ℕ) → is_plain s ≡ true → (c == 34) ≡ false
    → is_plain (step default_config s c).0 ≡ true
plain-step st.StartRecord c h p = plain-start-record c p
plain-step st.AfterCr c h p = plain-else (c == 10) (st.StartRecord, act.Skip) _ refl (plain-start-record c p)
plain-step st.StartField c h p = plain-start-field c p
plain-step st.InField c h p = plain-in-field c
plain-step st.InQuoted c h p = absurd (true≢false (sym h))
plain-step st.AfterQuote c h p = absurd (true≢false (sym h))
plain-step st.InEscape c h p = absurd (true≢false (sym h))
plain-step st.InComment c h p = absurd (true≢false (sym h))

plain-after : (s : State) (bytes : List ℕ) → is_plain s ≡ true → HasNoQuote bytes
    → is_plain (line_state_after s bytes) ≡ true
unfolding line_state_after
plain-after s [] h none = h
plain-after s (b ∷ bs) h none = plain-after (step default_config s b).0 bs (plain-step s b h none.0) none.1

plain-closed : (s : State) → is_plain s ≡ true → ends_at_end (step default_config s 10).0 ≡ false
plain-closed st.StartRecord h = refl
plain-closed st.AfterCr h = refl
plain-closed st.StartField h = refl
plain-closed st.InField h = refl
plain-closed st.InQuoted h = absurd (true≢false (sym h))
plain-closed st.AfterQuote h = absurd (true≢false (sym h))
plain-closed st.InEscape h = absurd (true≢false (sym h))
plain-closed st.InComment h = absurd (true≢false (sym h))

-- where no byte is a quote, none is open
pub no-quote-open : (line : List ℕ) (found : Option ℕ) → IsFirstByte (is_byte 34) line found
    → is_some found ≡ false → is_quote_open line ≡ false
unfolding line_state_after
no-quote-open line (Some place) h e = absurd (true≢false e)
no-quote-open line None none e =
    let text = strip_bom line in
    let quotes = no-quote-stripped line (no-quote-there line (λ k lt is. none k (omega arith) lt is)) in
    ap ends_at_end (state-append st.StartRecord text (10 ∷ []))
    ∙ plain-closed (line_state_after st.StartRecord text) (plain-after st.StartRecord text refl quotes)

-- no byte is left
pub no-bytes : (bytes : List ℕ) → length bytes ≡ 0 → bytes ≡ []
no-bytes [] is = refl
no-bytes (b ∷ bs) is = absurd (omega (arith, is))
