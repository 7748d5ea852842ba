-- The lines of a journal have no NUL in them, and no line end but their own.
use Rattle.std.proofs.Common.{◌≡◌, ◌≤◌, ◌<◌, ◌+◌, ◌/◌, ◌%◌, ◌++◌, ◌∷◌, ◌∙◌, [], ℕ, zero, suc, List, Bool, Some, None}
use Rattle.std.proofs.Common.{true, false, refl, sym, ap, append_assoc, arith, map, nat_le, nat_lt, rules, take, All}
use Rattle.std.proofs.Common.{decimal, length, length-append}
use Rattle.std.specs.Prelude.{◌==◌, Option, codes}
use Rattle.std.specs.Fmt.{digit_glyph, digits, digits_onto}
use Rattle.std.specs.List.{list_all, AllByRecursion}
use Rattle.std.proofs.lemmas.List.Folds.{list_all-append}
use Rattle.auction_terms.specs.declared.Command.{Command}
use Rattle.auction_terms.specs.declared.Command.TheVariants.{Enter, Change, Delete, OrderStatus, Indicate, ReadTrade}
use Rattle.auction_terms.specs.declared.Command.TheVariants.{Uncross}
use Rattle.auction_terms.specs.declared.Entry.{Entry}
use Rattle.auction_terms.specs.declared.Limit.{Limit}
use Rattle.auction_terms.specs.declared.Limit.TheVariants.{Market, At}
use Rattle.auction_terms.specs.declared.Restriction.{Restriction}
use Rattle.auction_terms.specs.declared.Restriction.TheVariants.{Unrestricted, OpeningOnly, ClosingOnly}
use Rattle.auction_terms.specs.declared.Side.{Side}
use Rattle.auction_terms.specs.declared.Side.TheVariants.{Bid, Ask}
use Rattle.printed_lines.specs.ReplyWords.{reply_text}
use Rattle.journal.specs.CallFields.{command_fields, enter_ending, number_field, side_field}
use Rattle.printed_lines.specs.CsvRecord.{limit_field}
use Rattle.journal.specs.EntryRecord.{is_printable}
use Rattle.journal.specs.JournalPromises.{FitsJournal}
use Rattle.journal.specs.WideReplies.{AreWide, IsWideReply}
use Rattle.journal.specs.PrintedJournal.{call_line, call_lines, comma_fields, day_line, sizes_text, ticks_text}
use Rattle.journal.specs.declared.day.DayHeader.{DayHeader}
use Rattle.journal.proofs.RecordLineLaws.{and-left, and-right}
use Rattle.journal.proofs.ReplyTextLaws.{reply-printable}
use Rattle.journal.proofs.ReplyLengthLaws.{reply-short}
use Rattle.journal_file.specs.Committed.{IsInLine, joined}
use Rattle.journal_file.specs.declared.committed.TheConstants.{LONGEST_WRITE}
use Rattle.live_session.proofs.LineLengthLaws.{call-fields-short, number-short, optional-short}

abbrev IsPrintable : List ℕ → Type 0
IsPrintable text = list_all is_printable text ≡ true

both : (xs ys : List ℕ) → IsPrintable xs → IsPrintable ys → IsPrintable (xs ++ ys)
both xs ys h k = rw (list_all-append is_printable xs ys, h, k) refl

digit-printable : (d : ℕ) → 48 ≤ d → d ≤ 57 → is_printable d ≡ true
digit-printable d least most =
    let above : 32 ≤ d = omega (arith, least) in
    let below : d ≤ 126 = omega (arith, most) in
    let low : nat_le 32 d ≡ true = search rules in
    let high : nat_le d 126 ≡ true = search rules in
    rw (low, high) refl

glyph-is : (d : ℕ) → d < 10 → digit_glyph false d ≡ 48 + d
glyph-is d h = let digit : nat_lt d 10 ≡ true = search rules in rw digit refl

first-and-behind : (b : ℕ) (bs : List ℕ) → is_printable b ≡ true → IsPrintable bs → IsPrintable (b ∷ bs)
first-and-behind b bs h k = rw (h, k) refl

one-entry-more : (count n : ℕ) (behind : List ℕ) (is_last : Bool) → (n / 10 == 0) ≡ is_last
    → IsPrintable (digit_glyph false (n % 10) ∷ behind)
    → IsPrintable (digits_onto count 10 false (n / 10) (digit_glyph false (n % 10) ∷ behind))
    → IsPrintable (digits_onto (suc count) 10 false n behind)
one-entry-more count n behind true is here more = rw is here
one-entry-more count n behind false is here more = rw is more

digits-printable : (count n : ℕ) (behind : List ℕ) → IsPrintable behind
    → IsPrintable (digits_onto count 10 false n behind)
digits-printable zero n behind h = h
digits-printable (suc count) n behind h =
    let few : n % 10 < 10 = omega arith in
    let glyph : is_printable (digit_glyph false (n % 10)) ≡ true =
    ap is_printable (glyph-is (n % 10) few) ∙ digit-printable (48 + n % 10) (omega arith) (omega (arith, few)) in
    let here = first-and-behind (digit_glyph false (n % 10)) behind glyph h in
    one-entry-more count n behind (n / 10 == 0) refl here
    (digits-printable count (n / 10) (digit_glyph false (n % 10) ∷ behind) here)

number : (n : ℕ) → IsPrintable (decimal n)
unfolding digits
number n = digits-printable 64 n [] refl

after-comma : (xs : List ℕ) → IsPrintable xs → IsPrintable (44 ∷ xs)
after-comma xs h = h

fields : (xs : List (List ℕ)) → AllByRecursion IsPrintable xs → IsPrintable (comma_fields xs)
fields [] h = refl
fields (x ∷ xs) h = after-comma (x ++ comma_fields xs) (both x (comma_fields xs) h.0 (fields xs h.1))

side : (s : Side) → IsPrintable (side_field s)
side Bid = refl
side Ask = refl

limit : (l : Limit) → IsPrintable (limit_field l)
limit Market = refl
limit (At tick) = number tick

optional : (n : Option ℕ) → IsPrintable (number_field n)
optional None = refl
optional (Some n) = number n

ending : (r : Restriction) (peak : Option ℕ) → AllByRecursion IsPrintable (enter_ending r peak)
ending Unrestricted None = tt
ending Unrestricted (Some peak) = (number peak, tt)
ending OpeningOnly peak = (optional peak, (refl, tt))
ending ClosingOnly peak = (optional peak, (refl, tt))

command : (c : Command) → AllByRecursion IsPrintable (command_fields c)
command (Enter s r l q p) = (refl, (side s, (number q, (limit l, ending r p))))
command (Change id l q) = (refl, (number id, (number q, (limit l, tt))))
command (Delete id) = (refl, (number id, tt))
command (OrderStatus id) = (refl, (number id, tt))
command Indicate = (refl, tt)
command (ReadTrade n) = (refl, (number n, tt))
command Uncross = (refl, tt)

-- ---- the lines without their ends

inside_call : Entry → List ℕ
inside_call entry =
    decimal entry.member ++ (comma_fields (command_fields entry.command) ++ (44 ∷ reply_text entry.reply))

inside_day : DayHeader → List ℕ
inside_day day = codes "day" ++ (ticks_text day.config ++ sizes_text day)

call-printable : (entry : Entry) → IsWideReply entry.reply → IsPrintable (inside_call entry)
unfolding inside_call
call-printable entry h =
    both (decimal entry.member) (comma_fields (command_fields entry.command) ++ (44 ∷ reply_text entry.reply))
    (number entry.member)
    (both (comma_fields (command_fields entry.command)) (44 ∷ reply_text entry.reply)
    (fields (command_fields entry.command) (command entry.command))
    (after-comma (reply_text entry.reply) (reply-printable entry.reply h)))

line-of-call : (entry : Entry) → inside_call entry ++ 10 ∷ [] ≡ call_line entry
unfolding inside_call
line-of-call entry = simp append_assoc

line-of-day : (day : DayHeader) → inside_day day ++ 10 ∷ [] ≡ day_line day
unfolding inside_day
line-of-day day = simp append_assoc

in-line : (xs : List ℕ) → IsPrintable xs → IsInLine xs
in-line [] h = tt
in-line (b ∷ bs) h =
    let low : nat_le 32 b ≡ true = and-left _ _ (and-left _ _ h) in
    let above : 32 ≤ b = search rules in
    ((λ nul. omega (arith, nul, above)), (λ lf. omega (arith, lf, above)), in-line bs (and-right _ _ h))

-- ---- the text of the lines

pub insides : List Entry → List (List ℕ)
insides entries = map inside_call entries

pub calls-text : (before : ℕ) (entries : List Entry) → call_lines before entries ≡ joined (insides entries)
unfolding call_lines insides
calls-text before [] = refl
calls-text before (e ∷ es) =
    rw (calls-text (before + 1) es, ← line-of-call e) (append_assoc (inside_call e) (10 ∷ []) (joined (insides es)))

pub first-and-more : (line : List ℕ) (lines : List (List ℕ)) → IsInLine line → All IsInLine lines
    → All IsInLine (line ∷ lines)
first-and-more line lines h all zero d lt = h
first-and-more line lines h all (suc k) d lt = all k d (omega (arith, lt))

pub first-and-more-short : (line : List ℕ) (lines : List (List ℕ)) → length line < LONGEST_WRITE
    → All (λ line. length line < LONGEST_WRITE) lines → All (λ line. length line < LONGEST_WRITE) (line ∷ lines)
first-and-more-short line lines h all zero d lt = h
first-and-more-short line lines h all (suc k) d lt = all k d (omega (arith, lt))

call-short : (entry : Entry) → IsWideReply entry.reply → length (inside_call entry) < LONGEST_WRITE
unfolding inside_call
call-short entry h =
    let fields = comma_fields (command_fields entry.command) in
    omega (
      arith,
      number-short entry.member,
      call-fields-short entry.command,
      reply-short entry.reply h,
      length-append (decimal entry.member) (fields ++ (44 ∷ reply_text entry.reply)),
      length-append fields (44 ∷ reply_text entry.reply),
    )

pub each-in-line : (entries : List Entry) → AreWide entries → All IsInLine (insides entries)
unfolding insides
each-in-line [] h = λ k d lt. absurd (omega (arith, lt))
each-in-line (e ∷ es) h =
    first-and-more (inside_call e) (insides es) (in-line (inside_call e) (call-printable e h.0)) (each-in-line es h.1)

pub each-short : (entries : List Entry) → AreWide entries → All (λ line. length line < LONGEST_WRITE) (insides entries)
unfolding insides
each-short [] h = λ k d lt. absurd (omega (arith, lt))
each-short (e ∷ es) h =
    first-and-more-short (inside_call e) (insides es) (call-short e h.0) (each-short es h.1)

replies-wide : (members : ℕ) (entries : List Entry) → AllByRecursion (FitsJournal members) entries → AreWide entries
replies-wide members [] h = tt
replies-wide members (e ∷ es) h = (h.0.reply, replies-wide members es h.1)

pub in-lines : (members : ℕ) (entries : List Entry) → AllByRecursion (FitsJournal members) entries
    → All IsInLine (insides entries)
in-lines members entries h = each-in-line entries (replies-wide members entries h)

pub first-insides : (count : ℕ) (entries : List Entry) → take count (insides entries) ≡ insides (take count entries)
unfolding insides
first-insides zero entries = refl
first-insides (suc n) [] = refl
first-insides (suc n) (e ∷ es) = ap (λ (l : List (List ℕ)). inside_call e ∷ l) (first-insides n es)

pub insides-both : (xs ys : List Entry) → insides (xs ++ ys) ≡ insides xs ++ insides ys
unfolding insides
insides-both [] ys = refl
insides-both (x ∷ xs) ys = ap (λ (l : List (List ℕ)). inside_call x ∷ l) (insides-both xs ys)

-- ---- the day

pub day_inside : DayHeader → List ℕ
day_inside day = inside_day day

pub day-text : (day : DayHeader) → day_line day ≡ joined (day_inside day ∷ [])
unfolding day_inside
day-text day = sym (line-of-day day)

pub day-in-line : (day : DayHeader) → IsInLine (day_inside day)
unfolding day_inside inside_day
day-in-line day = in-line (inside_day day) (both (codes "day") (ticks_text day.config ++ sizes_text day) refl
    (both (ticks_text day.config) (sizes_text day) ticks sizes))
  where
    ticks : IsPrintable (ticks_text day.config)
    ticks =
        both (decimal day.config.low) (44 ∷ (decimal day.config.high ++ (44 ∷ decimal day.config.reference)))
        (number day.config.low)
        (both (decimal day.config.high) (44 ∷ decimal day.config.reference) (number day.config.high)
        (number day.config.reference))

    sizes : IsPrintable (sizes_text day)
    sizes =
        both (decimal day.members)
        (44 ∷ (decimal day.config.max_open ++ (44 ∷ (decimal day.config.max_calls
        ++ (44 ∷ number_field day.config.range)))))
        (number day.members)
        (both (decimal day.config.max_open)
        (44 ∷ (decimal day.config.max_calls ++ (44 ∷ number_field day.config.range)))
        (number day.config.max_open)
        (both (decimal day.config.max_calls) (44 ∷ number_field day.config.range)
        (number day.config.max_calls) (optional day.config.range)))

pub day-short : (day : DayHeader) → length (day_inside day) < LONGEST_WRITE
unfolding day_inside inside_day
day-short day =
    simp length-append (omega (
      arith,
      number-short day.config.low,
      number-short day.config.high,
      number-short day.config.reference,
      number-short day.members,
      number-short day.config.max_open,
      number-short day.config.max_calls,
      optional-short day.config.range,
    ))
