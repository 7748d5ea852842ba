-- The lines of entries, written one after the other.
use Rattle.std.proofs.Common.{◌≡◌, ◌≤◌, ◌<◌, ◌+◌, ◌-◌, ◌++◌, ◌∷◌, ◌∙◌, [], ℕ, List, length, map, take, drop, get_or}
use Rattle.std.proofs.Common.{Result, Ok, Err, Some, None, refl, ap, sym, arith, subst, append_assoc, length-append}
use Rattle.std.proofs.lemmas.List.{append-nil, drop-drop, length-take-le, length_push, map-append, take_more}
use Rattle.std.proofs.lemmas.Option.{slice_get-get_or, slice_get_past}
use Rattle.std.proofs.Math.Seq.{drop-append-add, take-append_seam}
use Rattle.std.specs.Prelude.{OnOk, Option, slice_get}
use borrow.Rule.Slice.PartMut.{put_mid}
use Rattle.auction_terms.specs.declared.Entry.{Entry}
use Rattle.journal.specs.JournalText.{journal_text}
use Rattle.journal.specs.KeptLines.{HasEntryLines}
use Rattle.journal.specs.PrintedJournal.{call_line, call_lines, day_line}
use Rattle.journal.specs.declared.day.DayHeader.{DayHeader}
use Rattle.journal.proofs.JournalTextLaws.{text-by-lines}
use Rattle.auction_c.specs.Encoding.{command_tagged, tagged}
use Rattle.auction_c.specs.Journals.{StandsAtHead, Stops, StopsAt, WritesLines, decoded_entry}
use Rattle.auction_c.specs.JournalReading.{WritesLine}
use Rattle.auction_c.specs.declared.errors.TheConstants.{DONE}
use Rattle.auction_c.specs.declared.structs.AuctionEntry.{AuctionEntry}

-- ---- text in a room

pub head-taken : (text old new : List ℕ) (written : ℕ) → StandsAtHead text old new written → take written new ≡ text
head-taken text old new written (stands, long) =
    ap (take written) stands ∙ ap (λ (n : ℕ). take n (text ++ drop written old)) long
    ∙ take-append_seam text (drop written old)

-- what is further behind is as it was
pub behind-head : (text old new : List ℕ) (written more after : ℕ) → StandsAtHead text old new written
    → after ≡ written + more → drop after new ≡ drop after old
behind-head text old new written more after (stands, long) is =
    ap (drop after) stands ∙ ap (λ (n : ℕ). drop n (text ++ drop written old)) (is ∙ ap (λ (n : ℕ). n + more) long)
    ∙ drop-append-add text (drop written old) more ∙ drop-drop more written old ∙ ap (λ (n : ℕ). drop n old) (sym is)

-- a part of the room was written
pub part-put : (a e : ℕ) (xs ys : List ℕ) → e ≡ a + length ys
    → put_mid a (e - a) xs ys ≡ take a xs ++ (ys ++ drop (a + length ys) xs)
part-put a e xs ys is =
    let long : a + (e - a) ≡ a + length ys = omega (arith, is) in
    ap (λ (t : List ℕ). take a xs ++ (ys ++ t)) (drop-drop (e - a) a xs ∙ ap (λ (n : ℕ). drop n xs) long)

-- one text behind another
pub stands-more : (text more old now new : List ℕ) (before after : ℕ) → StandsAtHead text old now before
    → after ≡ before + length more → new ≡ take before now ++ (more ++ drop after now)
    → StandsAtHead (text ++ more) old new after
stands-more text more old now new before after stands counted put = (
  put ∙ ap (λ (t : List ℕ). t ++ (more ++ drop after now)) (head-taken text old now before stands)
      ∙ ap (λ (t : List ℕ). text ++ (more ++ t)) (behind-head text old now before (length more) after stands counted)
      ∙ sym (append_assoc text more (drop after old)),
  counted ∙ ap (λ (n : ℕ). n + length more) stands.1 ∙ sym (length-append text more),
)

-- two parts of a text behind what is before them
pub two-parts : (old mid new one other kept : List ℕ) (begin middle after : ℕ) → one ++ other ≡ kept
    → begin ≤ length old → middle ≡ begin + length one → after ≡ middle + length other
    → mid ≡ take begin old ++ (one ++ drop middle old) → new ≡ take middle mid ++ (other ++ drop after mid)
    → new ≡ take begin old ++ (kept ++ drop after old)
two-parts old mid new one other kept begin middle after is within first second put more =
    let front = take begin old ++ one in
    let long : middle ≡ length front =
    first ∙ ap (λ (n : ℕ). n + length one) (sym (length-take-le begin old within))
    ∙ sym (length-append (take begin old) one) in
    let stands : StandsAtHead front old mid middle =
    (put ∙ sym (append_assoc (take begin old) one (drop middle old)), long) in
    let all = stands-more front other old mid new middle after stands second more in
    all.0 ∙ ap (λ (t : List ℕ). t ++ drop after old) (append_assoc (take begin old) one other)
    ∙ append_assoc (take begin old) (one ++ other) (drop after old)
    ∙ ap (λ (t : List ℕ). take begin old ++ (t ++ drop after old)) is

-- ---- lines

any-number : (n m : ℕ) (entries : List Entry) → call_lines n entries ≡ call_lines m entries
unfolding call_lines
any-number n m [] = refl
any-number n m (e ∷ es) = ap (λ (t : List ℕ). call_line e ++ t) (any-number (n + 1) (m + 1) es)

lines-append : (n : ℕ) (xs ys : List Entry) → call_lines n (xs ++ ys) ≡ call_lines n xs ++ call_lines 0 ys
unfolding call_lines
lines-append n [] ys = any-number n 0 ys
lines-append n (x ∷ xs) ys =
    ap (λ (t : List ℕ). call_line x ++ t) (lines-append (n + 1) xs ys)
    ∙ sym (append_assoc (call_line x) (call_lines (n + 1) xs) (call_lines 0 ys))

line-alone : (e : Entry) → call_lines 0 (e ∷ []) ≡ call_line e
unfolding call_lines
line-alone e = append-nil (call_line e)

pub line-of-one : {E : Type 0} (r : Result (Unit {0}) E) (text : List ℕ) (e : Entry)
    → OnOk r (HasEntryLines text (e ∷ [])) → OnOk r (text ≡ call_line e)
line-of-one (Ok u) text e has = has.0 ∙ line-alone e
line-of-one (Err f) text e has = tt

lines-push : (lines : List Entry) (e : Entry) → call_lines 0 (lines ++ e ∷ []) ≡ call_lines 0 lines ++ call_line e
lines-push lines e =
    lines-append 0 lines (e ∷ []) ∙ ap (λ (t : List ℕ). call_lines 0 lines ++ t) (line-alone e)

-- a journal of some entries, and then the lines of others
journal-goes_on : (day : DayHeader) (before lines : List Entry)
    → journal_text day before ++ call_lines 0 lines ≡ journal_text day (before ++ lines)
journal-goes_on day before lines =
    ap (λ (t : List ℕ). t ++ call_lines 0 lines) (text-by-lines day before)
    ∙ append_assoc (day_line day) (call_lines 0 before) (call_lines 0 lines)
    ∙ ap (λ (t : List ℕ). day_line day ++ t) (sym (lines-append 0 before lines))
    ∙ sym (text-by-lines day (before ++ lines))

-- ---- one line, or none

-- ---- the lines of structs

-- any one
abbrev pub no_entry : AuctionEntry
no_entry = record { command = command_tagged 0 0 0; reply = tagged 0 }

-- those of the entries in the first i structs are written
pub record HasLines (entries : List AuctionEntry) (old new : List ℕ) (i written : ℕ) : Type 0 where
  pub lines : List Entry
  pub are : map decoded_entry (take i entries) ≡ map Some lines
  pub count : length lines ≡ i
  pub stand : StandsAtHead (call_lines 0 lines) old new written
  pub fits : written ≤ length old
  pub room : length new ≡ length old

pub lines-begun : (entries : List AuctionEntry) (old : List ℕ) (written : ℕ) → written ≡ 0
    → HasLines entries old old 0 written
unfolding call_lines
lines-begun entries old written none =
    record {
      lines = [];
      are = refl;
      count = refl;
      stand = (rw none refl, none);
      fits = omega (arith, none);
      room = refl;
    }

pub one-line-more : (entries : List AuctionEntry) (old now new : List ℕ) (i before after : ℕ) (d : AuctionEntry)
    (e : Entry) → HasLines entries old now i before → i < length entries → decoded_entry (get_or entries i d) ≡ Some e
    → after ≡ before + length (call_line e) → after ≤ length now
    → new ≡ take before now ++ (call_line e ++ drop after now) → length new ≡ length now
    → HasLines entries old new (i + 1) after
one-line-more entries old now new i before after d e has within is counted fits put same =
    let more = stands-more (call_lines 0 has.lines) (call_line e) old now new before after has.stand counted put in
    let whole = lines-push has.lines e in
    record {
      lines = has.lines ++ e ∷ [];
      are = ap (map decoded_entry) (take_more entries i d within)
          ∙ map-append decoded_entry (take i entries) (get_or entries i d ∷ [])
          ∙ ap (λ (os : List (Option Entry)). os ++ decoded_entry (get_or entries i d) ∷ []) has.are
          ∙ ap (λ (o : Option Entry). map Some has.lines ++ o ∷ []) is ∙ sym (map-append Some has.lines (e ∷ []));
      count = length_push has.lines e ∙ ap (λ (n : ℕ). n + 1) has.count;
      stand = (more.0 ∙ ap (λ (t : List ℕ). t ++ drop after old) (sym whole), more.1 ∙ ap length (sym whole));
      fits = omega (arith, fits, has.room);
      room = same ∙ has.room;
    }

pub as-written : (entries : List AuctionEntry) (old new : List ℕ) (i written error : ℕ)
    → HasLines entries old new i written → Stops error (length old - written) (slice_get entries i)
    → WritesLines entries old new i written error
as-written entries old new i written error has stop =
    record {
      lines = has.lines;
      are = has.are;
      count = has.count;
      stand = has.stand;
      goes_on = λ day before. ap (λ (t : List ℕ). journal_text day before ++ t)
          (head-taken (call_lines 0 has.lines) old new written has.stand)
          ∙ journal-goes_on day before has.lines;
      stops = stop;
    }

-- the next struct stops them
pub stopped : (entries : List AuctionEntry) (old now new : List ℕ) (i before after error : ℕ) (d : AuctionEntry)
    → HasLines entries old now i before → i < length entries
    → WritesLine (decoded_entry (get_or entries i d)) now new before after (Some error)
    → WritesLines entries old new i after error
stopped entries old now new i before after error d has within (same, uncounted, stop) =
    let next : slice_get entries i ≡ Some (get_or entries i d) = slice_get-get_or entries i d within in
    let room : length now - before ≡ length old - before = ap (λ (n : ℕ). n - before) has.room in
    rw (same, uncounted)
    (as-written entries old now i before error has
    (rw next (subst (λ (n : ℕ). StopsAt error n (decoded_entry (get_or entries i d))) room stop)))

-- none is left
pub all-written : (entries : List AuctionEntry) (old now : List ℕ) (i before : ℕ) → HasLines entries old now i before
    → i ≡ length entries → WritesLines entries old now i before DONE
all-written entries old now i before has end =
    let none : slice_get entries i ≡ None = slice_get_past entries i (omega (arith, end)) in
    as-written entries old now i before DONE has (rw none refl)

pub line-more : (entries : List AuctionEntry) (old now new : List ℕ) (i before after : ℕ) (d : AuctionEntry)
    → HasLines entries old now i before → i < length entries
    → WritesLine (decoded_entry (get_or entries i d)) now new before after None → length new ≡ length now
    → HasLines entries old new (i + 1) after
line-more entries old now new i before after d has within (e, is, counted, fits, put) same =
    one-line-more entries old now new i before after d e has within is counted fits put same
