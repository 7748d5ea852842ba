-- Journals that are kept: whole lines, of which the first are left, and with which a session goes on.
use Rattle.std.proofs.Common.{◌≡◌, ◌≤◌, ◌+◌, ◌++◌, ◌∷◌, ◌∙◌, [], ℕ, List, Bool, true, false, Ok, refl, sym}
use Rattle.std.proofs.Common.{ap, append_assoc, arith, map, take, length, nat_lt, length-append}
use Rattle.std.proofs.lemmas.List.{append-nil}
use Rattle.std.proofs.lemmas.Slice.Eq.{bytes_eq-Decides}
use Rattle.auction_terms.specs.declared.Entry.{Entry}
use Rattle.auction_terms.specs.declared.Reply.{Reply}
use Rattle.auction_terms.specs.Auxiliary.RunningAuction.{RunningAuction, auction_after_call, opened_auction}
use Rattle.auction_terms.specs.Day.{call_of, calls_of, opening_state, replies_from, state_after, step}
use Rattle.order_file.specs.File.{within_limit}
use Rattle.printed_lines.specs.ReplyWords.{reply_text}
use Rattle.journal.specs.EntryRecord.{call_part, reply_part}
use Rattle.journal.specs.JournalFile.{RecordedDay, journal, journal_of, recorded_day}
use Rattle.journal.specs.JournalText.{journal_text, recorded_call_by}
use Rattle.journal.specs.PrintedJournal.{call_lines, day_line}
use Rattle.journal.specs.declared.day.DayHeader.{DayHeader}
use Rattle.journal.specs.declared.reading.TheConstants.{MAX_JOURNAL_BYTES}
use Rattle.journal.proofs.JournalSizeLaws.{reads-history}
use Rattle.journal.proofs.JournalTextLaws.{text-by-lines}
use Rattle.journal_file.specs.Committed.{HasShortLines, committed, joined}
use Rattle.journal_file.specs.declared.committed.TheConstants.{LONGEST_WRITE}
use Rattle.journal_file.proofs.LineTexts.{committed-lines, first_lines}
use Rattle.live_session.specs.JournaledPromises.{AreWholeLines, LawfulIsGoneOnWith, LeavesFirstEntries}
use Rattle.live_session.specs.Replayed.{replayed}
use Rattle.live_session.proofs.LookLaws.{after_each, after-each-is, at-behind}
use Rattle.live_session.proofs.PrintableLineLaws.{calls-text, day-in-line, day_inside, each-in-line, first-insides}
use Rattle.live_session.proofs.PrintableLineLaws.{in-lines, insides, day-short, day-text, each-short, first-and-more}
use Rattle.live_session.proofs.PrintableLineLaws.{first-and-more-short, insides-both}

-- ---- whole lines

-- a journal as the text of its lines
as-lines : (day : DayHeader) (entries : List Entry)
    → journal_text day entries ≡ joined (day_inside day ∷ insides entries)
as-lines day entries =
    text-by-lines day entries
    ∙ ap (λ (t : List ℕ). t ++ call_lines 0 entries) (day-text day)
    ∙ ap (λ (t : List ℕ). joined (day_inside day ∷ []) ++ t) (calls-text 0 entries)
    ∙ append_assoc (day_inside day) (10 ∷ []) (joined (insides entries))

pub are-whole : AreWholeLines
are-whole day entries fits h =
    rw (as-lines day entries) (committed-lines (day_inside day ∷ insides entries)
    (first-and-more (day_inside day) (insides entries) (day-in-line day) (in-lines day.members entries h)))

-- one that begins
pub day-lines : (day : DayHeader) (text : List ℕ) → text ≡ journal_text day [] → HasShortLines text
day-lines day text is = record {
  lines = day_inside day ∷ insides [];
  is = is ∙ as-lines day [];
  inside = first-and-more (day_inside day) (insides []) (day-in-line day) (each-in-line [] tt);
  short = first-and-more-short (day_inside day) (insides []) (day-short day) (each-short [] tt);
}

pub day-few : (day : DayHeader) → length (journal_text day []) ≤ LONGEST_WRITE
unfolding call_lines
day-few day =
    omega (
      arith,
      day-short day,
      ap length (text-by-lines day [] ∙ append-nil (day_line day)),
      ap length (day-text day),
      length-append (day_inside day) (10 ∷ []),
    )

-- ---- the first of them

texts-both : (xs ys : List (List ℕ)) → joined (xs ++ ys) ≡ joined xs ++ joined ys
texts-both [] ys = refl
texts-both (x ∷ xs) ys = rw (texts-both xs ys) (sym (append_assoc x (10 ∷ joined xs) (joined ys)))

journal-both : (day : DayHeader) (before more : List Entry)
    → journal_text day before ++ joined (insides more) ≡ journal_text day (before ++ more)
journal-both day before more =
    rw (as-lines day before, as-lines day (before ++ more), insides-both before more)
    (sym (texts-both (day_inside day ∷ insides before) (insides more)))

pub leaves-first : LeavesFirstEntries
leaves-first day before entries file fits h begun =
    let lines = first_lines (insides entries) (in-lines day.members entries h) begun.0 in (
      lines.0,
      begun.1.0 ∙ ap (λ (t : List ℕ). journal_text day before ++ committed (take begun.0 t)) (calls-text 0 entries)
          ∙ ap (λ (t : List ℕ). journal_text day before ++ t)
          (lines.1 ∙ ap joined (first-insides lines.0 entries))
          ∙ journal-both day before (take lines.0 entries),
    )

-- ---- a lawful history, applied again

first-reply : (d : Reply) (xs : List Reply) → Reply
first-reply d [] = d
first-reply d (x ∷ xs) = x

replies-behind : List Reply → List Reply
replies-behind [] = []
replies-behind (x ∷ xs) = xs

replays-from : (front : List (List ℕ)) (auction : RunningAuction) (entries : List Entry)
    → map (λ entry. entry.reply) entries ≡ replies_from auction.config auction.state (calls_of entries)
    → replayed (length front) (front ++ map reply_part (map recorded_call_by entries)) auction
    (map call_part (map recorded_call_by entries))
    ≡ Ok (after_each auction (calls_of entries))
unfolding replayed after_each first-reply replies-behind
replays-from front auction [] h = refl
replays-from front auction (e ∷ es) h =
    let next = auction_after_call auction (call_of e) in
    let rest = map reply_part (map recorded_call_by es) in
    let same : e.reply ≡ (step auction.config auction.state (call_of e)).1 = ap (first-reply e.reply) h in
    let tail = ap replies-behind h in
    let size : length front + 1 ≡ length (front ++ reply_text e.reply ∷ []) =
    omega (arith, length-append front (reply_text e.reply ∷ [])) in
    let more = replays-from (front ++ reply_text e.reply ∷ []) next es tail in
    rw (
      at-behind front (reply_text e.reply) rest,
      ← same,
      (bytes_eq-Decides (reply_text e.reply) (reply_text e.reply)).1 refl,
      size,
      ← append_assoc front (reply_text e.reply ∷ []) rest,
    ) more

journal-read : (bytes : List ℕ) (j : RecordedDay) → journal bytes ≡ Ok j → journal_of bytes ≡ Ok j
unfolding journal within_limit
journal-read bytes j e = by_less (nat_lt MAX_JOURNAL_BYTES (length bytes)) refl e
  where
    by_less : (b : Bool) → nat_lt MAX_JOURNAL_BYTES (length bytes) ≡ b → journal bytes ≡ Ok j → journal_of bytes ≡ Ok j
    by_less true t q = cc (rw t at q)
    by_less false t q = rw t at q

pub is-gone-on : LawfulIsGoneOnWith
is-gone-on day entries fits h legal = record {
  recording = recorded_day day (map recorded_call_by entries);
  read = journal-read (journal_text day entries) _ (reads-history day entries fits h legal.few);
  day_is = refl;
  replays =
      replays-from [] (opened_auction day.config) entries legal.replies
      ∙ ap Ok (after-each-is (opened_auction day.config) (calls_of entries)
      ∙ ap (λ (n : ℕ). record {
        config = day.config;
        state = state_after day.config (opening_state day.config) (calls_of entries);
        calls = n;
      }) (omega arith));
}
