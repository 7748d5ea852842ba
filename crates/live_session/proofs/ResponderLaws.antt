-- Answers to more and more lines.
use Rattle.std.proofs.Common.{◌≡◌, ◌≢◌, ◌+◌, ℕ, List, [], ◌∷◌, ◌++◌, Option, Some, None, Bool, true, false, Result, Ok}
use Rattle.std.proofs.Common.{Err, refl, ap, sym, subst, append_assoc, ◌∙◌}
use Rattle.std.specs.Prelude.{OnOk}
use Rattle.std.proofs.lemmas.List.{append-nil}
use Rattle.auction_terms.specs.declared.Call.{Call}
use Rattle.auction_terms.specs.declared.Entry.{Entry}
use Rattle.auction_terms.specs.Auxiliary.RunningAuction.{RunningAuction}
use Rattle.csv.specs.Reading.{default_config, records, strip_bom}
use Rattle.order_file.specs.declared.fault.RecordFault.{RecordFault}
use Rattle.auction_views.specs.View.{is_view, view_of}
use Rattle.auction_views.specs.declared.view.View.{View}
use Rattle.input_hints.specs.declared.hint.Hint.{Hint}
use Rattle.journal.specs.PrintedJournal.{call_line, call_lines}
use Rattle.live_session.specs.Answered.{Answered, after_input_end, after_line, after_line_by, after_lines, after_record}
use Rattle.live_session.specs.Answered.{after_records, answer_by, answer_call, answer_view, answered, answered_lines}
use Rattle.live_session.specs.Answered.{answered_whole, cause_of, ending_of, refused_with, answered_by_view, line_fault}
use Rattle.live_session.specs.Answered.{live_call, nothing_yet, refused, replied}
use Rattle.live_session.specs.Gathered.{AddsAnswers, Gathers}
use Rattle.live_session.specs.InputLines.{Lines, is_line_end, line_ended, lines_once_read, lines_of, next_byte}
use Rattle.live_session.specs.InputLines.{no_lines, text_of_record}
use Rattle.live_session.specs.declared.fault.BadRecord.{BadRecord}
use Rattle.live_session.specs.declared.fault.BadRecord.TheVariants as bad
use Rattle.live_session.specs.declared.fault.Ending.TheVariants.{SomeBad}
use Rattle.live_session.specs.declared.responder.Responder.{Responder}
use Rattle.live_session.specs.declared.terms.SessionTerms.{SessionTerms}
use Rattle.live_session.proofs.InputLineLaws.{lines-append}
use Rattle.order_file.proofs.RowLaws.{records_from-done}
use Rattle.live_session.specs.UnquotedLines.{HasNone, fields_of_line, is_mark}
use Rattle.live_session.proofs.UnquotedLineLaws.{line-record}
use Rattle.live_session.proofs.RecordTextLaws.{IsClosed, line-end-first, records-then}

-- ---- records and lines, and then others

pub after-both : (terms : SessionTerms) (a : Answered) (xs ys : List (List (List ℕ)))
    → after_records terms a (xs ++ ys) ≡ after_records terms (after_records terms a xs) ys
unfolding after_records
after-both terms a [] ys = refl
after-both terms a (x ∷ xs) ys = after-both terms (after_record terms a x) xs ys

pub lines-both : (terms : SessionTerms) (a : Answered) (xs ys : List (List ℕ))
    → after_lines terms a (xs ++ ys) ≡ after_lines terms (after_lines terms a xs) ys
unfolding after_lines
lines-both terms a [] ys = refl
lines-both terms a (x ∷ xs) ys = lines-both terms (after_line terms a x) xs ys

one-line : (terms : SessionTerms) (a : Answered) (line : List ℕ)
    → after_lines terms a (line ∷ []) ≡ after_line terms a line
unfolding after_lines
one-line terms a line = refl

-- one more line has ended
pub line-answered : (terms : SessionTerms) (start : RunningAuction) (lines : Lines)
    → answered_lines terms start (line_ended lines) ≡ after_line terms (answered_lines terms start lines) lines.at_hand
line-answered terms start lines =
    lines-both terms (nothing_yet start) lines.ended (lines.at_hand ∷ [])
    ∙ one-line terms (answered_lines terms start lines) lines.at_hand

pub line-refused : (terms : SessionTerms) (start : RunningAuction) (lines : Lines) (fault : BadRecord)
    → line_fault lines.at_hand ≡ Some fault
    → answered_lines terms start (line_ended lines) ≡ refused (answered_lines terms start lines) fault
line-refused terms start lines fault is =
    line-answered terms start lines ∙ ap (after_line_by terms (answered_lines terms start lines) lines.at_hand) is

pub line-read : (terms : SessionTerms) (start : RunningAuction) (lines : Lines) → line_fault lines.at_hand ≡ None
    → answered_lines terms start (line_ended lines)
    ≡ after_records terms (answered_lines terms start lines) (records default_config (text_of_record lines.at_hand))
line-read terms start lines is =
    line-answered terms start lines ∙ ap (after_line_by terms (answered_lines terms start lines) lines.at_hand) is

-- ---- lines that wait

-- those after a line end
pub waiting-answered : (terms : SessionTerms) (start : RunningAuction) (lines : Lines) (applied : Answered)
    (items text : List ℕ)
    → items ≡ 10 ∷ text → after_records terms applied (records default_config text) ≡ answered_lines terms start lines
    → after_records terms applied (records default_config (strip_bom items)) ≡ answered_lines terms start lines
waiting-answered terms start lines applied items text is answers =
    ap (λ (x : List ℕ). after_records terms applied (records default_config (strip_bom x))) is
    ∙ ap (after_records terms applied) (line-end-first text) ∙ answers

-- none
pub none-waiting : (terms : SessionTerms) (a : Answered) → records default_config [] ≡ []
    → after_records terms a (records default_config []) ≡ a
unfolding after_records
none-waiting terms a none = rw none refl

-- one more
pub waiting-more : (terms : SessionTerms) (start : RunningAuction) (lines : Lines) (applied : Answered) (text : List ℕ)
    → IsClosed text → after_records terms applied (records default_config text) ≡ answered_lines terms start lines
    → line_fault lines.at_hand ≡ None
    → after_records terms applied (records default_config (text ++ text_of_record lines.at_hand))
    ≡ answered_lines terms start (line_ended lines)
waiting-more terms start lines applied text closed answers good =
    ap (after_records terms applied) (records-then text (text_of_record lines.at_hand) closed)
    ∙ after-both terms applied (records default_config text) (records default_config (text_of_record lines.at_hand))
    ∙ ap (λ (a : Answered). after_records terms a (records default_config (text_of_record lines.at_hand))) answers
    ∙ sym (line-read terms start lines good)

-- ---- a line without quotes

-- a blank one
pub blank-answered : (terms : SessionTerms) (a : Answered) (line : List ℕ) → line ≡ []
    → a ≡ after_records terms a (records default_config (line ++ 10 ∷ []))
unfolding after_records strip_bom
blank-answered terms a line blank =
    sym (ap (λ (x : List ℕ). after_records terms a (records default_config (x ++ 10 ∷ []))) blank
    ∙ ap (after_records terms a) (line-end-first [] ∙ records_from-done default_config 1))

-- any other one
pub plain-answered : (terms : SessionTerms) (a : Answered) (line : List ℕ) → line ≢ [] → HasNone is_mark line
    → after_record terms a (fields_of_line line) ≡ after_records terms a (records default_config (line ++ 10 ∷ []))
unfolding after_records
plain-answered terms a [] some none = absurd (some refl)
plain-answered terms a (b ∷ bs) some none = sym (ap (after_records terms a) (line-record b bs none))

-- ---- some answers come before others

pub record IsBeginningOf (first all : Answered) : Type 0 where
  pub text : (more : List ℕ) × (first.text ++ more ≡ all.text)
  pub entries : (more : List Entry) × (first.entries ++ more ≡ all.entries)

pub begins-same : (a : Answered) → IsBeginningOf a a
begins-same a = record { text = ([], append-nil a.text); entries = ([], append-nil a.entries) }

pub begins-on : (a b c : Answered) → IsBeginningOf a b → IsBeginningOf b c → IsBeginningOf a c
begins-on a b c h k = record {
  text = (
    h.text.0 ++ k.text.0,
    sym (append_assoc a.text h.text.0 k.text.0) ∙ ap (λ (t : List ℕ). t ++ k.text.0) h.text.1 ∙ k.text.1,
  );
  entries = (
    h.entries.0 ++ k.entries.0,
    sym (append_assoc a.entries h.entries.0 k.entries.0) ∙ ap (λ (t : List Entry). t ++ k.entries.0) h.entries.1
        ∙ k.entries.1,
  );
}

begins-replied : (a : Answered) (call : Call) → IsBeginningOf a (replied a call)
begins-replied a call = record { text = (_, refl); entries = (_, refl) }

begins-refused-with : (a : Answered) (f : BadRecord) (cause : Option Hint) → IsBeginningOf a (refused_with a f cause)
begins-refused-with a f cause = record { text = (_, refl); entries = ([], append-nil a.entries) }

begins-refused : (a : Answered) (f : BadRecord) → IsBeginningOf a (refused a f)
begins-refused a f = begins-refused-with a f None

begins-answered_by_view : (a : Answered) (view : View) → IsBeginningOf a (answered_by_view a view)
begins-answered_by_view a view = record { text = (_, refl); entries = ([], append-nil a.entries) }

begins-view : (a : Answered) (r : Result View RecordFault) → IsBeginningOf a (answer_view a r)
begins-view a (Ok view) = begins-answered_by_view a view
begins-view a (Err f) = begins-refused a (bad.Malformed f)

begins-call : (terms : SessionTerms) (a : Answered) (fields : List (List ℕ)) (r : Result Call BadRecord)
    → IsBeginningOf a (answer_call terms a fields r)
begins-call terms a fields (Ok call) = begins-replied a call
begins-call terms a fields (Err f) = begins-refused-with a f (cause_of terms a.auction (a.records + 1) fields f)

begins-answer : (terms : SessionTerms) (a : Answered) (fields : List (List ℕ)) (is : Bool)
    → IsBeginningOf a (answer_by terms a fields is)
begins-answer terms a fields true = begins-view a (view_of terms.members fields)
begins-answer terms a fields false = begins-call terms a fields (live_call terms a.auction fields)

begins-records : (terms : SessionTerms) (a : Answered) (rs : List (List (List ℕ)))
    → IsBeginningOf a (after_records terms a rs)
unfolding after_records
begins-records terms a [] = begins-same a
begins-records terms a (r ∷ rs) =
    begins-on _ _ _ (begins-answer terms a r (is_view r)) (begins-records terms (after_record terms a r) rs)

begins-line-by : (terms : SessionTerms) (a : Answered) (line : List ℕ) (f : Option BadRecord)
    → IsBeginningOf a (after_line_by terms a line f)
begins-line-by terms a line (Some f) = begins-refused a f
begins-line-by terms a line None = begins-records terms a (records default_config (text_of_record line))

begins-lines : (terms : SessionTerms) (a : Answered) (ls : List (List ℕ)) → IsBeginningOf a (after_lines terms a ls)
unfolding after_lines
begins-lines terms a [] = begins-same a
begins-lines terms a (l ∷ ls) =
    begins-on _ _ _ (begins-line-by terms a l (line_fault l)) (begins-lines terms (after_line terms a l) ls)

begins-end : (a : Answered) (line : List ℕ) → IsBeginningOf a (after_input_end a line)
begins-end a [] = begins-same a
begins-end a (b ∷ bs) = begins-refused a bad.CutOff

-- the lines that have ended stay the first
ended-first : (lines : Lines) (bytes : List ℕ) → (more : List (List ℕ))
    × (lines.ended ++ more ≡ (lines_once_read lines bytes).ended)
unfolding lines_once_read
ended-first lines [] = ([], append-nil lines.ended)
ended-first lines (b ∷ bs) = by_line_end (is_line_end b) refl (ended-first (next_byte lines b) bs)
  where
    by_line_end : (x : Bool) → is_line_end b ≡ x
        → (more : List (List ℕ)) × ((next_byte lines b).ended ++ more ≡ (lines_once_read (next_byte lines b) bs).ended)
        → (more : List (List ℕ)) × (lines.ended ++ more ≡ (lines_once_read (next_byte lines b) bs).ended)
    by_line_end true e (more, is) =
        let here : (next_byte lines b).ended ≡ lines.ended ++ lines.at_hand ∷ [] = rw e refl in (
          lines.at_hand ∷ more,
          sym (append_assoc lines.ended (lines.at_hand ∷ []) more)
              ∙ ap (λ (x : List (List ℕ)). x ++ more) (sym here) ∙ is,
        )
    by_line_end false e (more, is) =
        let here : (next_byte lines b).ended ≡ lines.ended = rw e refl in
        (more, ap (λ (x : List (List ℕ)). x ++ more) (sym here) ∙ is)

-- the answers to what has come are the first of those to more
pub begins-more : (terms : SessionTerms) (start : RunningAuction) (heard bytes : List ℕ)
    → IsBeginningOf (answered terms start heard) (answered terms start (heard ++ bytes))
begins-more terms start heard bytes =
    let (more, is) = ended-first (lines_of heard) bytes in
    subst (IsBeginningOf (answered terms start heard))
    (sym (lines-both terms (nothing_yet start) (lines_of heard).ended more)
    ∙ ap (after_lines terms (nothing_yet start))
    (is ∙ ap (λ (l : Lines). l.ended) (sym (lines-append no_lines heard bytes))))
    (begins-lines terms (answered terms start heard) more)

-- and so of those to the whole
pub begins-whole : (terms : SessionTerms) (start : RunningAuction) (heard : List ℕ)
    → IsBeginningOf (answered terms start heard) (answered_whole terms start heard)
begins-whole terms start heard = begins-end (answered terms start heard) (lines_of heard).at_hand

pub begins-all : (terms : SessionTerms) (start : RunningAuction) (heard bytes : List ℕ)
    → IsBeginningOf (answered terms start heard) (answered_whole terms start (heard ++ bytes))
begins-all terms start heard bytes =
    begins-on _ _ _ (begins-more terms start heard bytes) (begins-whole terms start (heard ++ bytes))

-- ---- the lines of entries

lines-alike : (n m : ℕ) (es : List Entry) → call_lines n es ≡ call_lines m es
unfolding call_lines
lines-alike n m [] = refl
lines-alike n m (e ∷ es) = ap (λ (t : List ℕ). call_line e ++ t) (lines-alike (n + 1) (m + 1) es)

pub entries-both : (n m : ℕ) (xs ys : List Entry) → call_lines n (xs ++ ys) ≡ call_lines n xs ++ call_lines m ys
unfolding call_lines
entries-both n m [] ys = lines-alike n m ys
entries-both n m (x ∷ xs) ys =
    ap (λ (t : List ℕ). call_line x ++ t) (entries-both (n + 1) m xs ys)
    ∙ sym (append_assoc (call_line x) (call_lines (n + 1) xs) (call_lines m ys))

-- of answers that begin others the lines of entries begin theirs
pub entries-begin : (a b : Answered) → IsBeginningOf a b
    → (more : List ℕ) × (call_lines 0 a.entries ++ more ≡ call_lines 0 b.entries)
entries-begin a b h = (
  call_lines 0 h.entries.0,
  sym (entries-both 0 0 a.entries h.entries.0) ∙ ap (call_lines 0) h.entries.1,
)

-- ---- record by record

-- no record is left
pub rows-end : (terms : SessionTerms) (now wanted : Answered) (rows : List (List (List ℕ)))
    → after_records terms now rows ≡ wanted → rows ≡ [] → now ≡ wanted
unfolding after_records
rows-end terms now wanted rows same none = (rw none at same)

-- one more is answered
pub rows-next : (terms : SessionTerms) (now wanted : Answered) (rows rs : List (List (List ℕ))) (r : List (List ℕ))
    → after_records terms now rows ≡ wanted → rows ≡ r ∷ rs → after_records terms (after_record terms now r) rs ≡ wanted
unfolding after_records
rows-next terms now wanted rows rs r same is = (rw is at same)

-- a bad record makes the ending bad
pub ending-bad : (faults : List BadRecord) (fault : BadRecord) → SomeBad ≡ ending_of (faults ++ fault ∷ [])
ending-bad [] fault = refl
ending-bad (f ∷ fs) fault = refl

-- ---- the same answers, said otherwise

pub adds-as : {E : Type 0} (old new : Responder) (result : Result (Unit {0}) E)
    (after same : SessionTerms → Answered → Answered)
    → ((terms : SessionTerms) (so_far : Answered) → old.terms ≡ terms → old.auction ≡ so_far.auction
    → old.records ≡ so_far.records → after terms so_far ≡ same terms so_far)
    → AddsAnswers old new after result → AddsAnswers old new same result
adds-as old new result after same is adds = λ terms so_far given committed h.
    subst (λ (a : Answered). OnOk result (Gathers new terms a given committed))
    (is terms so_far h.terms_are h.auction h.records_are) (adds terms so_far given committed h)
