-- An input that is answered line by line.
use Rattle.std.proofs.Common.{◌≡◌, ◌≢◌, ◌+◌, ℕ, List, [], ◌∷◌, ◌++◌, take, drop, Some, None, Bool, true, false}
use Rattle.std.proofs.Common.{refl, ap, sym, subst, append_assoc, arith, length, ◌∙◌}
use Rattle.std.specs.Prelude.{Result, Ok, Err, OnOk, slice_index}
use Rattle.auction_terms.specs.declared.Entry.{Entry}
use Rattle.auction_terms.specs.Auxiliary.RunningAuction.{RunningAuction}
use Rattle.csv.specs.Reading.{default_config, records, strip_bom}
use Rattle.order_file.proofs.RowLaws.{records_from-done}
use Rattle.live_session.specs.Answered.{Answered, after_input_end, after_records, answered_lines, line_fault, refused}
use Rattle.live_session.specs.Gathered.{Gathers}
use Rattle.live_session.specs.Hearing.{HasAnsweredAll, HasHeard}
use Rattle.live_session.specs.InputLines.{IsFirstLineEnd, Lines, is_quote_open, is_too_long, line_ended, line_longer}
use Rattle.live_session.specs.InputLines.{lines_once_read, text_of_record}
use Rattle.live_session.specs.declared.fault.BadRecord.{BadRecord}
use Rattle.live_session.specs.declared.fault.BadRecord.TheVariants as bad
use Rattle.live_session.specs.declared.line.TheConstants.{MAX_RECORD_BYTES}
use Rattle.live_session.specs.declared.responder.Responder.{Responder}
use Rattle.live_session.specs.declared.session.Session.{Session}
use Rattle.live_session.specs.declared.terms.SessionTerms.{SessionTerms}
use Rattle.live_session.proofs.ResponderLaws.{line-refused, none-waiting, waiting-more}
use Rattle.live_session.proofs.InputLineLaws.{held-line, held-none, lines-ended, split-there}
use Rattle.live_session.proofs.RecordTextLaws.{closed-both, closed-none}

-- a line without a fault
pub not-faulty : (line : List ℕ) → line_fault line ≡ None → (is_too_long line ≡ false) × (is_quote_open line ≡ false)
not-faulty line e = by_length (is_too_long line) (is_quote_open line) refl refl
  where
    by_length : (x y : Bool) → is_too_long line ≡ x → is_quote_open line ≡ y → (is_too_long line ≡ false)
        × (is_quote_open line ≡ false)
    by_length true y p q = absurd (cc (rw p at e))
    by_length false true p q = absurd (cc (rw (p, q) at e))
    by_length false false p q = (p, q)

-- a line that isn't read as a record was answered
pub refused-line : (session : Session) (terms : SessionTerms) (start : RunningAuction) (lines : Lines) (given : List ℕ)
    (committed : List Entry) (fault : BadRecord) → line_fault lines.at_hand ≡ Some fault
    → Gathers session.responder terms (refused (answered_lines terms start lines) fault) given committed
    → session.waiting.items ≡ 10 ∷ [] → session.line.items ≡ []
    → HasHeard session terms start (line_ended lines) given committed
refused-line session terms start lines given committed fault is gathers waiting line = record {
  applied = refused (answered_lines terms start lines) fault;
  gathers = gathers;
  text = [];
  waiting = waiting;
  closed = closed-none;
  answers = none-waiting terms _ (records_from-done default_config 1) ∙ sym (line-refused terms start lines fault is);
  line = line;
}

-- a line that is read as one waits, of which this is held
pub kept-line : (old new : Session) (terms : SessionTerms) (start : RunningAuction) (heard lines : Lines)
    (given : List ℕ) (committed : List Entry) (line : List ℕ) → HasHeard old terms start heard given committed
    → answered_lines terms start heard ≡ answered_lines terms start lines
    → line ≡ take (MAX_RECORD_BYTES + 1) lines.at_hand → line_fault line ≡ None → new.responder ≡ old.responder
    → new.waiting.items ≡ (old.waiting.items ++ strip_bom line) ++ 10 ∷ [] → new.line.items ≡ []
    → HasHeard new terms start (line_ended lines) given committed
kept-line old new terms start heard lines given committed line h answered line_is fine same waiting none =
    let held = held-line lines.at_hand in
    let good : line_fault lines.at_hand ≡ None = sym held.fault ∙ ap line_fault (sym line_is) ∙ fine in
    let whole : line ≡ lines.at_hand =
    line_is ∙ held.whole (ap is_too_long (sym line_is) ∙ (not-faulty line fine).0) in
    record {
      applied = h.applied;
      gathers = subst (λ (r : Responder). Gathers r terms h.applied given committed) (sym same) h.gathers;
      text = h.text ++ text_of_record lines.at_hand;
      waiting =
          waiting ∙ ap (λ (x : List ℕ). (x ++ strip_bom line) ++ 10 ∷ []) h.waiting
          ∙ ap (λ (x : List ℕ). ((10 ∷ h.text) ++ strip_bom x) ++ 10 ∷ []) whole
          ∙ append_assoc (10 ∷ h.text) (strip_bom lines.at_hand) (10 ∷ []);
      closed = closed-both h.text (text_of_record lines.at_hand) h.closed (not-faulty lines.at_hand good).1;
      answers = waiting-more terms start lines h.applied h.text h.closed (h.answers ∙ answered) good;
      line = none;
    }

-- a line that came in one piece is all that is at hand, and is held whole
pub whole-line : (at_hand line : List ℕ) → [] ≡ take (MAX_RECORD_BYTES + 1) at_hand → line_fault line ≡ None
    → line ≡ take (MAX_RECORD_BYTES + 1) (at_hand ++ line)
whole-line at_hand line none fine =
    let held = held-line line in
    sym (held.whole (not-faulty (take (MAX_RECORD_BYTES + 1) line) (held.fault ∙ fine)).0)
    ∙ ap (λ (x : List ℕ). take (MAX_RECORD_BYTES + 1) (x ++ line)) (sym (held-none at_hand (sym none)))

no-text : (text : List ℕ) → length (10 ∷ text) ≡ 1 → text ≡ []
no-text [] one = refl
no-text (b ∷ bs) one = absurd (omega arith)

-- where none waits all are answered
pub none-waits : (session : Session) (terms : SessionTerms) (start : RunningAuction) (lines : Lines) (given : List ℕ)
    (committed : List Entry) → HasHeard session terms start lines given committed → length session.waiting.items ≡ 1
    → HasAnsweredAll session terms start lines given committed
none-waits session terms start lines given committed h one =
    let nothing = no-text h.text (ap length (sym h.waiting) ∙ one) in
    let all : h.applied ≡ answered_lines terms start lines =
    sym (none-waiting terms h.applied (records_from-done default_config 1))
    ∙ ap (λ (t : List ℕ). after_records terms h.applied (records default_config t)) (sym nothing) ∙ h.answers in
    record {
      gathers = subst (λ (a : Answered). Gathers session.responder terms a given committed) all h.gathers;
      waiting = h.waiting ∙ ap (λ (t : List ℕ). 10 ∷ t) nothing;
      line = h.line;
    }

-- a line that came in one piece was answered, where no other waits
pub whole-line-answered : {E : Type 0} (result : Result (Unit {0}) E) (old new : Session) (terms : SessionTerms)
    (start : RunningAuction) (lines : Lines) (given : List ℕ) (committed : List Entry) (line record_text : List ℕ)
    → (h : HasHeard old terms start lines given committed) → length old.waiting.items ≡ 1 → old.line.items ≡ []
    → line_fault line ≡ None → record_text ≡ strip_bom line → new.waiting.items ≡ old.waiting.items
    → new.line.items ≡ old.line.items
    → OnOk result (Gathers new.responder terms
    (after_records terms h.applied (records default_config (record_text ++ 10 ∷ []))) given committed)
    → OnOk result (HasHeard new terms start (line_ended (line_longer line lines)) given committed)
whole-line-answered (Err e) old new terms start lines given committed line record_text h one empty fine is same none
    gathers = gathers
whole-line-answered (Ok x) old new terms start lines given committed line record_text h one empty fine is same none
    gathers =
    let now = line_longer line lines in
    let nothing = no-text h.text (ap length (sym h.waiting) ∙ one) in
    let line_is = whole-line lines.at_hand line (sym empty ∙ h.line) fine in
    let held = held-line now.at_hand in
    let good : line_fault now.at_hand ≡ None = sym held.fault ∙ ap line_fault (sym line_is) ∙ fine in
    let whole : line ≡ now.at_hand =
    line_is ∙ held.whole (ap is_too_long (sym line_is) ∙ (not-faulty line fine).0) in
    let text : record_text ++ 10 ∷ [] ≡ h.text ++ text_of_record now.at_hand =
    ap (λ (t : List ℕ). t ++ 10 ∷ []) (is ∙ ap strip_bom whole)
    ∙ ap (λ (t : List ℕ). t ++ text_of_record now.at_hand) (sym nothing) in
    record {
      applied = after_records terms h.applied (records default_config (record_text ++ 10 ∷ []));
      gathers = gathers;
      text = [];
      waiting = same ∙ h.waiting ∙ ap (λ (t : List ℕ). 10 ∷ t) nothing;
      closed = closed-none;
      answers =
          none-waiting terms _ (records_from-done default_config 1)
          ∙ ap (λ (t : List ℕ). after_records terms h.applied (records default_config t)) text
          ∙ waiting-more terms start now h.applied h.text h.closed h.answers good;
      line = none ∙ empty;
    }

-- the next line of what is left
pub next-line : (now : Lines) (rest line behind more : List ℕ) (place : ℕ) → IsFirstLineEnd rest (Some place)
    → line ≡ take place rest → behind ≡ drop place rest → more ≡ drop 1 behind
    → lines_once_read (line_ended (line_longer line now)) more ≡ lines_once_read now rest
next-line now rest line behind more place h line_is behind_is more_is =
    let more_same : more ≡ drop 1 (drop place rest) = more_is ∙ ap (drop 1) behind_is in
    ap (λ (x : List ℕ). lines_once_read (line_ended (line_longer x now)) more) line_is
    ∙ ap (λ (x : List ℕ). lines_once_read (line_ended (line_longer (take place rest) now)) x) more_same
    ∙ sym (lines-ended now (take place rest) (drop 1 (drop place rest)) (slice_index rest place) h.2 h.1)
    ∙ ap (lines_once_read now) (split-there rest place h.0)

-- ---- the line that an input ends in

pub end-blank : (responder : Responder) (terms : SessionTerms) (so_far : Answered) (at_hand items : List ℕ)
    (given : List ℕ)
    (committed : List Entry) → items ≡ take (MAX_RECORD_BYTES + 1) at_hand → items ≡ []
    → Gathers responder terms so_far given committed
    → Gathers responder terms (after_input_end so_far at_hand) given committed
end-blank responder terms so_far at_hand items given committed held none gathers =
    rw (held-none at_hand (sym held ∙ none)) gathers

open-end : (so_far : Answered) (at_hand : List ℕ) → at_hand ≢ []
    → after_input_end so_far at_hand ≡ refused so_far bad.CutOff
open-end so_far [] some = absurd (some refl)
open-end so_far (b ∷ bs) some = refl

pub end-open : (so_far : Answered) (at_hand items : List ℕ) → items ≡ take (MAX_RECORD_BYTES + 1) at_hand → items ≢ []
    → refused so_far bad.CutOff ≡ after_input_end so_far at_hand
end-open so_far at_hand items held some =
    sym (open-end so_far at_hand (λ none. some (held ∙ ap (take (MAX_RECORD_BYTES + 1)) none)))

-- ---- a line on a page

pub put-text : (given full page line text : List ℕ) → given ++ (full ++ page) ≡ text
    → given ++ (full ++ (page ++ line)) ≡ text ++ line
put-text given full page line text is =
    ap (λ (x : List ℕ). given ++ x) (sym (append_assoc full page line)) ∙ sym (append_assoc given (full ++ page) line)
    ∙ ap (λ (x : List ℕ). x ++ line) is
