-- What has come of an input.
use Rattle.std.specs.Prelude.{◌≡◌, ◌+◌, ℕ, List, [], ◌∷◌, take, false, Some, None, Result, OnOk}
use Rattle.auction_terms.specs.declared.Entry.{Entry}
use Rattle.auction_terms.specs.Auxiliary.RunningAuction.{RunningAuction}
use Rattle.csv.specs.Reading.{default_config, records}
use Rattle.live_session.specs.Answered.{Answered, after_input_end, after_records, answered_lines, line_fault}
use Rattle.live_session.specs.Gathered.{Gathers}
use Rattle.live_session.specs.Giving.{IsNew}
use Rattle.live_session.specs.InputLines.{Lines, is_record_open, line_ended, line_longer}
use Rattle.live_session.specs.declared.fault.BadRecord.{BadRecord}
use Rattle.live_session.specs.declared.line.TheConstants.{MAX_RECORD_BYTES}
use Rattle.live_session.specs.declared.session.Session.{Session}
use Rattle.live_session.specs.declared.terms.SessionTerms.{SessionTerms}

-- These lines have come. Whole ones among them may be waiting to be answered, after a line end, before which no byte
-- order mark is looked for.
pub record HasHeard (session : Session) (terms : SessionTerms) (start : RunningAuction) (lines : Lines) (given : List ℕ)
    (committed : List Entry) : Type 0 where
  pub applied : Answered
  pub gathers : Gathers session.responder terms applied given committed
  pub text : List ℕ
  pub waiting : session.waiting.items ≡ 10 ∷ text
  pub closed : is_record_open text ≡ false
  pub answers : after_records terms applied (records default_config text) ≡ answered_lines terms start lines
  pub line : session.line.items ≡ take (MAX_RECORD_BYTES + 1) lines.at_hand

-- more lines come
abbrev pub HearsLines : {E : Type 0} → Session → Session → (Lines → Lines) → Result (Unit {0}) E → Type 0
HearsLines old new after result =
    (terms : SessionTerms) (start : RunningAuction) (lines : Lines) (given : List ℕ) (committed : List Entry)
    → HasHeard old terms start lines given committed
    → OnOk result (HasHeard new terms start (after lines) given committed)

-- of these lines each that has ended is answered
pub record HasAnsweredAll (session : Session) (terms : SessionTerms) (start : RunningAuction) (lines : Lines)
    (given : List ℕ)
    (committed : List Entry) : Type 0 where
  pub gathers : Gathers session.responder terms (answered_lines terms start lines) given committed
  pub waiting : session.waiting.items ≡ 10 ∷ []
  pub line : session.line.items ≡ take (MAX_RECORD_BYTES + 1) lines.at_hand

-- more lines come, and all are answered
abbrev pub AnswersAll : {E : Type 0} → Session → Session → (Lines → Lines) → Result (Unit {0}) E → Type 0
AnswersAll old new after result =
    (terms : SessionTerms) (start : RunningAuction) (lines : Lines) (given : List ℕ) (committed : List Entry)
    → HasHeard old terms start lines given committed
    → OnOk result (HasAnsweredAll new terms start (after lines) given committed)

-- the input ends
abbrev pub AnswersEnd : {E : Type 0} → Session → Session → Result (Unit {0}) E → Type 0
AnswersEnd old new result =
    (terms : SessionTerms) (start : RunningAuction) (lines : Lines) (given : List ℕ) (committed : List Entry)
    → HasAnsweredAll old terms start lines given committed
    → OnOk result (Gathers new.responder terms (after_input_end (answered_lines terms start lines) lines.at_hand) given
    committed)

-- a session of which nothing has come
pub record IsNewSession (session : Session) (terms : SessionTerms) (start : RunningAuction) : Type 0 where
  pub responder : IsNew session.responder terms start
  pub waiting : session.waiting.items ≡ 10 ∷ []
  pub line : session.line.items ≡ []

-- a line that isn't read as a record is answered after those before it
abbrev pub RefusesLine : {E : Type 0} → Session → Session → BadRecord → Result (Unit {0}) E → Type 0
RefusesLine old new fault result =
    (line_fault old.line.items ≡ Some fault) → HearsLines old new (λ lines. line_ended lines) result

-- a line that is read as one waits after those before it
abbrev pub KeepsLine : {E : Type 0} → Session → Session → Result (Unit {0}) E → Type 0
KeepsLine old new result = (line_fault old.line.items ≡ None) → HearsLines old new (λ lines. line_ended lines) result

-- a line that is read as one, and of which nothing came before, waits after those before it
abbrev pub KeepsWhole : {E : Type 0} → Session → Session → List ℕ → Result (Unit {0}) E → Type 0
KeepsWhole old new line result = (old.line.items ≡ []) → (line_fault line ≡ None)
    → HearsLines old new (λ lines. line_ended (line_longer line lines)) result
