-- What a session owes to the device that it talks with.
use Rattle.std.specs.Prelude.{◌≡◌, ◌<◌, ◌≤◌, ◌⊎◌, ℕ, ◌+◌, List, ◌++◌, length, Option, IfSome, Result, Ok, Err}
use Rattle.std.specs.Io.KnownBytes.{Appends, Consumes}
use Rattle.byte_streams.specs.Streams.{AppendsBeginning}
use Rattle.auction_terms.specs.Auxiliary.RunningAuction.{RunningAuction}
use Rattle.journal.specs.PrintedJournal.{call_lines}
use Rattle.live_session.specs.Answered.{Answered, answered, answered_whole, ending_of}
use Rattle.live_session.specs.declared.conversation.Conversation.{Ghosts}
use Rattle.live_session.specs.declared.fault.Ending.{Ending}
use Rattle.live_session.specs.declared.fault.LiveFault.{LiveFault}
use Rattle.live_session.specs.declared.fault.LiveFault.TheVariants as fault
use Rattle.live_session.specs.declared.run.TheConstants.{ROOM_OF_A_READ}
use Rattle.live_session.specs.declared.terms.SessionTerms.{SessionTerms}

-- It is the device of before, of which these bytes were read since.
pub record HasRead {C : Type 0} (c : Ghosts C) (old new : C) (heard : List ℕ) : Type 0 where
  pub same : c.Becomes old new
  pub read : Consumes (c.left old) (c.left new) heard

-- these answers are written, and the entries among them were committed
pub record HasAnswered {C : Type 0} (c : Ghosts C) (old new : C) (answers : Answered) : Type 0 where
  pub text : Appends (c.written old) (c.written new) answers.text
  pub entries : Appends (c.committed old) (c.committed new) (call_lines 0 answers.entries)
  pub writes : c.write_failures new ≡ c.write_failures old
  pub commits : c.commit_failures new ≡ c.commit_failures old

-- Each line that has come is answered: the device may be read.
pub record IsAnswered {C : Type 0} (c : Ghosts C) (terms : SessionTerms) (start : RunningAuction) (old new : C) : Type 0
  where
    pub heard : List ℕ
    pub device : HasRead c old new heard
    pub answered : HasAnswered c old new (answered terms start heard)
    pub reads : c.read_failures new ≡ c.read_failures old

-- the answers to what has come, or to all of an input that has ended so
abbrev pub IsAnswerTo : SessionTerms → RunningAuction → List ℕ → Answered → Type 0
IsAnswerTo terms start heard answers =
    (answers ≡ answered terms start heard) ⊎ (answers ≡ answered_whole terms start heard)

-- The text is the last of the answers to what has come, and the entries among these are committed: it may be written.
pub record MayBeWritten {C : Type 0} (c : Ghosts C) (terms : SessionTerms) (start : RunningAuction) (old new : C)
    (text : List ℕ) : Type 0 where
  pub heard : List ℕ
  pub device : HasRead c old new heard
  pub answers : Answered
  pub answers_are : IsAnswerTo terms start heard answers
  pub entries : Appends (c.committed old) (c.committed new) (call_lines 0 answers.entries)
  pub given : List ℕ
  pub text_is : given ++ text ≡ answers.text
  pub written : Appends (c.written old) (c.written new) given
  pub commits : c.commit_failures new ≡ c.commit_failures old

-- The input has ended, and each of its lines is answered.
pub record IsDone {C : Type 0} (c : Ghosts C) (terms : SessionTerms) (start : RunningAuction) (old new : C)
    (ending : Ending) : Type 0 where
  pub heard : List ℕ
  pub device : HasRead c old new heard
  pub all : IfSome (c.left old) (λ input. input ≡ heard)
  pub answered : HasAnswered c old new (answered_whole terms start heard)
  pub reads : c.read_failures new ≡ c.read_failures old
  pub ending_is : ending ≡ ending_of (answered_whole terms start heard).faults

-- a read failed, after all that had come was answered
pub record EndsAtFailedRead {C : Type 0} (c : Ghosts C) (terms : SessionTerms) (start : RunningAuction) (old new : C)
    : Type 0 where
  pub heard : List ℕ
  pub device : HasRead c old new heard
  pub answered : HasAnswered c old new (answered terms start heard)
  pub reads : c.read_failures new ≡ c.read_failures old + 1

-- known bytes grew by all of the first text, and by no more than a beginning of the second
abbrev pub AppendsBetween : Option (List ℕ) → Option (List ℕ) → List ℕ → List ℕ → Type 0
AppendsBetween old new least most = (done : List ℕ) × (more : List ℕ) × (rest : List ℕ) × (least ++ more ≡ done)
    × (done ++ rest ≡ most) × Appends old new done

-- known bytes grew by all of this text, and perhaps by more
abbrev pub AppendsAtLeast : Option (List ℕ) → Option (List ℕ) → List ℕ → Type 0
AppendsAtLeast old new least = (more : List ℕ) × Appends old new (least ++ more)

-- What was written begins these answers, whose entries are all committed: no answer was written before its entry was.
pub record HasCommittedFirst {C : Type 0} (c : Ghosts C) (old new : C) (answers : Answered) : Type 0 where
  pub text : AppendsBeginning (c.written old) (c.written new) answers.text
  pub entries : AppendsAtLeast (c.committed old) (c.committed new) (call_lines 0 answers.entries)

-- The session broke off while it answered what its last read had brought, `last`. All that had come before is
-- answered, and of the rest a beginning, of which the entries are committed.
pub record HasBrokenOff {C : Type 0} (c : Ghosts C) (terms : SessionTerms) (start : RunningAuction) (old new : C)
    : Type 0
  where
    pub before : List ℕ
    pub last : List ℕ
    pub short : length last ≤ ROOM_OF_A_READ
    pub device : HasRead c old new (before ++ last)
    pub text : AppendsBetween (c.written old) (c.written new) (answered terms start before).text
        (answered_whole terms start (before ++ last)).text
    pub entries : AppendsBetween (c.committed old) (c.committed new)
        (call_lines 0 (answered terms start before).entries)
        (call_lines 0 (answered_whole terms start (before ++ last)).entries)
    pub answers : Answered
    pub answers_are : IsAnswerTo terms start before answers ⊎ IsAnswerTo terms start (before ++ last) answers
    pub committed_first : HasCommittedFirst c old new answers
    pub reads : c.read_failures new ≡ c.read_failures old

-- what came of a session on this auction
abbrev pub EndsSession : {C : Type 0} → Ghosts C → SessionTerms → RunningAuction → C → C → Result Ending LiveFault
    → Type 0
EndsSession c terms start old new (Ok ending) = IsDone c terms start old new ending
EndsSession c terms start old new (Err fault.ReadFailed) = EndsAtFailedRead c terms start old new
EndsSession c terms start old new (Err fault.WriteFailed) = HasBrokenOff c terms start old new
    × (c.write_failures old < c.write_failures new) × (c.commit_failures new ≡ c.commit_failures old)
EndsSession c terms start old new (Err fault.CommitFailed) = HasBrokenOff c terms start old new
    × (c.write_failures new ≡ c.write_failures old) × (c.commit_failures old < c.commit_failures new)
EndsSession c terms start old new (Err fault.NoMemory) = HasBrokenOff c terms start old new
    × (c.write_failures new ≡ c.write_failures old) × (c.commit_failures new ≡ c.commit_failures old)
