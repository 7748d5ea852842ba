-- A session from turn to turn.
use Rattle.std.proofs.Common.{◌≡◌, ◌≤◌, ◌+◌, ℕ, List, [], ◌++◌, length, Option, Some, None, Ok, Err}
use Rattle.std.proofs.Common.{inl, inr, refl, ap, sym, subst, append_assoc, arith, ◌∙◌}
use Rattle.std.specs.Prelude.{IfSome}
use Rattle.std.proofs.lemmas.List.{append-nil}
use Rattle.std.proofs.KnownBytes.{Appends-nil, Consumes-kept, Consumes-nil, Consumes-trans}
use Rattle.std.specs.Io.KnownBytes.{Appends, Consumes, IsAtEnd, Keeps}
use Rattle.auction_terms.specs.declared.Entry.{Entry}
use Rattle.auction_terms.specs.Auxiliary.RunningAuction.{RunningAuction}
use Rattle.byte_streams.specs.Streams.{AppendsBeginning}
use Rattle.byte_streams.proofs.StreamLaws.{appends-more}
use Rattle.csv.specs.Reading.{default_config}
use Rattle.journal.specs.PrintedJournal.{call_lines}
use Rattle.journal.proofs.KeptLineLaws.{holds-none}
use Rattle.order_file.proofs.RowLaws.{records_from-done}
use Rattle.printed_lines.specs.KeptText.{kept_text}
use Rattle.live_session.specs.Answered.{Answered, after_lines, answered, answered_lines, answered_whole}
use Rattle.live_session.specs.Gathered.{Gathers, IsCommitted}
use Rattle.live_session.specs.Giving.{GivesGathered, HasGiven, IsEmptied, IsUnread}
use Rattle.live_session.specs.Hearing.{HasAnsweredAll, HasHeard, IsNewSession}
use Rattle.live_session.specs.InputLines.{Lines, lines_once_read, lines_of, no_lines}
use Rattle.live_session.specs.Talk.{AppendsAtLeast, AppendsBetween, EndsSession, HasAnswered, HasRead}
use Rattle.live_session.specs.Talk.{IsAnswerTo, MayBeWritten}
use Rattle.live_session.specs.declared.conversation.Conversation.{Ghosts}
use Rattle.live_session.specs.declared.fault.LiveFault.{LiveFault}
use Rattle.live_session.specs.declared.fault.LiveFault.TheVariants as fault
use Rattle.live_session.specs.declared.responder.Responder.{Responder}
use Rattle.live_session.specs.declared.run.TheConstants.{ROOM_OF_A_READ}
use Rattle.live_session.specs.declared.session.Session.{Session}
use Rattle.live_session.specs.declared.terms.SessionTerms.{SessionTerms}
use Rattle.live_session.proofs.ResponderLaws.{IsBeginningOf, begins-all, entries-both, entries-begin, none-waiting}
use Rattle.live_session.proofs.InputLineLaws.{lines-append}
use Rattle.live_session.proofs.RecordTextLaws.{closed-none}

-- ---- between turns

-- all lines that have come are answered
pub record IsReadyToRead {C : Type 0} (c : Ghosts C) (terms : SessionTerms) (start : RunningAuction) (base now : C)
    (session : Session) (heard : List ℕ) : Type 0 where
  pub device : HasRead c base now heard
  pub all : HasAnsweredAll session terms start (lines_of heard) (answered terms start heard).text
      (answered terms start heard).entries
  pub answered : HasAnswered c base now (answered terms start heard)
  pub reads : c.read_failures now ≡ c.read_failures base

-- more has come, and isn't answered
pub record HasJustRead {C : Type 0} (c : Ghosts C) (terms : SessionTerms) (start : RunningAuction) (base now : C)
    (heard bytes : List ℕ) : Type 0 where
  pub device : HasRead c base now (heard ++ bytes)
  pub answered : HasAnswered c base now (answered terms start heard)
  pub reads : c.read_failures now ≡ c.read_failures base
  pub short : length bytes ≤ ROOM_OF_A_READ

-- where all is answered, nothing waits
pub all-heard : (session : Session) (terms : SessionTerms) (start : RunningAuction) (lines : Lines) (given : List ℕ)
    (committed : List Entry) → HasAnsweredAll session terms start lines given committed
    → HasHeard session terms start lines given committed
all-heard session terms start lines given committed h = record {
  applied = answered_lines terms start lines;
  gathers = h.gathers;
  text = [];
  waiting = h.waiting;
  closed = closed-none;
  answers = none-waiting terms (answered_lines terms start lines) (records_from-done default_config 1);
  line = h.line;
}

-- a session that has just begun
no-entry-lines : call_lines 0 [] ≡ []
unfolding call_lines
no-entry-lines = refl

answered-nothing : {C : Type 0} (c : Ghosts C) (terms : SessionTerms) (start : RunningAuction) (base : C)
    → HasAnswered c base base (answered terms start [])
unfolding after_lines lines_once_read
answered-nothing c terms start base = record {
  text = Appends-nil _;
  entries = subst (Appends (c.committed base) (c.committed base)) (sym no-entry-lines) (Appends-nil _);
  writes = refl;
  commits = refl;
}

all-nothing : (terms : SessionTerms) (start : RunningAuction) (session : Session) → IsNewSession session terms start
    → HasAnsweredAll session terms start (lines_of []) (answered terms start []).text (answered terms start []).entries
unfolding after_lines lines_once_read
all-nothing terms start session new = record {
  gathers = record {
    terms_are = new.responder.terms_are;
    auction = new.responder.auction;
    records_are = new.responder.records_are;
    ending = new.responder.ending;
    text = new.responder.answers;
    kept = [];
    entries = refl;
    lines = rw new.responder.entries holds-none;
  };
  waiting = new.waiting;
  line = new.line;
}

pub ready-first : {C : Type 0} (c : Ghosts C) (terms : SessionTerms) (start : RunningAuction) (base : C)
    (session : Session)
    → c.Becomes base base → IsNewSession session terms start → IsReadyToRead c terms start base base session []
ready-first c terms start base session same new = record {
  device = record { same = same; read = Consumes-nil _ };
  all = all-nothing terms start session new;
  answered = answered-nothing c terms start base;
  reads = refl;
}

-- ---- a read

pub just-read : {C : Type 0} (c : Ghosts C) (terms : SessionTerms) (start : RunningAuction) (base old new : C)
    (session : Session)
    (heard bytes : List ℕ) → IsReadyToRead c terms start base old session heard → c.Becomes base new
    → Consumes (c.left old) (c.left new) bytes → c.written new ≡ c.written old → c.committed new ≡ c.committed old
    → c.read_failures new ≡ c.read_failures old → c.write_failures new ≡ c.write_failures old
    → c.commit_failures new ≡ c.commit_failures old → length bytes ≤ ROOM_OF_A_READ
    → HasJustRead c terms start base new heard bytes
just-read c terms start base old new session heard bytes h same read written committed reads writes commits short =
    record {
      device = record { same = same; read = Consumes-trans _ _ _ heard bytes h.device.read read };
      answered = record {
        text = rw written h.answered.text;
        entries = rw committed h.answered.entries;
        writes = writes ∙ h.answered.writes;
        commits = commits ∙ h.answered.commits;
      };
      reads = reads ∙ h.reads;
      short = short;
    }

pub ends-cut : {C : Type 0} (c : Ghosts C) (terms : SessionTerms) (start : RunningAuction) (base old new : C)
    (session : Session)
    (heard : List ℕ) → IsReadyToRead c terms start base old session heard → c.Becomes base new
    → Keeps (c.left old) (c.left new) → c.written new ≡ c.written old → c.committed new ≡ c.committed old
    → c.read_failures new ≡ c.read_failures old + 1 → c.write_failures new ≡ c.write_failures old
    → c.commit_failures new ≡ c.commit_failures old → EndsSession c terms start base new (Err fault.ReadFailed)
ends-cut c terms start base old new session heard h same left written committed reads writes commits = record {
  heard = heard;
  device = record { same = same; read = Consumes-kept _ _ _ heard h.device.read left };
  answered = record {
    text = rw written h.answered.text;
    entries = rw committed h.answered.entries;
    writes = writes ∙ h.answered.writes;
    commits = commits ∙ h.answered.commits;
  };
  reads = reads ∙ ap (λ (n : ℕ). n + 1) h.reads;
}

-- ---- answers are given

-- nothing more was written of more
between-least : (a b : Option (List ℕ)) (least most more : List ℕ) → least ++ more ≡ most → Appends a b least
    → AppendsBetween a b least most
between-least a b least most more is h = (least, [], more, append-nil least, is, h)

-- some of it was
between-some : (a b d : Option (List ℕ)) (least text more most : List ℕ) → Appends a b least → AppendsBeginning b d text
    → (least ++ text) ++ more ≡ most → AppendsBetween a d least most
between-some a b d least text more most h (done, rest, parts, wrote) is = (
  least ++ done,
  done,
  rest ++ more,
  refl,
  append_assoc least done (rest ++ more)
      ∙ ap (λ (t : List ℕ). least ++ t) (sym (append_assoc done rest more) ∙ ap (λ (t : List ℕ). t ++ more) parts)
      ∙ sym (append_assoc least text more) ∙ is,
  appends-more a b d least done h wrote,
)

-- all of it was
between-all : (a b d : Option (List ℕ)) (least text more most : List ℕ) → Appends a b least → Appends b d text
    → (least ++ text) ++ more ≡ most → AppendsBetween a d least most
between-all a b d least text more most h k is =
    between-some a b d least text more most h (text, [], append-nil text, k) is

-- all of a text is a beginning of it
begins-all-of : (a b : Option (List ℕ)) (text : List ℕ) → Appends a b text → AppendsBeginning a b text
begins-all-of a b text h = (text, [], append-nil text, h)

-- a beginning of a text came after another text
begins-after : (a b d : Option (List ℕ)) (first text all : List ℕ) → first ++ text ≡ all → Appends a b first
    → AppendsBeginning b d text → AppendsBeginning a d all
begins-after a b d first text all is h (done, rest, parts, wrote) = (
  first ++ done,
  rest,
  append_assoc first done rest ∙ ap (λ (t : List ℕ). first ++ t) parts ∙ is,
  appends-more a b d first done h wrote,
)

-- all of a text, and nothing more
at-least-all : (a b : Option (List ℕ)) (text : List ℕ) → Appends a b text → AppendsAtLeast a b text
at-least-all a b text h = ([], subst (Appends a b) (sym (append-nil text)) h)

-- all of a text, and then a beginning of another
at-least-first : (a b d : Option (List ℕ)) (first text : List ℕ) → Appends a b first → AppendsBeginning b d text
    → AppendsAtLeast a d first
at-least-first a b d first text h (done, rest, parts, wrote) = (done, appends-more a b d first done h wrote)

module _ {C : Type 0} (c : Ghosts C) (terms : SessionTerms) (start : RunningAuction) (base now : C)
    (heard bytes : List ℕ) where
  abbrev before : Answered
  before = answered terms start heard

  abbrev whole : Answered
  whole = answered_whole terms start (heard ++ bytes)

  -- nothing of what has just come is answered
  pub breaks-unanswered : HasJustRead c terms start base now heard bytes
      → EndsSession c terms start base now (Err fault.NoMemory)
  breaks-unanswered h =
      let first = begins-all terms start heard bytes in
      let entries = entries-begin before whole first in (
        record {
          before = heard;
          last = bytes;
          short = h.short;
          device = h.device;
          text = between-least _ _ before.text whole.text first.text.0 first.text.1 h.answered.text;
          entries =
              between-least _ _ (call_lines 0 before.entries) (call_lines 0 whole.entries) entries.0 entries.1
              h.answered.entries;
          answers = before;
          answers_are = inl (inl refl);
          committed_first = record {
            text = begins-all-of _ _ before.text h.answered.text;
            entries = at-least-all _ _ (call_lines 0 before.entries) h.answered.entries;
          };
          reads = h.reads;
        },
        h.answered.writes,
        h.answered.commits,
      )

  module _ (responder : Responder) (answers : Answered) (just : HasJustRead c terms start base now heard bytes)
      (gathers : Gathers responder terms answers before.text before.entries) (becomes_on : (d : C) → c.Becomes now d
      → c.Becomes base d) where
    -- the lines of the entries that are gathered, after those before
    entry-lines : call_lines 0 before.entries ++ kept_text responder.entries ≡ call_lines 0 answers.entries
    entry-lines =
        ap (λ (t : List ℕ). call_lines 0 before.entries ++ t) gathers.lines.0
        ∙ sym (entries-both 0 0 before.entries gathers.kept) ∙ ap (call_lines 0) gathers.entries

    committed-all : (d : C) → Appends (c.committed now) (c.committed d) (kept_text responder.entries)
        → Appends (c.committed base) (c.committed d) (call_lines 0 answers.entries)
    committed-all d h =
        subst (Appends (c.committed base) (c.committed d)) entry-lines (appends-more _ _ _ _ _ just.answered.entries h)

    pub may-be-written : IsAnswerTo terms start (heard ++ bytes) answers → (d : C)
        → IsCommitted c now d (kept_text responder.entries)
        → MayBeWritten c terms start base d (kept_text responder.answers)
    may-be-written is d h = record {
      heard = heard ++ bytes;
      device = record { same = becomes_on d h.same; read = rw h.left just.device.read };
      answers = answers;
      answers_are = is;
      entries = committed-all d h.committed;
      given = before.text;
      text_is = gathers.text;
      written = rw h.written just.answered.text;
      commits = h.commits ∙ just.answered.commits;
    }

    -- all was given
    pub has-answered : (d : C) → HasGiven c now d (kept_text responder.answers) (kept_text responder.entries)
        → HasAnswered c base d answers
    has-answered d h = record {
      text =
          subst (Appends (c.written base) (c.written d)) gathers.text
          (appends-more _ _ _ _ _ just.answered.text h.written);
      entries = committed-all d h.committed;
      writes = h.writes ∙ just.answered.writes;
      commits = h.commits ∙ just.answered.commits;
    }

    pub has-read : (d : C) → IsUnread c now d → HasRead c base d (heard ++ bytes)
    has-read d h = record { same = becomes_on d h.same; read = rw h.left just.device.read }

    pub reads-same : (d : C) → IsUnread c now d → c.read_failures d ≡ c.read_failures base
    reads-same d h = h.reads ∙ just.reads

    module _ (first : IsBeginningOf answers whole) where
      text-parts : (before.text ++ kept_text responder.answers) ++ first.text.0 ≡ whole.text
      text-parts = ap (λ (t : List ℕ). t ++ first.text.0) gathers.text ∙ first.text.1

      entry-parts : (call_lines 0 before.entries ++ kept_text responder.entries) ++ (entries-begin answers whole
          first).0
          ≡ call_lines 0 whole.entries
      entry-parts =
          ap (λ (t : List ℕ). t ++ (entries-begin answers whole first).0) entry-lines
          ∙ (entries-begin answers whole first).1

      -- not all was given
      pub breaks-giving : IsAnswerTo terms start (heard ++ bytes) answers → (d : C) (after : Responder) (f : LiveFault)
          → GivesGathered c now d responder after (Err f)
          → EndsSession c terms start base d (Err f)
      breaks-giving are d after fault.ReadFailed h = absurd h
      breaks-giving are d after fault.NoMemory h =
          subst (λ (x : C). EndsSession c terms start base x (Err fault.NoMemory)) (sym h) (breaks-unanswered just)
      breaks-giving are d after fault.WriteFailed h = (
        record {
          before = heard;
          last = bytes;
          short = just.short;
          device = has-read d h.unread;
          text =
              between-some _ _ _ before.text (kept_text responder.answers) first.text.0 whole.text just.answered.text
              h.written text-parts;
          entries =
              between-all _ _ _ (call_lines 0 before.entries) (kept_text responder.entries) _ (call_lines 0
              whole.entries)
              just.answered.entries h.committed entry-parts;
          answers = answers;
          answers_are = inr are;
          committed_first = record {
            text = begins-after _ _ _ before.text _ answers.text gathers.text just.answered.text h.written;
            entries = at-least-all _ _ (call_lines 0 answers.entries) (committed-all d h.committed);
          };
          reads = reads-same d h.unread;
        },
        rw just.answered.writes at h.writes,
        h.commits ∙ just.answered.commits,
      )
      breaks-giving are d after fault.CommitFailed h = (
        record {
          before = heard;
          last = bytes;
          short = just.short;
          device = has-read d h.unread;
          text =
              between-least _ _ before.text whole.text _
              (sym (append_assoc before.text (kept_text responder.answers) first.text.0) ∙ text-parts)
              (rw h.written just.answered.text);
          entries =
              between-some _ _ _ (call_lines 0 before.entries) (kept_text responder.entries) _
              (call_lines 0 whole.entries) just.answered.entries h.committed entry-parts;
          answers = before;
          answers_are = inl (inl refl);
          committed_first = record {
            text = begins-all-of _ _ before.text (rw h.written just.answered.text);
            entries =
                at-least-first _ _ _ (call_lines 0 before.entries) (kept_text responder.entries)
                just.answered.entries h.committed;
          };
          reads = reads-same d h.unread;
        },
        h.writes ∙ just.answered.writes,
        rw just.answered.commits at h.commits,
      )

-- memory was refused before anything was read
pub ends-unheard : {C : Type 0} (c : Ghosts C) (terms : SessionTerms) (start : RunningAuction) (base : C)
    → c.Becomes base base
    → EndsSession c terms start base base (Err fault.NoMemory)
ends-unheard c terms start base same = breaks-unanswered c terms start base base [] [] (record {
  device = record { same = same; read = Consumes-nil _ };
  answered = answered-nothing c terms start base;
  reads = refl;
  short = omega arith;
})

-- and between two reads
pub ends-ready : {C : Type 0} (c : Ghosts C) (terms : SessionTerms) (start : RunningAuction) (base now : C)
    (session : Session)
    (heard : List ℕ) → IsReadyToRead c terms start base now session heard
    → EndsSession c terms start base now (Err fault.NoMemory)
ends-ready c terms start base now session heard h = breaks-unanswered c terms start base now heard [] (record {
  device = subst (HasRead c base now) (sym (append-nil heard)) h.device;
  answered = h.answered;
  reads = h.reads;
  short = omega arith;
})

-- nothing is gathered any more
pub gathers-emptied : (old new : Responder) (terms : SessionTerms) (answers : Answered) (given : List ℕ)
    (committed : List Entry)
    → Gathers old terms answers given committed → IsEmptied old new
    → Gathers new terms answers answers.text answers.entries
gathers-emptied old new terms answers given committed h e = record {
  terms_are = e.terms_are ∙ h.terms_are;
  auction = e.auction ∙ h.auction;
  records_are = e.records_are ∙ h.records_are;
  ending = e.ending ∙ h.ending;
  text = ap (λ (t : List ℕ). answers.text ++ t) e.answers ∙ append-nil answers.text;
  kept = [];
  entries = append-nil answers.entries;
  lines = rw e.entries holds-none;
}

-- what was heard after what was answered
pub heard-more : (session : Session) (terms : SessionTerms) (start : RunningAuction) (heard bytes given : List ℕ)
    (committed : List Entry)
    → HasAnsweredAll session terms start (lines_once_read (lines_of heard) bytes) given committed
    → HasAnsweredAll session terms start (lines_of (heard ++ bytes)) given committed
heard-more session terms start heard bytes given committed h =
    subst (λ (l : Lines). HasAnsweredAll session terms start l given committed)
    (sym (lines-append no_lines heard bytes)) h

-- ---- the end of the input

all-read : (a b : Option (List ℕ)) (heard : List ℕ) → Consumes a b heard → IsAtEnd b → IfSome a (λ input. input ≡ heard)
all-read None b heard h e = tt
all-read (Some xs) None heard h e = absurd h
all-read (Some xs) (Some ys) heard h e = h ∙ ap (λ (y : List ℕ). heard ++ y) e ∙ append-nil heard

pub ends-done : {C : Type 0} (c : Ghosts C) (terms : SessionTerms) (start : RunningAuction) (base new : C)
    (heard : List ℕ) (responder : Responder)
    (given : List ℕ) (committed : List Entry)
    → HasRead c base new heard → IsAtEnd (c.left new) → HasAnswered c base new (answered_whole terms start heard)
    → c.read_failures new ≡ c.read_failures base
    → Gathers responder terms (answered_whole terms start heard) given committed
    → EndsSession c terms start base new (Ok responder.ending)
ends-done c terms start base new heard responder given committed device end answered reads gathers = record {
  heard = heard;
  device = device;
  all = all-read _ _ heard device.read end;
  answered = answered;
  reads = reads;
  ending_is = gathers.ending;
}
