-- Gathered answers are given.
use Rattle.std.specs.Prelude.{◌≡◌, ◌<◌, ℕ, List, [], Result, Ok, Err, OnOk}
use Rattle.std.specs.Io.KnownBytes.{Appends}
use Rattle.auction_terms.specs.Auxiliary.RunningAuction.{RunningAuction}
use Rattle.byte_streams.specs.Streams.{AppendsBeginning}
use Rattle.printed_lines.specs.KeptText.{kept_text}
use Rattle.live_session.specs.declared.conversation.Conversation.{Ghosts}
use Rattle.live_session.specs.declared.fault.Ending.TheVariants.{AllGood}
use Rattle.live_session.specs.declared.fault.LiveFault.{LiveFault}
use Rattle.live_session.specs.declared.fault.LiveFault.TheVariants as fault
use Rattle.live_session.specs.declared.responder.Responder.{Responder}
use Rattle.live_session.specs.declared.terms.SessionTerms.{SessionTerms}

-- a responder that has answered nothing
pub record IsNew (responder : Responder) (terms : SessionTerms) (start : RunningAuction) : Type 0 where
  pub terms_are : responder.terms ≡ terms
  pub auction : responder.auction ≡ start
  pub records_are : responder.records ≡ 0
  pub ending : responder.ending ≡ AllGood
  pub answers : kept_text responder.answers ≡ []
  pub entries : kept_text responder.entries ≡ []

-- the same texts, each in one piece
pub record IsInPieces (old new : Responder) : Type 0 where
  pub terms_are : new.terms ≡ old.terms
  pub auction : new.auction ≡ old.auction
  pub records_are : new.records ≡ old.records
  pub ending : new.ending ≡ old.ending
  pub answers : new.answers.full.items ≡ kept_text old.answers
  pub answers_page : new.answers.page ≡ []
  pub entries : new.entries.full.items ≡ kept_text old.entries
  pub entries_page : new.entries.page ≡ []

abbrev pub IsGatheredAs : {E : Type 0} → Responder → Responder → Result (Unit {0}) E → Type 0
IsGatheredAs old new result = OnOk result (IsInPieces old new)

-- nothing was read, whatever else has happened
pub record IsUnread {C : Type 0} (c : Ghosts C) (old new : C) : Type 0 where
  pub same : c.Becomes old new
  pub left : c.left new ≡ c.left old
  pub reads : c.read_failures new ≡ c.read_failures old

-- all was committed and written
pub record HasGiven {C : Type 0} (c : Ghosts C) (old new : C) (answers entries : List ℕ) : Type 0 where
  pub unread : IsUnread c old new
  pub written : Appends (c.written old) (c.written new) answers
  pub committed : Appends (c.committed old) (c.committed new) entries
  pub writes : c.write_failures new ≡ c.write_failures old
  pub commits : c.commit_failures new ≡ c.commit_failures old

-- all was committed, and a beginning written
pub record HasGivenBeginning {C : Type 0} (c : Ghosts C) (old new : C) (answers entries : List ℕ) : Type 0 where
  pub unread : IsUnread c old new
  pub written : AppendsBeginning (c.written old) (c.written new) answers
  pub committed : Appends (c.committed old) (c.committed new) entries
  pub writes : c.write_failures old < c.write_failures new
  pub commits : c.commit_failures new ≡ c.commit_failures old

-- a beginning was committed, and nothing written
pub record HasCommittedBeginning {C : Type 0} (c : Ghosts C) (old new : C) (entries : List ℕ) : Type 0 where
  pub unread : IsUnread c old new
  pub written : c.written new ≡ c.written old
  pub committed : AppendsBeginning (c.committed old) (c.committed new) entries
  pub writes : c.write_failures new ≡ c.write_failures old
  pub commits : c.commit_failures old < c.commit_failures new

-- nothing is gathered any more, and all else is as it was
pub record IsEmptied (old new : Responder) : Type 0 where
  pub terms_are : new.terms ≡ old.terms
  pub auction : new.auction ≡ old.auction
  pub records_are : new.records ≡ old.records
  pub ending : new.ending ≡ old.ending
  pub answers : kept_text new.answers ≡ []
  pub entries : kept_text new.entries ≡ []

-- what came of giving what is gathered
abbrev pub GivesGathered : {C : Type 0} → Ghosts C → C → C → Responder → Responder → Result (Unit {0}) LiveFault
    → Type 0
GivesGathered c old new before after (Ok u) =
    HasGiven c old new (kept_text before.answers) (kept_text before.entries) × IsEmptied before after
GivesGathered c old new before after (Err fault.WriteFailed) =
    HasGivenBeginning c old new (kept_text before.answers) (kept_text before.entries)
GivesGathered c old new before after (Err fault.CommitFailed) =
    HasCommittedBeginning c old new (kept_text before.entries)
GivesGathered c old new before after (Err fault.NoMemory) = new ≡ old
GivesGathered c old new before after (Err fault.ReadFailed) = ⊥
