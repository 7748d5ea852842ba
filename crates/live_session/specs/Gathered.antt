-- Answers that are gathered, and not yet written.
use Rattle.std.specs.Prelude.{◌≡◌, ℕ, List, ◌++◌, Result, OnOk}
use Rattle.std.specs.Io.KnownBytes.{Appends}
use Rattle.auction_terms.specs.declared.Entry.{Entry}
use Rattle.journal.specs.KeptLines.{HasEntryLines}
use Rattle.printed_lines.specs.KeptText.{kept_text}
use Rattle.live_session.specs.Answered.{Answered, ending_of}
use Rattle.live_session.specs.declared.conversation.Conversation.{Ghosts}
use Rattle.live_session.specs.declared.responder.Responder.{Responder}
use Rattle.live_session.specs.declared.terms.SessionTerms.{SessionTerms}

-- these are the answers so far, of which this text was given and these entries were committed; the rest is gathered
pub record Gathers (responder : Responder) (terms : SessionTerms) (so_far : Answered) (given : List ℕ)
    (committed : List Entry) : Type 0 where
  pub terms_are : responder.terms ≡ terms
  pub auction : responder.auction ≡ so_far.auction
  pub records_are : responder.records ≡ so_far.records
  pub ending : responder.ending ≡ ending_of so_far.faults
  pub text : given ++ kept_text responder.answers ≡ so_far.text
  pub kept : List Entry
  pub entries : committed ++ kept ≡ so_far.entries
  pub lines : HasEntryLines (kept_text responder.entries) kept

-- answers come to those that were gathered
abbrev pub AddsAnswers : {E : Type 0} → Responder → Responder → (SessionTerms → Answered → Answered)
    → Result (Unit {0}) E
    → Type 0
AddsAnswers old new after result = (terms : SessionTerms) (so_far : Answered) (given : List ℕ) (committed : List Entry)
    → Gathers old terms so_far given committed → OnOk result (Gathers new terms (after terms so_far) given committed)

-- these entries were committed, and nothing else has happened to the device
pub record IsCommitted {C : Type 0} (c : Ghosts C) (old new : C) (entries : List ℕ) : Type 0 where
  pub same : c.Becomes old new
  pub left : c.left new ≡ c.left old
  pub written : c.written new ≡ c.written old
  pub committed : Appends (c.committed old) (c.committed new) entries
  pub commits : c.commit_failures new ≡ c.commit_failures old
