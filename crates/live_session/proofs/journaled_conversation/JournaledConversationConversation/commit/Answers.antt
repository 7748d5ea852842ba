-- Answers of `JournaledConversation::commit` (src/journaled_conversation.rt): what the prover left open; rt looks here.
use Rattle.std.proofs.Common.{[], inr, refl, ap, sym, ◌∙◌}
use Rattle.std.proofs.lemmas.List.{append-nil}
use Rattle.live_session.specs.JournaledTalk.{text_kept}
use Rattle.live_session.proofs.CommitLaws.{fault-cause, entry-lines-short, entry-lines-whole, failed, made, refused}
use Rattle.live_session.proofs.journaled_conversation.JournaledConversationConversation.commit.Goals as goal

pub commit-requires-clause-short : goal.commit-requires-clause-short
commit-requires-clause-short g c = entry-lines-short c.args.entries.now c.requires

pub returns-then-self-clause-same : goal.returns-then-self-clause-same
returns-then-self-clause-same g c =
    let s = c.args.self.now in (
      refl,
      refl,
      refl,
      inr (refused g.D.Device.seen g.D.Device.moment g.D.Device.left_since g.D.Device.faults s.journal.now
          s.calls.events c.note.new.self.events s.is_broken c.if-self.true c.note.ensures),
    )

pub returns-in-Ok-clause-same : goal.returns-in-Ok-clause-same
returns-in-Ok-clause-same g c =
    let s = c.args.self.now in (
      refl,
      refl,
      refl,
      inr (made g.D.Device.seen g.D.Device.moment g.D.Device.left_since g.D.Device.faults s.journal.now
          c.commit.new.self s.calls.events c.note-in-Ok.new.self.events s.is_broken c.args.entries.now c.if-self.false
          (entry-lines-whole c.args.entries.now c.requires) c.commit.ensures.any_moment c.commit.ensures.causes
          c.note-in-Ok.ensures c.in-Ok.ensures.committed),
    )

pub returns-in-Err-clause-same : goal.returns-in-Err-clause-same
returns-in-Err-clause-same g c =
    let s = c.args.self.now in (
      refl,
      refl,
      refl,
      inr (failed g.D.Device.seen g.D.Device.moment g.D.Device.left_since g.D.Device.faults s.journal.now
          c.commit.new.self s.calls.events c.note-in-Err.new.self.events s.is_broken c.args.entries.now c.if-self.false
          (entry-lines-whole c.args.entries.now c.requires) c.commit.ensures.any_moment c.commit.ensures.causes
          c.note-in-Err.ensures (fault-cause g.D.Device.seen g.D.Device.moment g.D.Device.left_since g.D.Device.faults
          s.journal.now c.commit.new.self c.args.entries.now c.in-Err.error (s.steady c.if-self.false).end
          c.in-Err.ensures.failed c.in-Err.ensures.changed c.in-Err.ensures.full)),
    )

pub returns-in-Err-clause-entries : goal.returns-in-Err-clause-entries
returns-in-Err-clause-entries g c =
    ([], c.args.entries.now, refl, ap text_kept c.note-in-Err.ensures ∙ sym (append-nil _))
