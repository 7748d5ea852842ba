-- Answers of `Responder::give` (src/responder.rt): what the prover left open; rt looks here.
-- Of `Responder::give`: a write failed after a commit, in the form that `rt` wants.
use Rattle.std.proofs.Common.{◌≡◌, ◌∙◌}
use Rattle.printed_lines.specs.KeptText.{kept_text}
use Rattle.live_session.proofs.responder.Responder.give.Goals as goal

pub commit-requires : goal.commit-requires
commit-requires g c =
    let (kept, lines) = c.requires.lines in
    let entries : c.as_slice.result.now ≡ kept_text c.args.self.now.entries =
    c.as_slice.ensures.value ∙ c.in-Ok.ensures.entries in
    (kept, (entries ∙ lines.0, lines.1))

pub returns-in_default-write : goal.returns-in_default-write
returns-in_default-write g c =
    let k = c.in-Ok-commit.ensures in
    let w = c.in_default-write.ensures in
    let pages = c.in-Ok.ensures in
    let answers : c.as_slice-2.result.now ≡ kept_text c.args.self.now.answers =
    c.as_slice-2.ensures.value ∙ pages.answers in
    let entries : c.as_slice.result.now ≡ kept_text c.args.self.now.entries = c.as_slice.ensures.value ∙ pages.entries
    in
    record {
      unread = record {
        same = g.met.C.Conversation.becomes_on _ _ _ k.same w.same;
        left = w.left ∙ k.left;
        reads = w.reads ∙ k.reads;
      };
      written = rw k.written at (rw answers at w.text);
      committed = rw w.committed (rw entries at k.entries);
      writes = rw k.writes at w.failures;
      commits = w.commits ∙ k.failures;
    }
