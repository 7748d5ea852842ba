-- Answers of `Responder::refuse_with` (src/responder.rt): what the prover left open; rt looks here.
-- Of `Responder::refuse_with`: the answer to a bad record, in the form that `rt` wants.
use Rattle.std.proofs.Common.{◌+◌, ◌++◌, ℕ, List, ap, ◌∙◌}
use Rattle.live_session.specs.BadRecords.{bad_record_line}
use Rattle.live_session.proofs.SessionLaws.{put-text}
use Rattle.live_session.proofs.ResponderLaws.{ending-bad}
use Rattle.live_session.proofs.responder.Responder.refuse_with.Goals as goal

pub returns : goal.returns
returns c = λ terms so_far given committed h.
    let number = c.in_ok-number.ensures ∙ ap (λ (n : ℕ). n + 1) h.records_are in
    record {
      terms_are = h.terms_are;
      auction = h.auction;
      records_are = number;
      ending = ending-bad so_far.faults c.args.fault;
      text =
          ap (λ (page : List ℕ). given ++ (c.make_room.new.self.full.items ++ page)) c.put_bad_line.ensures
          ∙ put-text given c.make_room.new.self.full.items c.make_room.new.self.page _ so_far.text
          (ap (λ (t : List ℕ). given ++ t) c.in_ok-make_room.ensures.text ∙ h.text)
          ∙ ap (λ (n : ℕ). so_far.text ++ bad_record_line n c.args.fault c.args.cause) number;
      kept = h.kept;
      entries = h.entries;
      lines = h.lines;
    }
