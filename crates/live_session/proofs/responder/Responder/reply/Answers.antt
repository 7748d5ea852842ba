-- Answers of `Responder::reply` (src/responder.rt): what the prover left open; rt looks here.
-- Of `Responder::reply`: the answer to a call, in the form that `rt` wants.
use Rattle.std.proofs.Common.{◌≡◌, ◌+◌, ◌++◌, ◌∷◌, ℕ, List, [], ap, ap₂, sym, append_assoc, rules, ◌∙◌}
use Rattle.auction_terms.specs.declared.Entry.{Entry}
use Rattle.auction_terms.specs.declared.Reply.{Reply}
use Rattle.auction_terms.specs.Day.{step}
use Rattle.auction_terms.specs.Auxiliary.RunningAuction.{RunningAuction, auction_after_call}
use Rattle.printed_lines.specs.ReplyLines.{line}
use Rattle.live_session.proofs.SessionLaws.{put-text}
use Rattle.live_session.proofs.responder.Responder.reply.Goals as goal

pub returns : goal.returns
returns c = λ terms so_far given committed h.
    let call = c.args.call in
    let auction = c.answer_call.ensures.state ∙ ap (λ (a : RunningAuction). auction_after_call a call) h.auction in
    let reply =
    c.answer_call.ensures.reply ∙ ap (λ (a : RunningAuction). (step a.config a.state call).1) h.auction in
    let from : c.from.result ≡ c.calls.result = search rules in
    let number = from ∙ c.calls.ensures.value ∙ ap (λ (a : RunningAuction). a.calls) auction in
    let entry : Entry = record { member = call.member; command = call.command; reply = c.answer_call.new.reply } in
    record {
      terms_are = h.terms_are;
      auction = auction;
      records_are = c.in_ok-number.ensures ∙ ap (λ (n : ℕ). n + 1) h.records_are;
      ending = h.ending;
      text = rw c.put_line.ensures (
          put-text given c.make_room.new.self.full.items c.make_room.new.self.page _ so_far.text
          (ap (λ (t : List ℕ). given ++ t) c.in_ok-make_room.ensures.text ∙ h.text)
          ∙ ap₂ (λ (n : ℕ) (r : Reply). so_far.text ++ line n r) number reply);
      kept = h.kept ++ entry ∷ [];
      entries =
          sym (append_assoc committed h.kept _) ∙ ap (λ (es : List Entry). es ++ entry ∷ []) h.entries
          ∙ ap (λ (r : Reply). so_far.entries ++ (record {
            member = call.member;
            command = call.command;
            reply =
                r;
          }) ∷ []) reply;
      lines = c.in_ok-keep_entry.ensures h.kept h.lines;
    }
