-- Answers of `Responder::show` (src/responder.rt): what the prover left open; rt looks here.
-- Of `Responder::show`: the text of a view, in the form that `rt` wants.
use Rattle.std.proofs.Common.{◌+◌, ◌++◌, ◌∙◌, ℕ, List, ap, append_assoc, sym}
use Rattle.auction_terms.specs.Auxiliary.RunningAuction.{RunningAuction}
use Rattle.printed_lines.specs.KeptText.{kept_text}
use Rattle.auction_views.specs.ViewText.{view_text}
use Rattle.live_session.proofs.responder.Responder.show.Goals as goal

pub returns : goal.returns
returns c = λ terms so_far given committed h.
    let text = c.in_ok-put_view.ensures.text in
    record {
      terms_are = h.terms_are;
      auction = c.in_ok-put_view.ensures.auction ∙ h.auction;
      records_are = c.in_ok-number.ensures ∙ ap (λ (n : ℕ). n + 1) h.records_are;
      ending = h.ending;
      text =
          ap (λ (t : List ℕ). given ++ t) text
          ∙ sym (append_assoc given (kept_text c.args.self.now.answers) (view_text c.args.self.now.auction c.args.view))
          ∙ ap (λ (t : List ℕ). t ++ view_text c.args.self.now.auction c.args.view) h.text
          ∙ ap (λ (a : RunningAuction). so_far.text ++ view_text a c.args.view) h.auction;
      kept = h.kept;
      entries = h.entries;
      lines = h.lines;
    }
