-- Answers of `hear` of `Comparison` (src/journals/comparing.rt): what the prover left open; rt looks here.
use Rattle.std.proofs.Common.{◌∙◌, Bool, ap, arith, refl}
use Rattle.day_road.specs.Heard.{heard_of, recording_of}
use Rattle.auction_c.specs.Journals.{has_text}
use Rattle.auction_c.specs.JournalReading.{compared_with}
use Rattle.auction_c.proofs.JournalFoundLaws.{compared-more, counts-within}
use Rattle.auction_c.proofs.journals.comparing.ComparisonListener.hear.Goals as goal

pub returns-clause-heard : goal.returns-clause-heard
returns-clause-heard c = λ auction heard few is has.
    let within = counts-within c.args.self.now auction heard has in
    let counts = c.args.self.now.counts in
    let counted =
    c.compared_with-self.ensures (omega (arith, within.all, few))
    (omega (arith, within.all, within.compared)) (omega (arith, within.all, within.unlawful))
    ∙ ap (λ (b : Bool). compared_with counts b c.is_unlawful-unlawful.result) c.has_text.ensures
    ∙ ap (λ (b : Bool). compared_with counts (has_text c.args.text.now) b) c.is_unlawful-unlawful.ensures in
    let h = heard_of (recording_of c.args._call.now c.args.text.now) c.args.reply.now in
    rw (← is) (compared-more counts _ auction.calls _ heard h has refl counted)
