-- Answers of `Front::add` (src/evidence.rt): what the prover left open; rt looks here.
use Rattle.std.proofs.Common.{sym, ◌∙◌, ap}
use Rattle.board_terms.proofs.StoryLaws.{AddsCall-moves}
use Rattle.board_terms.proofs.evidence.Front.add.Goals as goal

pub compare_exchange-found-requires : goal.compare_exchange-found-requires
compare_exchange-found-requires c =
    let h = c.args.head.now.head_is in
    let offer = c.plain-offer.ensures in
    let pen = c.no_pen-pen.ensures in
    let same = ap (λ f. f.book) c.self.view_is ∙ sym c.requires.book in (
      ap (λ w. w.tracked) h,
      same,
      pen.0 ∙ same,
      offer.0,
      rw (ap (λ w. w.key) h, pen.1, offer.1, offer.3)
          (AddsCall-moves c.self.inside.seen.log c.args.call c.self.inside.count (sym c.self.invariant)),
    )
