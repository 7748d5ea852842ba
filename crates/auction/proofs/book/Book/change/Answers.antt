-- Answers of `Book::change` (src/book.rt): what the prover left open; rt looks here.
use Rattle.std.proofs.Common.{IfSome, sym, ap, subst, ◌∙◌, arith}
use Rattle.auction_terms.specs.Edits.{with_terms}
use Rattle.auction.specs.OpenOrders.{OpenOrders}
use Rattle.auction.specs.KnownPrice.{still_known, IsKnownOf}
use Rattle.auction.proofs.book.Book.change.Goals as goal

pub invariant_of-self : goal.invariant_of-self
invariant_of-self c =
    let changed = with_terms c.args.limit c.args.quantity c.args.order in
    let kind = c.kind-kind.ensures ∙ ap (λ (b : OpenOrders). b.kind) c.change-kept.ensures.book in
    let left = c.forget-2.ensures ∙ ap (λ known. still_known known c.kind-kind.result changed) c.forget.ensures
    ∙ ap (λ k. still_known (still_known c.self.inside.known k c.args.order) k changed) kind in (
      omega (arith, ap (λ (b : OpenOrders). b.max_open) c.change-kept.ensures.book, c.self.invariant.0),
      subst (λ known. IfSome known (IsKnownOf c.change-kept.new.self.book)) (sym left)
          (c.change-kept.ensures.known c.self.inside.known c.self.invariant.1),
    )
