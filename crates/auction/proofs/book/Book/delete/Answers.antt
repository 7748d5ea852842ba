-- Answers of `Book::delete` (src/book.rt): what the prover left open; rt looks here.
use Rattle.std.proofs.Common.{IfSome, sym, ap, subst, ◌∙◌, arith}
use Rattle.auction.specs.OpenOrders.{OpenOrders}
use Rattle.auction.specs.KnownPrice.{still_known, IsKnownOf}
use Rattle.auction.proofs.book.Book.delete.Goals as goal

pub invariant_of-self : goal.invariant_of-self
invariant_of-self c =
    let kind = c.kind.ensures ∙ ap (λ (b : OpenOrders). b.kind) c.remove.ensures.book in (
      omega (arith, ap (λ (b : OpenOrders). b.max_open) c.remove.ensures.book, c.self.invariant.0),
      subst (λ known. IfSome known (IsKnownOf c.remove.new.self.book))
          (sym (c.forget.ensures ∙ ap (λ k. still_known c.self.inside.known k c.args.order) kind))
          (c.remove.ensures.known c.self.inside.known c.self.invariant.1),
    )
