-- Answers of `LadderBook::end_auction` (src/book/counted/ending.rt): what the prover left open; rt looks here.
use Rattle.std.proofs.Common.{sym, ap, ◌∙◌}
use Rattle.auction_terms.specs.declared.AuctionKind.TheVariants.{Closing}
use Rattle.auction_terms.specs.Book.{current_kind}
use Rattle.auction_terms.specs.Edits.{without_restricted}
use Rattle.auction_terms.specs.Day.{next_auction}
use Rattle.auction_terms.proofs.NextLaws.{without_restricted-intraday}
use Rattle.auction.specs.OpenOrders.{OpenOrders}
use Rattle.auction.specs.LadderBook.{LadderBookView}
use Rattle.auction.proofs.AuctionEndLaws.{kept_staying}
use Rattle.auction.proofs.book.counted.LadderBook.end_auction.Goals as goal

pub invariant_of-self : goal.invariant_of-self
invariant_of-self c =
    let old = c.args.self.now.book in
    let seen = ap (λ (b : LadderBookView). b.book) c.self-in_default.view_is ∙ c.dismiss.ensures in
    let kind = ap (λ (b : OpenOrders). b.kind) seen in
    record {
      kept =
          kept_staying old.orders c.self-in_default.invariant.kept (ap (λ (b : OpenOrders). b.orders) seen
          ∙ ap (λ k. without_restricted k old.orders) (sym kind));
      few = c.self-in_default.invariant.few;
      small = c.self-in_default.invariant.small;
    }

pub returns-in-Intraday : goal.returns-in-Intraday
returns-in-Intraday c =
    let old = c.args.self.now.book in
    let was = sym (ap (λ (b : LadderBookView). b.book.kind) c.self.view_is) ∙ c.in-Intraday.is in
    c.admit.ensures
    ∙ ap (λ l. record old { orders = l; kind = Closing }) (sym (without_restricted-intraday old.orders))
    ∙ ap (λ k. record old { orders = without_restricted k old.orders; kind = current_kind (next_auction k) }) (sym was)
