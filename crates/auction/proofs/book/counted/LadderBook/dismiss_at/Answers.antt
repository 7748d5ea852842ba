-- Answers of `LadderBook::dismiss_at` (src/book/counted/ending.rt): what the prover left open; rt looks here.
use Rattle.std.proofs.Common.{◌≡◌, Option, Some, true, ap, subst, sym, ◌∙◌}
use Rattle.std.specs.Prelude.{IfSome}
use Rattle.auction_terms.specs.declared.Stamped.{Stamped}
use Rattle.auction_terms.specs.Book.{is_restricted_to}
use Rattle.auction_terms.specs.Edits.{without_restricted}
use Rattle.auction_terms.specs.Auxiliary.OrderLists.{IdsDiffer}
use Rattle.auction_terms.proofs.StayLaws.{without_restricted-without_id}
use Rattle.order_book.specs.Orders.{OrdersView as Orders, open_order}
use Rattle.auction.specs.OpenOrders.{OpenOrders, IsOpenIn}
use Rattle.auction_terms.specs.declared.AuctionKind.{AuctionKind}
use Rattle.auction_terms.specs.Ladder.{LadderView}
use Rattle.auction.specs.LadderBook.{LadderBookView, ladder_book_view}
use Rattle.auction.proofs.FoundOrderLaws.{found_is_open}
use Rattle.auction.proofs.book.counted.LadderBook.dismiss_at.Goals as goal

open_at : (found : Option Stamped) (s : Stamped) (orders : Orders) (ladder : LadderView) (kind : AuctionKind)
    (now : LadderBookView) → ladder_book_view orders ladder kind ≡ now
    → IfSome found (λ s. open_order orders.line s.order.id ≡ Some s) → found ≡ Some s → IsOpenIn now.book.orders s.order
open_at found s orders ladder kind now seen stands e =
    subst (λ (b : LadderBookView). IsOpenIn b.book.orders s.order) seen
    (found_is_open s orders.line (subst (λ x. IfSome x (λ (s : Stamped). open_order orders.line s.order.id ≡ Some s)) e
    stands))

pub remove-requires : goal.remove-requires
remove-requires c =
    open_at c.at.result c.in-Some.stamped c.self.inside.orders c.self.inside.ladder c.self.inside.kind c.args.self.now
    c.self.view_is c.at.ensures.«open» c.in-Some.is

pub returns-then-is_only_for-clause-stay : goal.returns-then-is_only_for-clause-stay
returns-then-is_only_for-clause-stay c =
    let old = c.args.self.now.book in
    let order = c.in-Some.stamped.order in
    let found =
    open_at c.at.result c.in-Some.stamped c.self.inside.orders c.self.inside.ladder c.self.inside.kind
    c.args.self.now c.self.view_is c.at.ensures.«open» c.in-Some.is in
    let ids =
    subst (λ (b : LadderBookView). IdsDiffer b.book.orders) c.self.view_is c.self.invariant.kept.orderly.ids in
    let leaves =
    subst (λ (b : LadderBookView). is_restricted_to b.book.kind order.restriction ≡ true) c.self.view_is
    (sym c.is_only_for.ensures ∙ c.if-is_only_for.true) in
    let removed = c.remove.ensures.book in
    record {
      stay =
          ap (λ (b : OpenOrders). without_restricted old.kind b.orders) removed
          ∙ without_restricted-without_id old.kind order.id old.orders order ids found leaves;
      rest = removed ∙ ap (λ l. record old { orders = l }) (sym (ap (λ (b : OpenOrders). b.orders) removed));
    }
