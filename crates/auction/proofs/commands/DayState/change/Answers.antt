-- Answers of `DayState::change` (src/commands/change.rt): what the prover left open; rt looks here.
use Rattle.std.proofs.Common.{◌+◌, cond, sym, subst, arith}
use Rattle.auction_terms.specs.Day.{book_with_change}
use Rattle.auction_terms.specs.Edits.{keeps_place}
use Rattle.auction.specs.AuctionState.{AuctionState}
use Rattle.auction.specs.OpenOrders.{IsOpenIn}
use Rattle.auction.proofs.DayLaws.{book_edited}
use Rattle.auction.proofs.BookLengthLaws.{length-change}
use Rattle.auction.proofs.commands.DayState.change.Goals as goal

pub invariant_of-self : goal.invariant_of-self
invariant_of-self c =
    let fields = c.self.inside in
    let order = c.in_ok-order.order in
    let limit = c.args.limit in
    let quantity = c.args.quantity in
    let found =
    subst (λ (a : AuctionState). IsOpenIn a.state.book order) (sym c.self.view_is) c.in_ok-order.ensures.«open» in
    record {
      same =
          book_edited fields.config fields.auction fields.book c.change-kept.new.self
          (book_with_change fields.book.orders order limit quantity) fields.book.entered
          (cond (keeps_place order limit quantity) fields.book.stamps (fields.book.stamps + 1)) c.self.invariant.same
          c.change-kept.ensures.book
          (omega (
            arith,
            length-change order.id limit quantity fields.book.orders order found,
            c.self.invariant.same.few,
          ));
      reference = c.self.invariant.reference;
      trades = c.self.invariant.trades;
      room = c.self.invariant.room;
      small = c.self.invariant.small;
    }
