-- Answers of `DayState::delete` (src/commands/delete.rt): what the prover left open; rt looks here.
use Rattle.std.proofs.Common.{sym, ◌∙◌, arith}
use Rattle.std.proofs.lemmas.Grind.{common_steps}
use Rattle.auction_terms.specs.Day.{delete}
use Rattle.auction_terms.specs.Edits.{without_id}
use Rattle.auction_terms.specs.declared.Refusal.TheVariants.{UnknownOrder}
use Rattle.auction.proofs.DayLaws.{book_edited}
use Rattle.auction.proofs.BookLengthLaws.{length-without_id}
use Rattle.auction.proofs.OwnOrderLaws.{own_id}
use Rattle.auction.proofs.commands.DayState.delete.Goals as goal

pub invariant_of-self : goal.invariant_of-self
invariant_of-self c =
    let fields = c.self.inside in
    let id = c.in_ok-order.order.id in
    record {
      same =
          book_edited fields.config fields.auction fields.book c.delete.new.self (without_id id fields.book.orders)
          fields.book.entered fields.book.stamps c.self.invariant.same c.delete.ensures
          (omega (arith, length-without_id id fields.book.orders, c.self.invariant.same.few));
      reference = c.self.invariant.reference;
      trades = c.self.invariant.trades;
      room = c.self.invariant.room;
      small = c.self.invariant.small;
    }

pub returns-clause-outcome : goal.returns-clause-outcome
unfolding delete
returns-clause-outcome c =
    let same =
    own_id c.args.member c.args.id c.args.self.now.state.book UnknownOrder c.in_ok-order.order
    (sym c.own_order.ensures.order ∙ c.in_ok-order.was) in
    grind (arith, common_steps, same)
