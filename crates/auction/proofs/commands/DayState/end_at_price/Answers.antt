-- Answers of `DayState::end_at_price` (src/commands/uncross.rt): what the prover left open; rt looks here.
-- The auction has ended at a price within the bounds.
use Rattle.std.proofs.Common.{◌*◌, ◌≤◌, sym, ap, subst, ◌∙◌, arith, length, length-append}
use Rattle.std.proofs.lemmas.List.Elements.{All-append}
use Rattle.auction_terms.specs.declared.limits.TheConstants.{MAX_QUANTITY}
use Rattle.auction_terms.specs.declared.Trade.{Trade}
use Rattle.auction_terms.specs.Book.{auction_orders}
use Rattle.auction_terms.specs.Allotment.{rest_in, trades}
use Rattle.auction.specs.AuctionState.{AuctionState, IsBookOf, IsBoundedBy, auctions_ended}
use Rattle.auction.specs.Executions.{AreSmall}
use Rattle.auction.proofs.DayLaws.{book_edited, book_ended, ended_more}
use Rattle.auction.proofs.BookLengthLaws.{length-rest_in}
use Rattle.auction.proofs.commands.DayState.end_at_price.Goals as goal

pub invariant_of-self : goal.invariant_of-self
invariant_of-self c =
    let inside = c.self.invariant in
    let fields = c.self.inside in
    let tick = c.args.price.tick in
    let current = ap (λ (a : AuctionState). a.state.auction) c.self.view_is ∙ c.requires.current in
    let next = sym c.next_auction-self-inside.ensures in
    let rest = rest_in fields.book.kind fields.book.orders tick in
    let middle =
    book_edited fields.config fields.auction fields.book c.uncross-trades.new.self rest fields.book.entered
    fields.book.stamps inside.same c.uncross-trades.ensures.book
    (omega (arith, length-rest_in fields.book.kind fields.book.orders tick, inside.same.few)) in
    let most = fields.config.max_open in
    let before = subst (λ a. length fields.tape.items ≤ auctions_ended a * most) current inside.trades in
    let made = length (trades (auction_orders fields.book.orders fields.book.kind) tick) in
    let few : made ≤ most =
    omega (arith, c.uncross-trades.ensures.count, c.uncross-trades.ensures.few, inside.same.few) in
    let after = ended_more c.args.kind (length fields.tape.items) made most before few in
    let tape =
    ap length c.uncross-trades.ensures.tape
    ∙ length-append fields.tape.items (trades (auction_orders fields.book.orders fields.book.kind) tick) in
    record {
      same = subst (λ a. IsBookOf fields.config a c.end_auction.new.self) next
          (book_ended fields.config c.args.kind c.uncross-trades.new.self c.end_auction.new.self
          (subst (λ a. IsBookOf fields.config a c.uncross-trades.new.self) current middle) c.end_auction.ensures);
      reference = subst (λ (a : AuctionState). IsBoundedBy a.config tick) (sym c.self.view_is) c.requires.within;
      trades =
          subst (λ a. length c.uncross-trades.new.tape.items ≤ auctions_ended a * most) next
          (omega (arith, after, tape));
      room = omega (arith, inside.room, c.uncross-trades.ensures.capacity);
      small = subst AreSmall (sym c.uncross-trades.ensures.tape)
          (All-append (λ (t : Trade). t.quantity ≤ MAX_QUANTITY) fields.tape.items
          (trades (auction_orders fields.book.orders fields.book.kind) tick) inside.small
          c.uncross-trades.ensures.small);
    }
