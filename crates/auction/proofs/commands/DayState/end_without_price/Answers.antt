-- Answers of `DayState::end_without_price` (src/commands/uncross.rt): what the prover left open; rt looks here.
-- The auction has ended without a price.
use Rattle.std.proofs.Common.{◌*◌, ◌≤◌, sym, ap, subst, ◌∙◌, arith, length}
use Rattle.auction.specs.AuctionState.{AuctionState, IsBookOf, auctions_ended}
use Rattle.auction.proofs.DayLaws.{book_ended, ended_more}
use Rattle.auction.proofs.commands.DayState.end_without_price.Goals as goal

pub invariant_of-self : goal.invariant_of-self
invariant_of-self c =
    let inside = c.self.invariant in
    let fields = c.self.inside in
    let current = ap (λ (a : AuctionState). a.state.auction) c.self.view_is ∙ c.requires in
    let next = sym c.next_auction-self-inside.ensures in
    let most = fields.config.max_open in
    let before = subst (λ a. length fields.tape.items ≤ auctions_ended a * most) current inside.trades in
    let after = ended_more c.args.kind (length fields.tape.items) 0 most before (omega arith) in
    record {
      same = subst (λ a. IsBookOf fields.config a c.end_auction.new.self) next
          (book_ended fields.config c.args.kind fields.book c.end_auction.new.self
          (subst (λ a. IsBookOf fields.config a fields.book) current inside.same) c.end_auction.ensures);
      reference = inside.reference;
      trades = subst (λ a. length fields.tape.items ≤ auctions_ended a * most) next (omega (arith, after));
      room = inside.room;
      small = inside.small;
    }
