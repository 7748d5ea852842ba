-- Answers of `print_ladder` (src/book.rt): what the prover left open; rt looks here.
use Rattle.std.proofs.Common.{refl}
use Rattle.auction_terms.specs.Auxiliary.RunningAuction.{RunningAuction}
use Rattle.auction.specs.AuctionState.{current_orders}
use Rattle.day_tables.proofs.BookTableLaws.{places_drawn, table-printed, own_room, own_curves}
use Rattle.day_tables.proofs.book.print_ladder.Goals as goal

pub rule-rule-requires : goal.rule-rule-requires
rule-rule-requires g c = own_room _ _ c.follow.ensures.room

pub print_rows-requires : goal.print_rows-requires
print_rows-requires g c =
    places_drawn c.args.ladder.now _ c.low.ensures.sound
    (record {
      low = c.low.ensures.value;
      market_bids = c.market.ensures;
      market_asks = c.market-2.ensures;
      bids = c.bids.ensures.value;
      asks = c.asks.ensures.value;
    })
    c.follow.ensures.room

pub returns-clause-printed : goal.returns-clause-printed
returns-clause-printed g c = λ config state is.
    let v = c.args.ladder.now in
    let auction : RunningAuction = record { config = config; state = state; calls = 0 } in
    let curves = c.follow.ensures.curves (current_orders state) is.book in
    rw (← table-printed auction c.args.heading.command c.args.heading.kind v _ is.told.auction is.over
    c.low.ensures.sound is.book
    (record {
      low = c.low.ensures.value;
      market_bids = c.market.ensures;
      market_asks = c.market-2.ensures;
      bids = c.bids.ensures.value;
      asks = c.asks.ensures.value;
    })
    refl refl curves is.told.price
    (c.rule-rule.ensures v.low (current_orders state) (own_curves _ _ _ _ curves))) c.print_rows.ensures
