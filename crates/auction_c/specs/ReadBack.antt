-- The reply that a struct says, if it was written for one.
use Rattle.std.specs.Prelude.{ℕ, Option, Some, None, ◌==◌, if◌then◌else◌}
use Rattle.auction_terms.specs.declared.Side.{Side}
use Rattle.auction_terms.specs.declared.Side.TheVariants.{Bid, Ask}
use Rattle.auction_terms.specs.declared.Limit.{Limit}
use Rattle.auction_terms.specs.declared.Limit.TheVariants.{Market, At}
use Rattle.auction_terms.specs.declared.AuctionKind.{AuctionKind}
use Rattle.auction_terms.specs.declared.AuctionKind.TheVariants.{Opening, Intraday, Closing}
use Rattle.auction_terms.specs.declared.Price.{Price}
use Rattle.auction_terms.specs.declared.Display.TheVariants.{Priced, Unpriced}
use Rattle.auction_terms.specs.declared.Refusal.{Refusal}
use Rattle.auction_terms.specs.declared.Refusal.TheVariants.{BadQuantity, BadLimit, BadPeak, BookFull, UnknownOrder}
use Rattle.auction_terms.specs.declared.Refusal.TheVariants.{NotOperator, DayOver, NoSuchTrade, PastAuction}
use Rattle.auction_terms.specs.declared.Reply.{Reply}
use Rattle.auction_terms.specs.declared.Reply.TheVariants.{Entered, Changed, Deleted, OpenOrder, Indicated, Traded}
use Rattle.auction_terms.specs.declared.Reply.TheVariants.{Uncrossed, Interrupted, Refused as IsRefused}
use Rattle.auction_c.specs.declared.structs.AuctionReply.{AuctionReply}

abbrev pub bid_or_ask_back : ℕ → Side
bid_or_ask_back n = if n == 1 then Bid else Ask

abbrev pub surplus_side_back : ℕ → Option Side
surplus_side_back n = if n == 0 then None else Some (bid_or_ask_back n)

abbrev pub auction_back : ℕ → AuctionKind
auction_back n = if n == 1 then Opening else if n == 2 then Intraday else Closing

abbrev pub refusal_back : ℕ → Refusal
refusal_back n =
    if n == 1 then BadQuantity
    else if n == 2 then BadLimit
    else if n == 3 then BadPeak
    else if n == 4 then BookFull
    else if n == 5 then UnknownOrder
    else if n == 6 then NotOperator
    else if n == 7 then DayOver
    else if n == 8 then NoSuchTrade
    else PastAuction

abbrev pub tick_back : ℕ → ℕ → Option ℕ
tick_back flag tick = if flag == 1 then Some tick else None

abbrev pub limit_back : ℕ → ℕ → Limit
limit_back flag tick = if flag == 1 then At tick else Market

abbrev pub price_back : AuctionReply → Price
price_back r = record { tick = r.tick; side = surplus_side_back r.side; volume = r.volume; surplus = r.surplus }

abbrev pub reply_back : AuctionReply → Reply
reply_back r =
    if r.tag == 1 then Entered r.id
    else if r.tag == 2 then Changed (r.kept == 1)
    else if r.tag == 3 then Deleted
    else if r.tag == 4 then OpenOrder (bid_or_ask_back r.side) (limit_back r.has_tick r.tick) r.quantity r.visible
    else if r.tag == 5 then Indicated (Priced (price_back r))
    else if r.tag == 6
    then Indicated (Unpriced (tick_back r.has_best_bid r.best_bid) (tick_back r.has_best_ask r.best_ask))
    else if r.tag == 7 then Traded (record { bid = r.id; ask = r.ask; tick = r.tick; quantity = r.quantity })
    else if r.tag == 8
    then Uncrossed (auction_back r.auction) r.trades (if r.has_tick == 1 then Some (price_back r) else None)
    else if r.tag == 9 then Interrupted (price_back r)
    else IsRefused (refusal_back r.refusal)
