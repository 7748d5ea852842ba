-- What is held once the auction was lent.
use Rattle.std.specs.Borrow.{Lends, MutBor, Fml}
use Rattle.std.specs.Prelude.{Some}
use Rattle.auction_terms.specs.Auxiliary.RunningAuction.{RunningAuction}
use Rattle.auction.specs.contracts.Auction.{the_row as auction_row}
use Rattle.auction_c.specs.declared.auction_box.AuctionBox.{AuctionBox}
use Rattle.auction_c.specs.contracts.auction_box.AuctionBox.{the_row}

-- h with the auction w
abbrev pub with_auction : AuctionBox → RunningAuction → AuctionBox
with_auction h w = record { at = h.at; alloc = h.alloc; value = Some w }

-- h ends with the last auction behind r
abbrev pub AuctionBoxLends : MutBor AuctionBox → MutBor RunningAuction → Fml
AuctionBoxLends h r = Lends the_row auction_row h r (with_auction h.now)
