-- The proof that `AuctionBox` is `Send` (src/auction_box.rt); rt looks here.
use denote.Param.Send.{IsSend}
use Rattle.auction.proofs.Auction.TheSendSync.{the_send}
use Rattle.auction_c.proofs.Boxes.{an_auction}
use Rattle.auction_c.proofs.HeldSends.{sends}
use Rattle.auction_c.specs.contracts.auction_box.AuctionBox.{the_row}

pub send : IsSend the_row
send = sends an_auction the_send
