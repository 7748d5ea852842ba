-- The proof of `AuctionBox::none` (src/auction_box.rt); rt looks here.
use Rattle.auction_c.proofs.Boxes.{an_auction}
use Rattle.auction_c.proofs.HeldBox.{by_code}
use Rattle.auction_c.proofs.HeldMakes.{meets_none}
use Rattle.auction_c.specs.contracts.auction_box.AuctionBox.none as F
use Rattle.auction_c.specs.contracts.auction_box.AuctionBox.none.Key.{name as #self}
use Rattle.auction_c.proofs.auction_box.AuctionBox.none.Statement as stated
use Rattle.auction_c.proofs.auction_box.AuctionBox.none.Code as code

pub none_spec : {M : Type 1} → stated.statement M
none_spec 𝓤 𝓛 𝓜 𝓡 wired =
    by_code 𝓛 𝓜 𝓡 F.signature (F.spec 𝓛 𝓜.mem 𝓡.returns) #self code.function (code.unfolded 𝓤 𝓛.H 𝓜 𝓡 wired)
    (meets_none an_auction 𝓛)
