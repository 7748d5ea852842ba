-- The proof of `AuctionBox::of_parts` (src/auction_box.rt); rt looks here.
use Rattle.auction_c.proofs.Boxes.{an_auction}
use Rattle.auction_c.proofs.HeldBox.{by_code}
use Rattle.auction_c.proofs.HeldMakes.{meets_of_parts}
use Rattle.auction_c.specs.contracts.auction_box.AuctionBox.of_parts as F
use Rattle.auction_c.specs.contracts.auction_box.AuctionBox.of_parts.Key.{name as #self}
use Rattle.auction_c.proofs.auction_box.AuctionBox.of_parts.Statement as stated
use Rattle.auction_c.proofs.auction_box.AuctionBox.of_parts.Code as code

pub of_parts_spec : {M : Type 1} → stated.statement M
of_parts_spec 𝓤 𝓛 𝓜 𝓡 wired =
    by_code 𝓛 𝓜 𝓡 F.signature (F.spec 𝓛 𝓜.mem 𝓡.returns) #self code.function (code.unfolded 𝓤 𝓛.H 𝓜 𝓡 wired)
    (meets_of_parts an_auction _ _ 𝓛)
