-- The proof of `MemberBox::of_parts` (src/member_box.rt); rt looks here.
use Rattle.auction_c.proofs.Boxes.{a_member}
use Rattle.auction_c.proofs.HeldBox.{by_code}
use Rattle.auction_c.proofs.HeldMakes.{meets_of_parts}
use Rattle.auction_c.specs.contracts.member_box.MemberBox.of_parts as F
use Rattle.auction_c.specs.contracts.member_box.MemberBox.of_parts.Key.{name as #self}
use Rattle.auction_c.proofs.member_box.MemberBox.of_parts.Statement as stated
use Rattle.auction_c.proofs.member_box.MemberBox.of_parts.Code as code

pub of_parts_spec : {M : Type 1} → stated.statement M
of_parts_spec 𝓤 𝓛 𝓜 𝓡 wired =
    by_code 𝓛 𝓜 𝓡 F.signature (F.spec 𝓛 𝓜.mem 𝓡.returns) #self code.function (code.unfolded 𝓤 𝓛.H 𝓜 𝓡 wired)
    (meets_of_parts a_member _ _ 𝓛)
