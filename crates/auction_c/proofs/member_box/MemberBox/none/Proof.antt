-- The proof of `MemberBox::none` (src/member_box.rt); rt looks here.
use Rattle.auction_c.proofs.Boxes.{a_member}
use Rattle.auction_c.proofs.HeldBox.{by_code}
use Rattle.auction_c.proofs.HeldMakes.{meets_none}
use Rattle.auction_c.specs.contracts.member_box.MemberBox.none as F
use Rattle.auction_c.specs.contracts.member_box.MemberBox.none.Key.{name as #self}
use Rattle.auction_c.proofs.member_box.MemberBox.none.Statement as stated
use Rattle.auction_c.proofs.member_box.MemberBox.none.Code as code

pub none_spec : {M : Type 1} → stated.statement M
none_spec 𝓤 𝓛 𝓜 𝓡 wired =
    by_code 𝓛 𝓜 𝓡 F.signature (F.spec 𝓛 𝓜.mem 𝓡.returns) #self code.function (code.unfolded 𝓤 𝓛.H 𝓜 𝓡 wired)
    (meets_none a_member 𝓛)
