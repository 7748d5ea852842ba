-- The proof of `MemberBox::get_mut` (src/member_box.rt); rt looks here.
use Rattle.auction_c.proofs.Boxes.{a_member}
use Rattle.auction_c.proofs.HeldBox.{by_code}
use Rattle.auction_c.proofs.HeldLends.{meets}
use Rattle.auction_c.specs.contracts.member_box.MemberBox.get_mut as F
use Rattle.auction_c.specs.contracts.member_box.MemberBox.get_mut.Key.{name as #self}
use Rattle.auction_c.proofs.member_box.MemberBox.get_mut.Statement as stated
use Rattle.auction_c.proofs.member_box.MemberBox.get_mut.Code as code

pub get_mut_spec : {M : Type 1} → stated.statement M
get_mut_spec 𝓤 𝓛 𝓜 𝓡 wired =
    by_code 𝓛 𝓜 𝓡 F.signature (F.spec 𝓛 𝓜.mem 𝓡.returns) #self code.function (code.unfolded 𝓤 𝓛.H 𝓜 𝓡 wired)
    (meets a_member _ _ _ _ 𝓛)
