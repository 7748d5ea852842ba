-- The proof that `MemberBox` is `Send` (src/member_box.rt); rt looks here.
use denote.Param.Send.{IsSend}
use Rattle.shared_board.proofs.member.SharedMember.TheSendSync.{the_send}
use Rattle.auction_c.proofs.Boxes.{a_member}
use Rattle.auction_c.proofs.HeldSends.{sends}
use Rattle.auction_c.specs.contracts.member_box.MemberBox.{the_row}

pub send : IsSend the_row
send = sends a_member the_send
