-- What is held once the member was lent.
use Rattle.std.specs.Borrow.{Lends, MutBor, Fml}
use Rattle.std.specs.Prelude.{Some}
use Rattle.board_terms.specs.BoardViews.{BoardMember}
use Rattle.shared_board.specs.contracts.member.SharedMember.{the_row as member_row}
use Rattle.auction_c.specs.declared.member_box.MemberBox.{MemberBox}
use Rattle.auction_c.specs.contracts.member_box.MemberBox.{the_row}

-- h with the member w
abbrev pub holding_this : MemberBox → BoardMember → MemberBox
holding_this h w = record { at = h.at; alloc = h.alloc; value = Some w }

-- h ends with the last member behind r
abbrev pub MemberBoxLends : MutBor MemberBox → MutBor BoardMember → Fml
MemberBoxLends h r = Lends the_row member_row h r (holding_this h.now)
