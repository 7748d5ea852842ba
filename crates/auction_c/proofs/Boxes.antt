-- The two boxes that C holds: of an auction, and of a member of a board.
use mathlib.Core.Path.{refl}
use Rattle.auction.specs.contracts.Auction as Auction
use Rattle.auction.proofs.Auction.TheLaws as auction_laws
use Rattle.shared_board.specs.contracts.member.SharedMember as Member
use Rattle.shared_board.proofs.member.SharedMember.TheLaws as member_laws
use Rattle.auction_c.specs.contracts.auction_box.AuctionBox as AuctionBox
use Rattle.auction_c.specs.contracts.member_box.MemberBox as MemberBox
use Rattle.auction_c.proofs.HeldBox.{Held}

abbrev pub an_auction : Held
an_auction = record {
  of = Auction.the_row;
  laws = auction_laws.the_row_laws;
  name = AuctionBox.the_type.name;
  Boxed = AuctionBox.the_row.Denot;
  inside = λ h. (h.at, (h.alloc, h.value));
  make = λ p a o. record { at = p; alloc = a; value = o };
  makes = λ p a o. refl;
  coded = AuctionBox.the_type.coded;
  shr_at = AuctionBox.the_type.shr_at;
}

abbrev pub a_member : Held
a_member = record {
  of = Member.the_row;
  laws = member_laws.the_row_laws;
  name = MemberBox.the_type.name;
  Boxed = MemberBox.the_row.Denot;
  inside = λ h. (h.at, (h.alloc, h.value));
  make = λ p a o. record { at = p; alloc = a; value = o };
  makes = λ p a o. refl;
  coded = MemberBox.the_type.coded;
  shr_at = MemberBox.the_type.shr_at;
}
