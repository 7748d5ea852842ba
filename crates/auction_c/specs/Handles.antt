-- What a call leaves of a handle as it was.
use Rattle.std.specs.Prelude.{◌≡◌}
use Rattle.auction_c.specs.declared.handle.AuctionHandle.{AuctionHandle}
use Rattle.auction_c.specs.declared.member_handle.AuctionMember.{AuctionMember}

-- the day's reserve, and where the callers' numbers of orders are kept
abbrev pub KeepsTerms : AuctionHandle → AuctionHandle → Type 0
KeepsTerms old new = (new.reserve ≡ old.reserve) × (new.clients ≡ old.clients)

abbrev pub KeepsMemberTerms : AuctionMember → AuctionMember → Type 0
KeepsMemberTerms old new = (new.reserve ≡ old.reserve) × (new.clients ≡ old.clients)

-- all of it
abbrev pub IsHandleUnchanged : AuctionHandle → AuctionHandle → Type 0
IsHandleUnchanged old new = (new.boxed.value ≡ old.boxed.value) × KeepsTerms old new

abbrev pub IsMemberUnchanged : AuctionMember → AuctionMember → Type 0
IsMemberUnchanged old new = (new.boxed.value ≡ old.boxed.value) × KeepsMemberTerms old new
