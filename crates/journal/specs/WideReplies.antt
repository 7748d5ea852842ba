-- Replies of which no two have one text.
use Rattle.std.specs.Prelude.{◌≡◌, ℕ, ◌<◌, ◌^◌, List, Option, Some, None, IfSome}
use Rattle.std.specs.List.{AllByRecursion}
use Rattle.auction_terms.specs.declared.Entry.{Entry}
use Rattle.auction_terms.specs.declared.Limit.{Limit}
use Rattle.auction_terms.specs.declared.Limit.TheVariants.{Market, At}
use Rattle.auction_terms.specs.declared.Price.{Price}
use Rattle.auction_terms.specs.declared.Trade.{Trade}
use Rattle.auction_terms.specs.declared.Display.TheVariants.{Priced, Unpriced}
use Rattle.auction_terms.specs.declared.Reply.{Reply}
use Rattle.auction_terms.specs.declared.Reply.TheVariants as reply

abbrev pub IsWide : ℕ → Type 0
IsWide n = n < 2 ^ 64

abbrev pub HasWideTick : Limit → Type 0
HasWideTick Market = Unit {0}
HasWideTick (At tick) = IsWide tick

abbrev pub IsWidePrice : Price → Type 0
IsWidePrice p = IsWide p.tick × IsWide p.volume × IsWide p.surplus

abbrev pub IsWideTrade : Trade → Type 0
IsWideTrade t = IsWide t.bid × IsWide t.ask × IsWide t.tick × IsWide t.quantity

abbrev pub IsWideUncross : ℕ → Option Price → Type 0
IsWideUncross trades None = Unit {0}
IsWideUncross trades (Some p) = IsWide trades × IsWidePrice p

-- each number of the reply is below 2 ^ 64
abbrev pub IsWideReply : Reply → Type 0
IsWideReply (reply.Entered id) = IsWide id
IsWideReply (reply.Changed kept) = Unit {0}
IsWideReply reply.Deleted = Unit {0}
IsWideReply (reply.OpenOrder side limit quantity visible) = HasWideTick limit × IsWide quantity × IsWide visible
IsWideReply (reply.Indicated (Priced p)) = IsWidePrice p
IsWideReply (reply.Indicated (Unpriced best_bid best_ask)) = IfSome best_bid IsWide × IfSome best_ask IsWide
IsWideReply (reply.Traded t) = IsWideTrade t
IsWideReply (reply.Uncrossed kind trades price) = IsWideUncross trades price
IsWideReply (reply.Interrupted p) = IsWidePrice p
IsWideReply (reply.Refused r) = Unit {0}

-- and so is each of the replies of these entries
abbrev pub AreWide : List Entry → Type 0
AreWide entries = AllByRecursion (λ (entry : Entry). IsWideReply entry.reply) entries

abbrev pub IsFullyPrintedUncross : ℕ → Option Price → Type 0
IsFullyPrintedUncross trades None = trades ≡ 0
IsFullyPrintedUncross trades (Some p) = Unit {0}

-- no trades are reported of an auction without a price, as its text doesn't say how many
abbrev pub IsFullyPrinted : Reply → Type 0
IsFullyPrinted (reply.Entered id) = Unit {0}
IsFullyPrinted (reply.Changed kept) = Unit {0}
IsFullyPrinted reply.Deleted = Unit {0}
IsFullyPrinted (reply.OpenOrder side limit quantity visible) = Unit {0}
IsFullyPrinted (reply.Indicated display) = Unit {0}
IsFullyPrinted (reply.Traded t) = Unit {0}
IsFullyPrinted (reply.Uncrossed kind trades price) = IsFullyPrintedUncross trades price
IsFullyPrinted (reply.Interrupted p) = Unit {0}
IsFullyPrinted (reply.Refused r) = Unit {0}
