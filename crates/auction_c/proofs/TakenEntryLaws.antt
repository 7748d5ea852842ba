-- What the library writes of a lawful history a journal takes: each entry's struct is read back as this entry.
use Rattle.std.proofs.Common.{◌≡◌, refl, ℕ, ◌==◌, ◌∷◌, [], List, All, map, true, false}
use Rattle.std.proofs.lemmas.Bool.{eq-eqb}
use Rattle.std.proofs.lemmas.List.Elements.{All-head, All-tail}
use Rattle.std.specs.List.{AllByRecursion}
use Rattle.std.specs.Prelude.{Option, Some, None, is_some, nat_lt, unwrap_or}
use Rattle.auction_terms.specs.declared.AuctionKind.{AuctionKind}
use Rattle.auction_terms.specs.declared.AuctionKind.TheVariants.{Opening, Intraday, Closing}
use Rattle.auction_terms.specs.declared.Command.{Command}
use Rattle.auction_terms.specs.declared.Command.TheVariants.{Enter, Change, Delete, OrderStatus, Indicate, ReadTrade}
use Rattle.auction_terms.specs.declared.Command.TheVariants.{Uncross}
use Rattle.auction_terms.specs.declared.Config.{Config}
use Rattle.auction_terms.specs.declared.Display.TheVariants.{Priced, Unpriced}
use Rattle.auction_terms.specs.declared.Entry.{Entry}
use Rattle.auction_terms.specs.declared.Limit.{Limit}
use Rattle.auction_terms.specs.declared.Limit.TheVariants.{Market, At}
use Rattle.auction_terms.specs.declared.Refusal.{Refusal}
use Rattle.auction_terms.specs.declared.Refusal.TheVariants as refused
use Rattle.auction_terms.specs.declared.Reply.{Reply}
use Rattle.auction_terms.specs.declared.Reply.TheVariants.{Entered, Changed, Deleted, OpenOrder, Indicated, Traded}
use Rattle.auction_terms.specs.declared.Reply.TheVariants.{Uncrossed, Interrupted, Refused as IsRefused}
use Rattle.auction_terms.specs.declared.Restriction.{Restriction}
use Rattle.auction_terms.specs.declared.Restriction.TheVariants.{Unrestricted, OpeningOnly, ClosingOnly}
use Rattle.auction_terms.specs.declared.Side.{Side}
use Rattle.auction_terms.specs.declared.Side.TheVariants.{Bid, Ask}
use Rattle.auction_terms.specs.declared.limits.TheConstants.{MAX_MEMBERS}
use Rattle.auction_terms.specs.Book.{tick_of}
use Rattle.auction_terms.specs.Day.{IsLegal, calls_of, opening_state}
use Rattle.journal.proofs.ReplayTextLaws.{replies-are-fully-printed}
use Rattle.journal.specs.WideReplies.{IsFullyPrinted}
use Rattle.auction_c.specs.Decoding.{command_in, decoded_restriction, flagged_in, limit_in, side_in}
use Rattle.auction_c.specs.Encoding.{auction_kind_out, command_out, entry_out, flag_out, reply_out, restriction_out}
use Rattle.auction_c.specs.Encoding.{side_out, surplus_side_out}
use Rattle.auction_c.specs.Journals.{decoded_entry, decoded_reply, fits_record, is_fully_printed, is_same_reply}
use Rattle.auction_c.specs.Journals.{recordable_command}
use Rattle.auction_c.specs.ReadBack.{auction_back, reply_back, surplus_side_back, tick_back}
use Rattle.auction_c.specs.declared.structs.AuctionReply.{AuctionReply}

-- ---- commands

side_reads_back : (side : Side) → side_in (side_out side) ≡ Some side
side_reads_back Bid = refl
side_reads_back Ask = refl

restriction_reads_back : (restriction : Restriction)
    → decoded_restriction (restriction_out restriction) ≡ Some restriction
restriction_reads_back Unrestricted = refl
restriction_reads_back OpeningOnly = refl
restriction_reads_back ClosingOnly = refl

limit_reads_back : (limit : Limit)
    → limit_in (flag_out (is_some (tick_of limit))) (unwrap_or (tick_of limit) 0) ≡ Some limit
limit_reads_back Market = refl
limit_reads_back (At tick) = refl

peak_reads_back : (peak : Option ℕ) → flagged_in (flag_out (is_some peak)) (unwrap_or peak 0) ≡ Some peak
peak_reads_back None = refl
peak_reads_back (Some peak) = refl

command_reads_back : (member : ℕ) (command : Command) → command_in (command_out member command) ≡ Some command
command_reads_back member (Enter side restriction limit quantity peak) =
    rw (side_reads_back side, restriction_reads_back restriction, limit_reads_back limit, peak_reads_back peak) refl
command_reads_back member (Change id limit quantity) = rw (limit_reads_back limit) refl
command_reads_back member (Delete id) = refl
command_reads_back member (OrderStatus id) = refl
command_reads_back member Indicate = refl
command_reads_back member (ReadTrade number) = refl
command_reads_back member Uncross = refl

has_member : (member : ℕ) (command : Command) → (command_out member command).member ≡ member
has_member member (Enter side restriction limit quantity peak) = refl
has_member member (Change id limit quantity) = refl
has_member member (Delete id) = refl
has_member member (OrderStatus id) = refl
has_member member Indicate = refl
has_member member (ReadTrade number) = refl
has_member member Uncross = refl

-- ---- replies

surplus_side_reads_back : (side : Option Side) → surplus_side_back (surplus_side_out side) ≡ side
surplus_side_reads_back None = refl
surplus_side_reads_back (Some Bid) = refl
surplus_side_reads_back (Some Ask) = refl

tick_reads_back : (tick : Option ℕ) → tick_back (flag_out (is_some tick)) (unwrap_or tick 0) ≡ tick
tick_reads_back None = refl
tick_reads_back (Some tick) = refl

kind_reads_back : (kind : AuctionKind) → auction_back (auction_kind_out kind) ≡ kind
kind_reads_back Opening = refl
kind_reads_back Intraday = refl
kind_reads_back Closing = refl

refusal_reads_back : (reason : Refusal) → reply_back (reply_out (IsRefused reason)) ≡ IsRefused reason
refusal_reads_back refused.BadQuantity = refl
refusal_reads_back refused.BadLimit = refl
refusal_reads_back refused.BadPeak = refl
refusal_reads_back refused.BookFull = refl
refusal_reads_back refused.UnknownOrder = refl
refusal_reads_back refused.NotOperator = refl
refusal_reads_back refused.DayOver = refl
refusal_reads_back refused.NoSuchTrade = refl
refusal_reads_back refused.PastAuction = refl

open_order_reads_back : (side : Side) (limit : Limit) (quantity visible : ℕ)
    → reply_back (reply_out (OpenOrder side limit quantity visible)) ≡ OpenOrder side limit quantity visible
open_order_reads_back Bid Market quantity visible = refl
open_order_reads_back Bid (At tick) quantity visible = refl
open_order_reads_back Ask Market quantity visible = refl
open_order_reads_back Ask (At tick) quantity visible = refl

reply_reads_back : (reply : Reply) → reply_back (reply_out reply) ≡ reply
reply_reads_back (Entered id) = refl
reply_reads_back (Changed true) = refl
reply_reads_back (Changed false) = refl
reply_reads_back Deleted = refl
reply_reads_back (OpenOrder side limit quantity visible) = open_order_reads_back side limit quantity visible
reply_reads_back (Indicated (Priced price)) = rw (surplus_side_reads_back price.side) refl
reply_reads_back (Indicated (Unpriced best_bid best_ask)) =
    rw (tick_reads_back best_bid, tick_reads_back best_ask) refl
reply_reads_back (Traded trade) = refl
reply_reads_back (Uncrossed kind trades None) = rw (kind_reads_back kind) refl
reply_reads_back (Uncrossed kind trades (Some price)) =
    rw (kind_reads_back kind, surplus_side_reads_back price.side) refl
reply_reads_back (Interrupted price) = rw (surplus_side_reads_back price.side) refl
reply_reads_back (IsRefused reason) = refusal_reads_back reason

same : (n : ℕ) → (n == n) ≡ true
same n = eq-eqb n n refl

is_same_as_itself : (r : AuctionReply) → is_same_reply r r ≡ true
is_same_as_itself r =
    rw (
      same r.quantity,
      same r.visible,
      same r.volume,
      same r.surplus,
      same r.id,
      same r.ask,
      same r.tick,
      same r.trades,
      same r.best_bid,
      same r.best_ask,
      same r.tag,
      same r.side,
      same r.auction,
      same r.kept,
      same r.refusal,
      same r.has_tick,
      same r.has_best_bid,
      same r.has_best_ask,
    ) refl

is_printed : (reply : Reply) → IsFullyPrinted reply → is_fully_printed reply ≡ true
is_printed (Entered id) holds = refl
is_printed (Changed kept) holds = refl
is_printed Deleted holds = refl
is_printed (OpenOrder side limit quantity visible) holds = refl
is_printed (Indicated display) holds = refl
is_printed (Traded trade) holds = refl
is_printed (Uncrossed kind trades None) holds = rw holds refl
is_printed (Uncrossed kind trades (Some price)) holds = refl
is_printed (Interrupted price) holds = refl
is_printed (IsRefused reason) holds = refl

reply_is_taken : (reply : Reply) → IsFullyPrinted reply → decoded_reply (reply_out reply) ≡ Some reply
unfolding decoded_reply
reply_is_taken reply holds =
    rw (reply_reads_back reply, is_same_as_itself (reply_out reply), is_printed reply holds) refl

-- ---- entries

-- a record holds the entry, as it does each that was entered or changed
abbrev pub IsRecordable : Entry → Type 0
IsRecordable e = (nat_lt e.member MAX_MEMBERS ≡ true) × (fits_record e.command ≡ true)

command_is_taken : (e : Entry) → IsRecordable e
    → recordable_command (command_out e.member e.command) ≡ Some e.command
command_is_taken e holds =
    rw (command_reads_back e.member e.command, has_member e.member e.command, holds.0, holds.1) refl

pub entry_is_taken : (e : Entry) → IsRecordable e → IsFullyPrinted e.reply → decoded_entry (entry_out e) ≡ Some e
unfolding decoded_entry
entry_is_taken e holds is_whole =
    rw (command_is_taken e holds, reply_is_taken e.reply is_whole, has_member e.member e.command) refl

entries_are_taken : (entries : List Entry) → All IsRecordable entries
    → AllByRecursion IsFullyPrinted (map (λ (e : Entry). e.reply) entries)
    → map decoded_entry (map entry_out entries) ≡ map Some entries
entries_are_taken [] all whole = refl
entries_are_taken (e ∷ es) all whole =
    rw (
      entry_is_taken e (All-head IsRecordable e es all) whole.0,
      entries_are_taken es (All-tail IsRecordable e es all) whole.1,
    ) refl

-- a lawful history: the text of each reply of a replay says all of it
pub history_is_taken : (config : Config) (history : List Entry) → IsLegal config history → All IsRecordable history
    → map decoded_entry (map entry_out history) ≡ map Some history
history_is_taken config history legal all =
    entries_are_taken history all
    (rw legal.replies (replies-are-fully-printed config (opening_state config) (calls_of history)))
