-- The table of the day's trades.
use Rattle.std.specs.Prelude.{ℕ, ◌+◌, ◌==◌, Bool, false, List, [], ◌∷◌, ◌++◌, Option, Some, None, find, option_map}
use Rattle.std.specs.Prelude.{replicate, codes, decimal}
use Rattle.std.specs.Option.{option_map_or}
use Rattle.std.specs.List.{flat_map}
use Rattle.auction_terms.specs.declared.Config.{Config}
use Rattle.auction_terms.specs.declared.Entry.{Entry}
use Rattle.auction_terms.specs.declared.AuctionKind.{AuctionKind}
use Rattle.auction_terms.specs.declared.Reply.{Reply}
use Rattle.auction_terms.specs.declared.Reply.TheVariants.{Entered, Changed, Deleted, OpenOrder, Indicated, Traded}
use Rattle.auction_terms.specs.declared.Reply.TheVariants.{Uncrossed, Interrupted, Refused}
use Rattle.auction_terms.specs.declared.Trade.{Trade}
use Rattle.auction_terms.specs.Day.{calls_of, replay}
use Rattle.printed_lines.specs.ReplyWords.{kind_word}
use Rattle.printed_lines.specs.CsvRecord.{csv_record}

abbrev pub trades_header : List ℕ
trades_header = codes "trade,auction,bid,bid_member,ask,ask_member,quantity,tick\n"

-- ---- the member that entered an order

-- the id that a reply gives an order
abbrev pub entered_id : Reply → Option ℕ
entered_id (Entered id) = Some id
entered_id (Changed kept) = None
entered_id Deleted = None
entered_id (OpenOrder side limit quantity visible) = None
entered_id (Indicated display) = None
entered_id (Traded trade) = None
entered_id (Uncrossed kind trades price) = None
entered_id (Interrupted price) = None
entered_id (Refused reason) = None

abbrev pub has_entered_id : ℕ → Entry → Bool
has_entered_id id entry = option_map_or (λ told. told == id) (entered_id entry.reply) false

-- the member of the entry that was answered with this id
unfoldable pub member_who_entered : List Entry → ℕ → Option ℕ
member_who_entered entries id = option_map (λ entry. entry.member) (find (has_entered_id id) entries)

abbrev pub member_word : Option ℕ → List ℕ
member_word member = option_map_or decimal member []

-- ---- the auction that made a trade

-- the auction, once for each trade that it made
abbrev pub auctions_of_reply : Reply → List AuctionKind
auctions_of_reply (Entered id) = []
auctions_of_reply (Changed kept) = []
auctions_of_reply Deleted = []
auctions_of_reply (OpenOrder side limit quantity visible) = []
auctions_of_reply (Indicated display) = []
auctions_of_reply (Traded trade) = []
auctions_of_reply (Uncrossed kind trades price) = replicate trades kind
auctions_of_reply (Interrupted price) = []
auctions_of_reply (Refused reason) = []

-- trade by trade the auctions of the day
unfoldable pub trade_auctions : List Entry → List AuctionKind
trade_auctions entries = flat_map (λ entry. auctions_of_reply entry.reply) entries

-- ---- the table

-- the record of a trade, by its number and by who entered an order
unfoldable pub trade_record : (ℕ → Option ℕ) → ℕ → AuctionKind → Trade → List ℕ
trade_record member number kind trade =
    csv_record (decimal number ∷ kind_word kind
    ∷ decimal trade.bid ∷ member_word (member trade.bid) ∷ decimal trade.ask ∷ member_word (member trade.ask)
    ∷ decimal trade.quantity ∷ decimal trade.tick ∷ [])

-- the records of trades after the first `before`, each with its auction
unfoldable pub trade_records : (ℕ → Option ℕ) → ℕ → List AuctionKind → List Trade → List ℕ
trade_records member before [] tape = []
trade_records member before (kind ∷ kinds) [] = []
trade_records member before (kind ∷ kinds) (trade ∷ tape) =
    trade_record member (before + 1) kind trade ++ trade_records member (before + 1) kinds tape

-- the tape of the day, trade by trade
unfoldable pub trades_text : Config → List Entry → List ℕ
trades_text config entries =
    trades_header
    ++ trade_records (member_who_entered entries) 0 (trade_auctions entries) (replay config (calls_of entries)).0.tape
