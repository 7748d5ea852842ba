-- The words of a reply, as texts that are printed one after the other.
use Rattle.std.specs.Prelude.{ℕ, List, [], ◌∷◌, ◌++◌, Bool, true, false, Option, Some, None, codes, decimal}
use Rattle.auction_terms.specs.declared.Side.{Side}
use Rattle.auction_terms.specs.declared.Side.TheVariants.{Bid, Ask}
use Rattle.auction_terms.specs.declared.Limit.{Limit}
use Rattle.auction_terms.specs.declared.Limit.TheVariants.{Market, At}
use Rattle.auction_terms.specs.declared.AuctionKind.{AuctionKind}
use Rattle.auction_terms.specs.declared.AuctionKind.TheVariants.{Opening, Intraday, Closing}
use Rattle.auction_terms.specs.declared.Price.{Price}
use Rattle.auction_terms.specs.declared.Display.TheVariants.{Priced, Unpriced}
use Rattle.auction_terms.specs.declared.Refusal.{Refusal}
use Rattle.auction_terms.specs.declared.Refusal.TheVariants as refused
use Rattle.auction_terms.specs.declared.Reply.{Reply}
use Rattle.auction_terms.specs.declared.Reply.TheVariants as reply
use Rattle.auction_terms.specs.Refusals.{refusal_number}

-- texts, one after the other
abbrev pub words_text : List (List ℕ) → List ℕ
words_text [] = []
words_text (text ∷ texts) = text ++ words_text texts

-- the side of an order, or of a surplus where there is one
abbrev pub side_word : Option Side → List ℕ
side_word (Some Bid) = codes "bid"
side_word (Some Ask) = codes "ask"
side_word None = codes "none"

abbrev pub kind_word : AuctionKind → List ℕ
kind_word Opening = codes "opening"
kind_word Intraday = codes "intraday"
kind_word Closing = codes "closing"

-- whether a changed order kept its place in time
abbrev pub place_word : Bool → List ℕ
place_word true = codes "kept"
place_word false = codes "moved"

-- a number, or a dash where there is none
abbrev pub number_word : Option ℕ → List ℕ
number_word (Some number) = decimal number
number_word None = codes "-"

abbrev pub price_words : Price → List (List ℕ)
price_words p =
    codes "price " ∷ decimal p.tick ∷ codes " volume " ∷ decimal p.volume ∷ codes " surplus " ∷ decimal p.surplus
    ∷ codes " " ∷ side_word p.side ∷ []

-- the name of a refusal
abbrev pub refusal_name : Refusal → List ℕ
refusal_name refused.BadQuantity = codes "BadQuantity"
refusal_name refused.BadLimit = codes "BadLimit"
refusal_name refused.BadPeak = codes "BadPeak"
refusal_name refused.BookFull = codes "BookFull"
refusal_name refused.UnknownOrder = codes "UnknownOrder"
refusal_name refused.NotOperator = codes "NotOperator"
refusal_name refused.DayOver = codes "DayOver"
refusal_name refused.NoSuchTrade = codes "NoSuchTrade"
refusal_name refused.PastAuction = codes "PastAuction"

abbrev pub limit_words : Limit → List (List ℕ)
limit_words Market = codes " market visible " ∷ []
limit_words (At tick) = codes " at " ∷ decimal tick ∷ codes " visible " ∷ []

abbrev pub uncross_words : Option Price → ℕ → List (List ℕ)
uncross_words None trades = codes " no price" ∷ []
uncross_words (Some p) trades = codes " " ∷ price_words p ++ (codes " trades " ∷ decimal trades ∷ [])

abbrev pub reply_words : Reply → List (List ℕ)
reply_words (reply.Entered id) = codes "entered " ∷ decimal id ∷ []
reply_words (reply.Changed kept) = codes "changed " ∷ place_word kept ∷ []
reply_words reply.Deleted = codes "deleted" ∷ []
reply_words (reply.OpenOrder side limit quantity visible) =
    codes "order " ∷ side_word (Some side) ∷ codes " " ∷ decimal quantity ∷ limit_words limit ++ (decimal visible ∷ [])
reply_words (reply.Indicated (Priced p)) = price_words p
reply_words (reply.Indicated (Unpriced best_bid best_ask)) =
    codes "no price bid " ∷ number_word best_bid ∷ codes " ask " ∷ number_word best_ask ∷ []
reply_words (reply.Traded t) =
    codes "trade " ∷ decimal t.bid ∷ codes " " ∷ decimal t.ask ∷ codes " " ∷ decimal t.quantity
    ∷ codes " at " ∷ decimal t.tick ∷ []
reply_words (reply.Uncrossed kind trades price) = kind_word kind ∷ uncross_words price trades
reply_words (reply.Interrupted p) = codes "interrupted " ∷ price_words p
reply_words (reply.Refused r) = codes "refused " ∷ decimal (refusal_number r) ∷ codes " " ∷ refusal_name r ∷ []

-- the text of a reply
abbrev pub reply_text : Reply → List ℕ
reply_text r = words_text (reply_words r)
