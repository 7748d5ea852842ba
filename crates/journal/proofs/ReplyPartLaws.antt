-- A reply as words, and the reply of such words.
use Rattle.std.proofs.Common.{◌≡◌, ◌++◌, ◌∷◌, [], ℕ, List, Option, Some, None, refl, get_or}
use Rattle.std.specs.Prelude.{◌==◌, if◌then◌else◌, decimal, codes}
use Rattle.std.specs.Str.{bytes_eq}
use Rattle.std.specs.Str.Parse.{digits_value}
use Rattle.auction_terms.specs.declared.Side.{Side}
use Rattle.auction_terms.specs.declared.Side.TheVariants.{Bid, Ask}
use Rattle.auction_terms.specs.declared.Limit.{Limit}
use Rattle.auction_terms.specs.declared.Limit.TheVariants.{Market, At}
use Rattle.auction_terms.specs.declared.AuctionKind.{AuctionKind}
use Rattle.auction_terms.specs.declared.AuctionKind.TheVariants as kind
use Rattle.auction_terms.specs.declared.Price.{Price}
use Rattle.auction_terms.specs.declared.Display.TheVariants.{Priced, Unpriced}
use Rattle.auction_terms.specs.declared.Refusal.{Refusal}
use Rattle.auction_terms.specs.declared.Refusal.TheVariants as refused
use Rattle.auction_terms.specs.declared.Reply.{Reply}
use Rattle.auction_terms.specs.declared.Reply.TheVariants as reply
use Rattle.auction_terms.specs.Refusals.{refusal_number}
use Rattle.printed_lines.specs.ReplyWords.{side_word, kind_word, place_word, number_word, refusal_name, reply_text}
use Rattle.journal.proofs.SpacedWordLaws.{spaced}

abbrev pub price_parts : Price → List (List ℕ)
price_parts p = codes "price" ∷ decimal p.tick ∷ codes "volume" ∷ decimal p.volume ∷ codes "surplus" ∷ decimal p.surplus
    ∷ side_word p.side ∷ []

abbrev pub refusal_parts : Refusal → List (List ℕ)
refusal_parts r = decimal (refusal_number r) ∷ refusal_name r ∷ []

abbrev pub limit_parts : Limit → List (List ℕ)
limit_parts Market = codes "market" ∷ codes "visible" ∷ []
limit_parts (At tick) = codes "at" ∷ decimal tick ∷ codes "visible" ∷ []

abbrev pub uncross_parts : Option Price → ℕ → List (List ℕ)
uncross_parts None trades = codes "no" ∷ codes "price" ∷ []
uncross_parts (Some p) trades = price_parts p ++ (codes "trades" ∷ decimal trades ∷ [])

abbrev pub reply_head : Reply → List ℕ
reply_head (reply.Entered id) = codes "entered"
reply_head (reply.Changed kept) = codes "changed"
reply_head reply.Deleted = codes "deleted"
reply_head (reply.OpenOrder side limit quantity visible) = codes "order"
reply_head (reply.Indicated (Priced p)) = codes "price"
reply_head (reply.Indicated (Unpriced best_bid best_ask)) = codes "no"
reply_head (reply.Traded t) = codes "trade"
reply_head (reply.Uncrossed kind trades price) = kind_word kind
reply_head (reply.Interrupted p) = codes "interrupted"
reply_head (reply.Refused r) = codes "refused"

abbrev pub reply_rest : Reply → List (List ℕ)
reply_rest (reply.Entered id) = decimal id ∷ []
reply_rest (reply.Changed kept) = place_word kept ∷ []
reply_rest reply.Deleted = []
reply_rest (reply.OpenOrder side limit quantity visible) =
    side_word (Some side) ∷ decimal quantity ∷ limit_parts limit ++ (decimal visible ∷ [])
reply_rest (reply.Indicated (Priced p)) =
    decimal p.tick ∷ codes "volume" ∷ decimal p.volume ∷ codes "surplus" ∷ decimal p.surplus ∷ side_word p.side ∷ []
reply_rest (reply.Indicated (Unpriced best_bid best_ask)) =
    codes "price" ∷ codes "bid" ∷ number_word best_bid ∷ codes "ask" ∷ number_word best_ask ∷ []
reply_rest (reply.Traded t) = decimal t.bid ∷ decimal t.ask ∷ decimal t.quantity ∷ codes "at" ∷ decimal t.tick ∷ []
reply_rest (reply.Uncrossed kind trades price) = uncross_parts price trades
reply_rest (reply.Interrupted p) = price_parts p
reply_rest (reply.Refused r) = refusal_parts r

-- the words of a reply
abbrev pub reply_parts : Reply → List (List ℕ)
reply_parts r = reply_head r ∷ reply_rest r

pub text-spaced : (r : Reply) → reply_text r ≡ spaced (reply_parts r)
text-spaced (reply.Entered id) = refl
text-spaced (reply.Changed kept) = refl
text-spaced reply.Deleted = refl
text-spaced (reply.OpenOrder side Market quantity visible) = refl
text-spaced (reply.OpenOrder side (At tick) quantity visible) = refl
text-spaced (reply.Indicated (Priced p)) = refl
text-spaced (reply.Indicated (Unpriced best_bid best_ask)) = refl
text-spaced (reply.Traded t) = refl
text-spaced (reply.Uncrossed kind trades None) = refl
text-spaced (reply.Uncrossed kind trades (Some p)) = refl
text-spaced (reply.Interrupted p) = refl
text-spaced (reply.Refused r) = refl

-- ---- back again

abbrev value_at : List (List ℕ) → ℕ → ℕ
value_at ws k = digits_value 10 (get_or ws k [])

abbrev pub number_by : List ℕ → Option ℕ
number_by w = if bytes_eq w (codes "-") then None else Some (digits_value 10 w)

abbrev number_at : List (List ℕ) → ℕ → Option ℕ
number_at ws k = number_by (get_or ws k [])

abbrev pub side_by : List ℕ → Option Side
side_by w = if bytes_eq w (codes "bid") then Some Bid else if bytes_eq w (codes "ask") then Some Ask else None

abbrev side_at : List (List ℕ) → ℕ → Option Side
side_at ws k = side_by (get_or ws k [])

abbrev lone_side_at : List (List ℕ) → ℕ → Side
lone_side_at ws k = if bytes_eq (get_or ws k []) (codes "bid") then Bid else Ask

-- the refusal of this number
abbrev pub refusal_by : ℕ → Refusal
refusal_by n =
    if n == 1 then refused.BadQuantity
    else if n == 2 then refused.BadLimit
    else if n == 3 then refused.BadPeak
    else if n == 4 then refused.BookFull
    else if n == 5 then refused.UnknownOrder
    else if n == 6 then refused.NotOperator
    else if n == 7 then refused.DayOver
    else if n == 8 then refused.NoSuchTrade
    else refused.PastAuction

-- the price whose word comes just before the words that are given
abbrev price_from : List (List ℕ) → Price
price_from ws = record { tick = value_at ws 0; volume = value_at ws 2; surplus = value_at ws 4; side = side_at ws 5 }

abbrev uncrossed_from : AuctionKind → List (List ℕ) → Reply
uncrossed_from k [] = reply.Deleted
uncrossed_from k (w ∷ ws) =
    if bytes_eq w (codes "no") then reply.Uncrossed k 0 None
    else reply.Uncrossed k (value_at ws 7) (Some (price_from ws))

abbrev interrupted_from : List (List ℕ) → Reply
interrupted_from [] = reply.Deleted
interrupted_from (w ∷ ws) = reply.Interrupted (price_from ws)

abbrev standing_from : List (List ℕ) → Reply
standing_from ws =
    if bytes_eq (get_or ws 2 []) (codes "market")
    then reply.OpenOrder (lone_side_at ws 0) Market (value_at ws 1) (value_at ws 4)
    else reply.OpenOrder (lone_side_at ws 0) (At (value_at ws 3)) (value_at ws 1) (value_at ws 5)

abbrev reply_by : List ℕ → List (List ℕ) → Reply
reply_by w ws =
    if bytes_eq w (codes "entered") then reply.Entered (value_at ws 0)
    else if bytes_eq w (codes "changed") then reply.Changed (bytes_eq (get_or ws 0 []) (codes "kept"))
    else if bytes_eq w (codes "deleted") then reply.Deleted
    else if bytes_eq w (codes "order") then standing_from ws
    else if bytes_eq w (codes "price") then reply.Indicated (Priced (price_from ws))
    else if bytes_eq w (codes "no") then reply.Indicated (Unpriced (number_at ws 2) (number_at ws 4))
    else if bytes_eq w (codes "trade") then
    reply.Traded (record { bid = value_at ws 0; ask = value_at ws 1; tick = value_at ws 4; quantity = value_at ws 2 })
    else if bytes_eq w (codes "opening") then uncrossed_from kind.Opening ws
    else if bytes_eq w (codes "intraday") then uncrossed_from kind.Intraday ws
    else if bytes_eq w (codes "closing") then uncrossed_from kind.Closing ws
    else if bytes_eq w (codes "interrupted") then interrupted_from ws
    else reply.Refused (refusal_by (value_at ws 0))

-- the reply of these words
abbrev pub reply_of : List (List ℕ) → Reply
reply_of [] = reply.Deleted
reply_of (w ∷ ws) = reply_by w ws
