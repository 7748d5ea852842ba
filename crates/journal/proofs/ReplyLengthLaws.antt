-- How long the texts of replies are.
use Rattle.std.proofs.Common.{◌≤◌, ◌++◌, ◌∷◌, [], ℕ, Option, Some, None, arith, length, length-append, nat_le, refl}
use Rattle.std.proofs.Common.{rules, ◌≡◌, true, false}
use Rattle.std.specs.Prelude.{IfSome, decimal, codes}
use Rattle.std.proofs.lemmas.Fmt.{length-decimal-le}
use Rattle.auction_terms.specs.declared.Side.{Side}
use Rattle.auction_terms.specs.declared.Side.TheVariants.{Bid, Ask}
use Rattle.auction_terms.specs.declared.Limit.TheVariants.{Market, At}
use Rattle.auction_terms.specs.declared.AuctionKind.TheVariants as kind
use Rattle.auction_terms.specs.declared.Price.{Price}
use Rattle.auction_terms.specs.declared.Display.TheVariants.{Priced, Unpriced}
use Rattle.auction_terms.specs.declared.Refusal.{Refusal}
use Rattle.auction_terms.specs.declared.Refusal.TheVariants as refused
use Rattle.auction_terms.specs.declared.Reply.{Reply}
use Rattle.auction_terms.specs.declared.Reply.TheVariants as reply
use Rattle.auction_terms.specs.Refusals.{refusal_number}
use Rattle.printed_lines.specs.ReplyWords.{words_text, number_word, price_words, refusal_name, reply_text, side_word}
use Rattle.journal.specs.WideReplies.{IsWide, IsWidePrice, IsWideReply}
use Rattle.journal.specs.declared.entry.TheConstants.{MAX_REPLY}
use Rattle.journal.specs.EntryRecord.{is_reply_text}
use Rattle.journal.specs.JournalPromises.{IsFieldText}
use Rattle.journal.proofs.ReplyTextLaws.{refusal-wide, reply-plain, reply-printable}

short : (n : ℕ) → IsWide n → length (decimal n) ≤ 20
short n h = length-decimal-le 20 n (omega arith) (omega arith) h

side-short : (side : Option Side) → length (side_word side) ≤ 4
side-short None = omega arith
side-short (Some Bid) = omega arith
side-short (Some Ask) = omega arith

number-short : (n : Option ℕ) → IfSome n IsWide → length (number_word n) ≤ 20
number-short None h = omega arith
number-short (Some n) h = short n h

name-short : (r : Refusal) → length (refusal_name r) ≤ 12
name-short refused.BadQuantity = omega arith
name-short refused.BadLimit = omega arith
name-short refused.BadPeak = omega arith
name-short refused.BookFull = omega arith
name-short refused.UnknownOrder = omega arith
name-short refused.NotOperator = omega arith
name-short refused.DayOver = omega arith
name-short refused.NoSuchTrade = omega arith
name-short refused.PastAuction = omega arith

price-short : (p : Price) → IsWidePrice p → length (words_text (price_words p)) ≤ 90
price-short p h =
    simp length-append (omega (arith, short p.tick h.0, short p.volume h.1, short p.surplus h.2, side-short p.side))

traded-short : (a b c d : ℕ) → IsWide a → IsWide b → IsWide c → IsWide d
    → length
    (words_text (codes "trade " ∷ decimal a ∷ codes " " ∷ decimal b ∷ codes " " ∷ decimal c ∷ codes " at "
    ∷ decimal d ∷ [])) ≤ 100
traded-short a b c d ha hb hc hd = simp length-append (omega (arith, short a ha, short b hb, short c hc, short d hd))

price-ends : (p : Price) (n : ℕ) → IsWidePrice p → IsWide n
    → length (words_text (price_words p ++ (codes " trades " ∷ decimal n ∷ []))) ≤ 120
price-ends p n h k =
    simp length-append
    (omega (arith, short p.tick h.0, short p.volume h.1, short p.surplus h.2, side-short p.side, short n k))

-- the text of a reply has at most 150 bytes
pub reply-short : (r : Reply) → IsWideReply r → length (reply_text r) ≤ 150
reply-short (reply.Entered id) h = simp length-append (omega (arith, short id h))
reply-short (reply.Changed true) h = omega arith
reply-short (reply.Changed false) h = omega arith
reply-short reply.Deleted h = omega arith
reply-short (reply.OpenOrder side Market quantity visible) h =
    simp length-append (omega (arith, side-short (Some side), short quantity h.1, short visible h.2))
reply-short (reply.OpenOrder side (At tick) quantity visible) h =
    simp length-append (omega (arith, side-short (Some side), short tick h.0, short quantity h.1, short visible h.2))
reply-short (reply.Indicated (Priced p)) h = omega (arith, price-short p h)
reply-short (reply.Indicated (Unpriced best_bid best_ask)) h =
    simp length-append (omega (arith, number-short best_bid h.0, number-short best_ask h.1))
reply-short (reply.Traded t) h = omega (arith, traded-short t.bid t.ask t.quantity t.tick h.0 h.1 h.3 h.2)
reply-short (reply.Uncrossed kind.Opening trades None) h = omega arith
reply-short (reply.Uncrossed kind.Intraday trades None) h = omega arith
reply-short (reply.Uncrossed kind.Closing trades None) h = omega arith
reply-short (reply.Uncrossed kind.Opening trades (Some p)) h = omega (arith, price-ends p trades h.1 h.0)
reply-short (reply.Uncrossed kind.Intraday trades (Some p)) h = omega (arith, price-ends p trades h.1 h.0)
reply-short (reply.Uncrossed kind.Closing trades (Some p)) h = omega (arith, price-ends p trades h.1 h.0)
reply-short (reply.Interrupted p) h = omega (arith, price-short p h)
reply-short (reply.Refused r) h =
    simp length-append (omega (arith, short (refusal_number r) (refusal-wide r), name-short r))

-- the text of a reply can be in a field without quotes
pub reply-fits : (r : Reply) → IsWideReply r → IsFieldText (reply_text r)
unfolding is_reply_text
reply-fits r h =
    let few : length (reply_text r) ≤ 150 = reply-short r h in
    let within : length (reply_text r) ≤ MAX_REPLY = omega (arith, few) in
    let test : nat_le (length (reply_text r)) MAX_REPLY ≡ true = search rules in
    record { reply = rw (test, reply-printable r h) refl; plain = reply-plain r h }
