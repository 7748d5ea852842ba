-- Replies differ in their texts, which have no mark of a record's format in them.
use Rattle.std.proofs.Common.{◌≡◌, ◌<◌, ◌++◌, ◌∷◌, ◌∙◌, [], ℕ, List, Option, Some, None, true, false, refl, sym, ap}
use Rattle.std.proofs.Common.{arith, length}
use Rattle.std.specs.Prelude.{IfSome, decimal, codes}
use Rattle.std.specs.List.{AllByRecursion, list_all}
use Rattle.journal.specs.EntryRecord.{is_printable}
use Rattle.std.specs.Str.{bytes_eq}
use Rattle.std.specs.Str.Parse.{digits_value}
use Rattle.std.proofs.lemmas.Fmt.{decimal_is_IsNumeral}
use Rattle.auction_terms.specs.declared.Side.{Side}
use Rattle.auction_terms.specs.declared.Side.TheVariants.{Bid, Ask}
use Rattle.auction_terms.specs.declared.Limit.TheVariants.{Market, At}
use Rattle.auction_terms.specs.declared.AuctionKind.{AuctionKind}
use Rattle.auction_terms.specs.declared.AuctionKind.TheVariants as kind
use Rattle.auction_terms.specs.declared.Price.{Price}
use Rattle.auction_terms.specs.declared.Display.TheVariants.{Priced, Unpriced}
use Rattle.auction_terms.specs.declared.Refusal.{Refusal}
use Rattle.auction_terms.specs.declared.Refusal.TheVariants as refused
use Rattle.auction_terms.specs.declared.Reply.{Reply}
use Rattle.auction_terms.specs.declared.Reply.TheVariants as reply
use Rattle.auction_terms.specs.Refusals.{refusal_number}
use Rattle.printed_lines.specs.ReplyWords.{side_word, kind_word, number_word, refusal_name, reply_text}
use Rattle.journal.specs.PlainLines.{IsPlain}
use Rattle.journal.specs.WideReplies.{IsFullyPrinted, IsWide, IsWidePrice, IsWideReply}
use Rattle.journal.proofs.CallFieldLaws.{first-digit, not-word}
use Rattle.journal.proofs.SpacedWordLaws.{IsWord, decimal-word, spaced-plain, spaced-printable, words-spaced}
use Rattle.journal.proofs.SpacedWordLaws.{words_from}
use Rattle.journal.proofs.ReplyPartLaws.{reply_head, reply_of, reply_parts, reply_rest, text-spaced, uncross_parts}
use Rattle.journal.proofs.ReplyPartLaws.{number_by, refusal_by, side_by}

side-letters : (side : Option Side) → IsWord (side_word side)
side-letters None = refl
side-letters (Some Bid) = refl
side-letters (Some Ask) = refl

number-letters : (n : Option ℕ) → IfSome n IsWide → IsWord (number_word n)
number-letters None h = refl
number-letters (Some n) h = decimal-word n h

price-letters : (p : Price) → IsWidePrice p
    → AllByRecursion IsWord (decimal p.tick ∷ codes "volume" ∷ decimal p.volume ∷ codes "surplus" ∷ decimal p.surplus
    ∷ side_word p.side ∷ [])
price-letters p h = (
  decimal-word p.tick h.0,
  (refl, (decimal-word p.volume h.1, (refl, (decimal-word p.surplus h.2, (side-letters p.side, tt))))),
)

uncross-letters : (p : Price) (trades : ℕ) → IsWide trades × IsWidePrice p
    → AllByRecursion IsWord (uncross_parts (Some p) trades)
uncross-letters p trades h = (
  refl,
  (
    decimal-word p.tick h.1.0,
    (
      refl,
      (
        decimal-word p.volume h.1.1,
        (refl, (decimal-word p.surplus h.1.2, (side-letters p.side, (refl, (decimal-word trades h.0, tt))))),
      ),
    ),
  ),
)

pub refusal-wide : (r : Refusal) → IsWide (refusal_number r)
refusal-wide refused.BadQuantity = omega arith
refusal-wide refused.BadLimit = omega arith
refusal-wide refused.BadPeak = omega arith
refusal-wide refused.BookFull = omega arith
refusal-wide refused.UnknownOrder = omega arith
refusal-wide refused.NotOperator = omega arith
refusal-wide refused.DayOver = omega arith
refusal-wide refused.NoSuchTrade = omega arith
refusal-wide refused.PastAuction = omega arith

name-letters : (r : Refusal) → IsWord (refusal_name r)
name-letters refused.BadQuantity = refl
name-letters refused.BadLimit = refl
name-letters refused.BadPeak = refl
name-letters refused.BookFull = refl
name-letters refused.UnknownOrder = refl
name-letters refused.NotOperator = refl
name-letters refused.DayOver = refl
name-letters refused.NoSuchTrade = refl
name-letters refused.PastAuction = refl

pub parts-letters : (r : Reply) → IsWideReply r → AllByRecursion IsWord (reply_parts r)
parts-letters (reply.Entered id) h = (refl, (decimal-word id h, tt))
parts-letters (reply.Changed true) h = (refl, (refl, tt))
parts-letters (reply.Changed false) h = (refl, (refl, tt))
parts-letters reply.Deleted h = (refl, tt)
parts-letters (reply.OpenOrder side Market quantity visible) h =
    (refl, (side-letters (Some side), (decimal-word quantity h.1, (refl, (refl, (decimal-word visible h.2, tt))))))
parts-letters (reply.OpenOrder side (At tick) quantity visible) h = (
  refl,
  (
    side-letters (Some side),
    (decimal-word quantity h.1, (refl, (decimal-word tick h.0, (refl, (decimal-word visible h.2, tt))))),
  ),
)
parts-letters (reply.Indicated (Priced p)) h = (refl, price-letters p h)
parts-letters (reply.Indicated (Unpriced best_bid best_ask)) h =
    (refl, (refl, (refl, (number-letters best_bid h.0, (refl, (number-letters best_ask h.1, tt))))))
parts-letters (reply.Traded t) h = (
  refl,
  (
    decimal-word t.bid h.0,
    (decimal-word t.ask h.1, (decimal-word t.quantity h.3, (refl, (decimal-word t.tick h.2, tt)))),
  ),
)
parts-letters (reply.Uncrossed kind.Opening trades None) h = (refl, (refl, (refl, tt)))
parts-letters (reply.Uncrossed kind.Intraday trades None) h = (refl, (refl, (refl, tt)))
parts-letters (reply.Uncrossed kind.Closing trades None) h = (refl, (refl, (refl, tt)))
parts-letters (reply.Uncrossed kind.Opening trades (Some p)) h = (refl, uncross-letters p trades h)
parts-letters (reply.Uncrossed kind.Intraday trades (Some p)) h = (refl, uncross-letters p trades h)
parts-letters (reply.Uncrossed kind.Closing trades (Some p)) h = (refl, uncross-letters p trades h)
parts-letters (reply.Interrupted p) h = (refl, (refl, price-letters p h))
parts-letters (reply.Refused r) h =
    (refl, (decimal-word (refusal_number r) (refusal-wide r), (name-letters r, tt)))

kind-some : (k : AuctionKind) (xs : List ℕ) → 0 < length (kind_word k ++ xs)
kind-some kind.Opening xs = omega arith
kind-some kind.Intraday xs = omega arith
kind-some kind.Closing xs = omega arith

pub reply-some : (r : Reply) → 0 < length (reply_text r)
reply-some (reply.Entered id) = omega arith
reply-some (reply.Changed kept) = omega arith
reply-some reply.Deleted = omega arith
reply-some (reply.OpenOrder side limit quantity visible) = omega arith
reply-some (reply.Indicated (Priced p)) = omega arith
reply-some (reply.Indicated (Unpriced best_bid best_ask)) = omega arith
reply-some (reply.Traded t) = omega arith
reply-some (reply.Uncrossed kind trades price) = kind-some kind _
reply-some (reply.Interrupted p) = omega arith
reply-some (reply.Refused r) = omega arith

-- the text of a reply can be in a field without quotes
pub reply-plain : (r : Reply) → IsWideReply r → IsPlain (reply_text r)
reply-plain r h = rw (text-spaced r) (spaced-plain (reply_parts r) (parts-letters r h))

pub reply-printable : (r : Reply) → IsWideReply r → list_all is_printable (reply_text r) ≡ true
reply-printable r h = rw (text-spaced r) (spaced-printable (reply_parts r) (parts-letters r h))

value-decimal : (n : ℕ) → IsWide n → digits_value 10 (decimal n) ≡ n
value-decimal n h = (decimal_is_IsNumeral n h).1

no-dash : (n : ℕ) → IsWide n → bytes_eq (decimal n) (codes "-") ≡ false
no-dash n h = let first = first-digit n h in not-word (codes "-") (decimal n) (λ e. absurd (omega (arith, e, first.0)))

number-back : (n : Option ℕ) → IfSome n IsWide → (w : List ℕ) → w ≡ number_word n → number_by w ≡ n
number-back None h w e = rw e refl
number-back (Some n) h w e = rw (e, no-dash n h, value-decimal n h) refl

side-back : (side : Option Side) → side_by (side_word side) ≡ side
side-back None = refl
side-back (Some Bid) = refl
side-back (Some Ask) = refl

refusal-of-number : (r : Refusal) (n : ℕ) → n ≡ refusal_number r → refusal_by n ≡ r
refusal-of-number refused.BadQuantity k e = rw e refl
refusal-of-number refused.BadLimit k e = rw e refl
refusal-of-number refused.BadPeak k e = rw e refl
refusal-of-number refused.BookFull k e = rw e refl
refusal-of-number refused.UnknownOrder k e = rw e refl
refusal-of-number refused.NotOperator k e = rw e refl
refusal-of-number refused.DayOver k e = rw e refl
refusal-of-number refused.NoSuchTrade k e = rw e refl
refusal-of-number refused.PastAuction k e = rw e refl

-- the reply is that of its words
parts-back : (r : Reply) → IsWideReply r → IsFullyPrinted r → reply_of (reply_parts r) ≡ r
parts-back (reply.Entered id) h t = rw (value-decimal id h) refl
parts-back (reply.Changed true) h t = refl
parts-back (reply.Changed false) h t = refl
parts-back reply.Deleted h t = refl
parts-back (reply.OpenOrder Bid Market quantity visible) h t =
    rw (value-decimal quantity h.1, value-decimal visible h.2) refl
parts-back (reply.OpenOrder Ask Market quantity visible) h t =
    rw (value-decimal quantity h.1, value-decimal visible h.2) refl
parts-back (reply.OpenOrder Bid (At tick) quantity visible) h t =
    rw (value-decimal tick h.0, value-decimal quantity h.1, value-decimal visible h.2) refl
parts-back (reply.OpenOrder Ask (At tick) quantity visible) h t =
    rw (value-decimal tick h.0, value-decimal quantity h.1, value-decimal visible h.2) refl
parts-back (reply.Indicated (Priced p)) h t =
    rw (value-decimal p.tick h.0, value-decimal p.volume h.1, value-decimal p.surplus h.2, side-back p.side) refl
parts-back (reply.Indicated (Unpriced best_bid best_ask)) h t =
    rw (number-back best_bid h.0 (number_word best_bid) refl, number-back best_ask h.1 (number_word best_ask) refl) refl
parts-back (reply.Traded t) h u =
    rw (value-decimal t.bid h.0, value-decimal t.ask h.1, value-decimal t.tick h.2, value-decimal t.quantity h.3) refl
parts-back (reply.Uncrossed kind.Opening trades None) h t = rw t refl
parts-back (reply.Uncrossed kind.Intraday trades None) h t = rw t refl
parts-back (reply.Uncrossed kind.Closing trades None) h t = rw t refl
parts-back (reply.Uncrossed kind.Opening trades (Some p)) h t =
    rw (
      value-decimal trades h.0,
      value-decimal p.tick h.1.0,
      value-decimal p.volume h.1.1,
      value-decimal p.surplus h.1.2,
      side-back p.side,
    ) refl
parts-back (reply.Uncrossed kind.Intraday trades (Some p)) h t =
    rw (
      value-decimal trades h.0,
      value-decimal p.tick h.1.0,
      value-decimal p.volume h.1.1,
      value-decimal p.surplus h.1.2,
      side-back p.side,
    ) refl
parts-back (reply.Uncrossed kind.Closing trades (Some p)) h t =
    rw (
      value-decimal trades h.0,
      value-decimal p.tick h.1.0,
      value-decimal p.volume h.1.1,
      value-decimal p.surplus h.1.2,
      side-back p.side,
    ) refl
parts-back (reply.Interrupted p) h t =
    rw (value-decimal p.tick h.0, value-decimal p.volume h.1, value-decimal p.surplus h.2, side-back p.side) refl
parts-back (reply.Refused r) h t =
    ap reply.Refused (refusal-of-number r _ (value-decimal (refusal_number r) (refusal-wide r)))

text-back : (r : Reply) → IsWideReply r → IsFullyPrinted r → reply_of (words_from [] (reply_text r)) ≡ r
text-back r h t =
    let words : words_from [] (reply_text r) ≡ reply_parts r =
    ap (words_from []) (text-spaced r) ∙ words-spaced (reply_head r) (reply_rest r) (parts-letters r h) in
    ap reply_of words ∙ parts-back r h t

-- replies with the same text are the same
pub reply-same : (r s : Reply) → IsWideReply r → IsFullyPrinted r → IsWideReply s → IsFullyPrinted s
    → reply_text r ≡ reply_text s → r ≡ s
reply-same r s hr tr hs ts e =
    sym (text-back r hr tr) ∙ ap (λ (t : List ℕ). reply_of (words_from [] t)) e ∙ text-back s hs ts
