-- The number of each refusal, as it is printed and as C gets it.
use Rattle.std.specs.Prelude.{ℕ}
use Rattle.auction_terms.specs.declared.Refusal.{Refusal}
use Rattle.auction_terms.specs.declared.Refusal.TheVariants as refused

abbrev pub refusal_number : Refusal → ℕ
refusal_number refused.BadQuantity = 1
refusal_number refused.BadLimit = 2
refusal_number refused.BadPeak = 3
refusal_number refused.BookFull = 4
refusal_number refused.UnknownOrder = 5
refusal_number refused.NotOperator = 6
refusal_number refused.DayOver = 7
refusal_number refused.NoSuchTrade = 8
refusal_number refused.PastAuction = 9
