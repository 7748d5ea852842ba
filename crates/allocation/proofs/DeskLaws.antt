-- Claims in rank order are filled as the formula on ranks says.
use Rattle.std.proofs.Common.{◌≡◌, ℕ, ◌<◌, List, ◌++◌, All, filter, sym, ap, ◌∙◌, take, drop}
use Rattle.std.proofs.lemmas.List.{take-append-drop}
use Rattle.std.proofs.lemmas.List.Elements.{filter_passes, All-weaker, All-same}
use Rattle.std.proofs.lemmas.Bool.Decides.{nat_tests}
use Rattle.std.proofs.Common.{arith}
use Rattle.std.proofs.lemmas.Grind.{common_steps}
use Rattle.auction_terms.specs.declared.Side.{Side}
use Rattle.auction_terms.specs.declared.Side.TheVariants.{Bid, Ask}
use Rattle.auction_terms.specs.declared.Order.{Order}
use Rattle.auction_terms.specs.declared.Fill.{Fill}
use Rattle.auction_terms.specs.Allotment.{fills_of, fills, trades, is_positive}
use Rattle.auction_terms.specs.Auxiliary.RankedFills.{paired_trades}
use Rattle.auction_terms.proofs.RankLaws.{fills_of_is}
use Rattle.auction_terms.proofs.FillLaws.{volume_is}
use Rattle.allocation.specs.declared.claims.Claim.{Claim}
use Rattle.allocation.specs.Claim.{filled_by, lesser_claim, IsRanked}
use Rattle.allocation.proofs.ClaimLaws.{claimed-eligible_quantity}

pub filled_by-fills : (price : ℕ) (book : List Order) (bids asks : List Claim) → IsRanked Bid price book bids
    → IsRanked Ask price book asks → (side : Side) (claims : List Claim) → IsRanked side price book claims
    → filled_by (lesser_claim bids asks) claims ≡ fills_of side book price
filled_by-fills price book bids asks b a side claims is =
    search (arith, claimed-eligible_quantity, volume_is, fills_of_is, is.named)

pub fills_is : (price : ℕ) (book : List Order) (n : ℕ) (fs : List Fill) → take n fs ≡ fills_of Bid book price
    → drop n fs ≡ fills_of Ask book price → fs ≡ fills book price
unfolding fills
fills_is price book n fs b a =
    sym (take-append-drop n fs) ∙ ap (λ l. l ++ drop n fs) b ∙ ap (λ l. fills_of Bid book price ++ l) a

pub trades_is : (price : ℕ) (book : List Order) (bids asks : List Fill)
    → bids ≡ fills_of Bid book price → asks ≡ fills_of Ask book price
    → paired_trades price 0 bids asks ≡ trades book price
unfolding trades paired_trades
trades_is price book bids asks b a =
    ap (λ l. paired_trades price 0 l asks) b ∙ ap (paired_trades price 0 (fills_of Bid book price)) a

pub all_positive : (fs gs : List Fill) → gs ≡ filter is_positive fs → All (λ f. 0 < f.quantity) gs
all_positive fs gs e = grind (arith, common_steps, All-same, All-weaker, filter_passes, nat_tests)
