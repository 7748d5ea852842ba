-- What an auction price says of demand and supply.
use Rattle.std.proofs.Common.{◌≡◌, ℕ, List, Option, None, Some, option_map, refl, subst, sym}
use Rattle.auction_terms.specs.declared.Order.{Order}
use Rattle.auction_terms.specs.declared.Price.{Price}
use Rattle.auction_terms.specs.Book.{surplus, volume}
use Rattle.auction_terms.specs.AuctionPrice.{price, price_tick, priced}
use Rattle.auction_terms.proofs.AuctionPriceLaws.{price_balanced}
use Rattle.price_rules.specs.PriceTerms.{HasVolumeAndSurplus, IsBalancedBetween}

at_tick : (book : List Order) (tick : Option ℕ) → HasVolumeAndSurplus book (option_map (priced book) tick)
unfolding priced volume surplus
at_tick book None = tt
at_tick book (Some tick) = (refl, refl)

balanced_at : (book : List Order) (tick : Option ℕ) → IsBalancedBetween book (option_map (priced book) tick)
unfolding priced
balanced_at book None = tt
balanced_at book (Some tick) =
    λ low high is_low is_high above below. price_balanced book tick low high is_low is_high above below

pub volume_and_surplus : (book : List Order) (reference : ℕ) (found : Option Price) → found ≡ price book reference
    → HasVolumeAndSurplus book found
unfolding price
volume_and_surplus book reference found e =
    subst (HasVolumeAndSurplus book) (sym e) (at_tick book (price_tick book reference))

pub balanced_between_ends : (book : List Order) (reference : ℕ) (found : Option Price) → found ≡ price book reference
    → IsBalancedBetween book found
unfolding price
balanced_between_ends book reference found e =
    subst (IsBalancedBetween book) (sym e) (balanced_at book (price_tick book reference))
