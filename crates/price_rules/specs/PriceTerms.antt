-- What a price says of demand and supply.
use Rattle.std.specs.Prelude.{◌≡◌, ◌<◌, ℕ, min, List, Option, None, Some}
use Rattle.std.specs.Int.{abs_diff}
use Rattle.auction_terms.specs.declared.Order.{Order}
use Rattle.auction_terms.specs.declared.Price.{Price}
use Rattle.auction_terms.specs.Book.{demand, supply}
use Rattle.auction_terms.specs.AuctionPrice.{lower_end, upper_end}

-- the volume is the lesser of demand and supply at the tick, the surplus their difference
abbrev pub HasVolumeAndSurplus : List Order → Option Price → Type 0
HasVolumeAndSurplus book None = Unit {0}
HasVolumeAndSurplus book (Some found) =
    (found.volume ≡ min (demand book found.tick) (supply book found.tick))
    × (found.surplus ≡ abs_diff (demand book found.tick) (supply book found.tick))

-- strictly between the kept limits there is no surplus
abbrev pub IsBalancedBetween : List Order → Option Price → Type 0
IsBalancedBetween book None = Unit {0}
IsBalancedBetween book (Some found) =
    (low high : ℕ)
    → lower_end book ≡ Some low
    → upper_end book ≡ Some high
    → low < found.tick
    → found.tick < high
    → found.surplus ≡ 0
