-- Trades with where their overlaps begin.
use Rattle.std.specs.Prelude.{◌≡◌, ℕ, max, List, map, Option, Some, None, nat_lt, if◌then◌else◌}
use Rattle.std.specs.List.{filter_map, flat_map}
use Rattle.auction_terms.specs.declared.Order.{Order}
use Rattle.auction_terms.specs.declared.Side.TheVariants.{Bid, Ask}
use Rattle.auction_terms.specs.declared.Fill.{Fill}
use Rattle.auction_terms.specs.declared.Trade.{Trade}
use Rattle.auction_terms.specs.Allotment.{spans, overlap, fills_of}
use Rattle.auction_terms.specs.Auxiliary.Sort.{PlacesRise}

-- a positive overlap, where it begins, and its trade
abbrev pub overlap_at : ℕ → ℕ × Fill → ℕ × Fill → Option (ℕ × Trade)
overlap_at price b a =
    if nat_lt 0 (overlap b a)
    then Some (max b.0 a.0, record { bid = b.1.id; ask = a.1.id; tick = price; quantity = overlap b a })
    else None

abbrev pub overlaps_of : ℕ → List (ℕ × Fill) → List (ℕ × Fill) → List (ℕ × Trade)
overlaps_of price bids asks = flat_map (λ b. filter_map (overlap_at price b) asks) bids

-- all positive overlaps of the fills of a book
unfoldable pub overlaps : List Order → ℕ → List (ℕ × Trade)
overlaps book price = overlaps_of price (spans 0 (fills_of Bid book price)) (spans 0 (fills_of Ask book price))

-- these are their trades, in the order in which they begin, no two at one place
pub record AreByStart (book : List Order) (price : ℕ) (trades : List Trade) : Type 0 where
  pub listed : trades ≡ map (λ x. x.1) (overlaps book price)
  pub rise : PlacesRise (overlaps book price)
