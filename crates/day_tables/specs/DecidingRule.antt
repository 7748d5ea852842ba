-- The rule that decides the auction price of a book.
use Rattle.std.specs.Prelude.{◌≡◌, ℕ, ◌==◌, Bool, false, if◌then◌else◌, List, [], ◌∷◌, All, Option, Some, None}
use Rattle.std.specs.List.{list_all}
use Rattle.auction_terms.specs.declared.Order.{Order}
use Rattle.auction_terms.specs.Book.{has_bid_surplus, has_ask_surplus, limits}
use Rattle.auction_terms.specs.AuctionPrice.{best_limits, has_market_orders, highest, lowest, is_empty}
use Rattle.auction_terms.specs.AuctionPrice.{lower_end, upper_end, clamp_between, price_tick}
use Rattle.day_tables.specs.declared.rule.Rule.{Rule}
use Rattle.day_tables.specs.declared.rule.Rule.TheVariants.{Market, Single, Highest, Lowest, Reference}

-- whether the ticks of a list are one and the same
abbrev pub is_one_tick : List ℕ → Bool
is_one_tick [] = false
is_one_tick (first ∷ ticks) = list_all (λ tick. tick == first) ticks

-- the rule that decides, where there is a price
unfoldable pub rule_of : List Order → Option Rule
rule_of book =
    if is_empty (limits book) then (if has_market_orders book then Some Market else None)
    else (if is_empty (best_limits book) then None
    else (if is_one_tick (best_limits book) then Some Single
    else (if list_all (has_bid_surplus book) (best_limits book) then Some Highest
    else (if list_all (has_ask_surplus book) (best_limits book) then Some Lowest
    else Some Reference))))

-- what the rule makes the price at a reference
abbrev pub IsDecidedBy : List Order → ℕ → Option Rule → Type 0
IsDecidedBy book reference None = price_tick book reference ≡ None
IsDecidedBy book reference (Some Market) = price_tick book reference ≡ Some reference
IsDecidedBy book reference (Some Single) =
    (best : ℕ) × All (λ tick. tick ≡ best) (best_limits book) × (price_tick book reference ≡ Some best)
IsDecidedBy book reference (Some Highest) = price_tick book reference ≡ highest (best_limits book)
IsDecidedBy book reference (Some Lowest) = price_tick book reference ≡ lowest (best_limits book)
IsDecidedBy book reference (Some Reference) =
    price_tick book reference ≡ clamp_between (lower_end book) (upper_end book) reference
