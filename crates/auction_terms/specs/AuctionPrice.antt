-- The auction price.
use Rattle.std.specs.Prelude.{◌≡◌, ◌≤◌, ℕ, min, max, Bool, true, false, ◌&&◌, ◌||◌, if◌then◌else◌, List, [], ◌∷◌}
use Rattle.std.specs.Prelude.{Option, Some, None, filter, nat_le, nat_lt, ◌==◌, option_map}
use Rattle.std.specs.List.{list_all}
use Rattle.std.specs.Option.{option_map_or}
use Rattle.auction_terms.specs.declared.Order.{Order}
use Rattle.auction_terms.specs.declared.Price.{Price}
use Rattle.auction_terms.specs.Book.{volume, surplus, has_bid_surplus, has_ask_surplus, surplus_side, limits}
use Rattle.auction_terms.specs.Book.{quantity_of, is_bid, is_ask, is_market}

abbrev pub is_empty : {X : Type 0} → List X → Bool
is_empty [] = true
is_empty (x ∷ xs) = false

abbrev pub highest : List ℕ → Option ℕ
highest [] = None
highest (p ∷ ps) = Some (option_map_or (max p) (highest ps) p)

abbrev pub lowest : List ℕ → Option ℕ
lowest [] = None
lowest (p ∷ ps) = Some (option_map_or (min p) (lowest ps) p)

-- q has less volume than p, or the same volume and a surplus no smaller
unfoldable pub is_no_better : List Order → ℕ → ℕ → Bool
is_no_better book p q =
    nat_lt (volume book q) (volume book p)
    || ((volume book q == volume book p) && nat_le (surplus book p) (surplus book q))

-- p has volume, and no limit of the book is better
unfoldable pub is_best : List Order → ℕ → Bool
is_best book p = nat_lt 0 (volume book p) && list_all (is_no_better book p) (limits book)

-- the limits with the most volume and, among those, the least surplus
unfoldable pub best_limits : List Order → List ℕ
best_limits book = filter (is_best book) (limits book)

-- the highest best limit with a bid surplus; where no best limit has a surplus, the lowest of them
unfoldable pub lower_end : List Order → Option ℕ
lower_end book =
    if list_all (λ p. surplus book p == 0) (best_limits book)
    then lowest (best_limits book)
    else highest (filter (has_bid_surplus book) (best_limits book))

-- the lowest best limit with an ask surplus; where no best limit has a surplus, the highest of them
unfoldable pub upper_end : List Order → Option ℕ
upper_end book =
    if list_all (λ p. surplus book p == 0) (best_limits book)
    then highest (best_limits book)
    else lowest (filter (has_ask_surplus book) (best_limits book))

-- the reference, clamped between two ticks; where there is but one, that one
abbrev pub clamp_between : Option ℕ → Option ℕ → ℕ → Option ℕ
clamp_between None high r = high
clamp_between (Some low) None r = Some low
clamp_between (Some low) (Some high) r = Some (if nat_le high r then high else (if nat_le r low then low else r))

-- whether both sides have market orders
abbrev pub has_market_orders : List Order → Bool
has_market_orders book =
    nat_lt 0 (quantity_of (filter (λ order. is_bid order && is_market order.limit) book))
    && nat_lt 0 (quantity_of (filter (λ order. is_ask order && is_market order.limit) book))

-- the tick of the auction price, if there is one
unfoldable pub price_tick : List Order → ℕ → Option ℕ
price_tick book r =
    if is_empty (limits book) then (if has_market_orders book then Some r else None)
    else (if is_empty (best_limits book) then None
    else (if list_all (has_bid_surplus book) (best_limits book) then highest (best_limits book)
    else (if list_all (has_ask_surplus book) (best_limits book) then lowest (best_limits book)
    else clamp_between (lower_end book) (upper_end book) r)))

-- a tick with its volume, its surplus and the side of that
unfoldable pub priced : List Order → ℕ → Price
priced book p = record { tick = p; volume = volume book p; surplus = surplus book p; side = surplus_side book p }

-- the auction price at a reference
unfoldable pub price : List Order → ℕ → Option Price
price book r = option_map (priced book) (price_tick book r)

-- no tick has more volume than the price, and without a price none has any
abbrev pub HasMostVolume : List Order → Option Price → Type 0
HasMostVolume book None = (tick : ℕ) → volume book tick ≡ 0
HasMostVolume book (Some found) = (tick : ℕ) → volume book tick ≤ found.volume
