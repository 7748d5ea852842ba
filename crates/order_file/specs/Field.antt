-- How the fields of a record read.
use Rattle.std.specs.Prelude.{ℕ, ◌+◌, ◌*◌, ◌-◌, ◌^◌, List, [], ◌∷◌, length, nat_lt, nat_le, ◌&&◌, if◌then◌else◌}
use Rattle.std.specs.Prelude.{Option, Some, None, option_map, option_and_then, codes}
use Rattle.std.specs.Char.{is_ascii_digit}
use Rattle.std.specs.Str.{bytes_eq}
use Rattle.auction_terms.specs.declared.Side.{Side}
use Rattle.auction_terms.specs.declared.Side.TheVariants.{Bid, Ask}
use Rattle.auction_terms.specs.declared.Limit.{Limit}
use Rattle.auction_terms.specs.declared.Restriction.{Restriction}
use Rattle.auction_terms.specs.declared.Restriction.TheVariants as restriction
use Rattle.auction_terms.specs.declared.Limit.TheVariants.{Market, At}

-- the value of digits after those that make n, if they are digits
abbrev pub digits_after : ℕ → List ℕ → Option ℕ
digits_after n [] = Some n
digits_after n (d ∷ ds) = if is_ascii_digit d then digits_after (10 * n + (d - 48)) ds else None

abbrev pub if_small : ℕ → Option ℕ
if_small n = if nat_lt n (2 ^ 32) then Some n else None

-- a number has one to ten digits, and is at most 4294967295
unfoldable pub number_of : List ℕ → Option ℕ
number_of field =
    if nat_le 1 (length field) && nat_le (length field) 10
    then option_and_then if_small (digits_after 0 field)
    else None

unfoldable pub side_of : List ℕ → Option Side
side_of field =
    if bytes_eq field (codes "bid") then Some Bid
    else if bytes_eq field (codes "ask") then Some Ask
    else None

unfoldable pub limit_of : List ℕ → Option Limit
limit_of field = if bytes_eq field (codes "market") then Some Market else option_map At (number_of field)

-- a peak, which an empty field leaves out
unfoldable pub peak_of : List ℕ → Option (Option ℕ)
peak_of [] = Some None
peak_of (d ∷ ds) = option_map Some (number_of (d ∷ ds))

-- the auctions that an order is for, which an empty field leaves at every one
unfoldable pub restriction_of : List ℕ → Option Restriction
restriction_of [] = Some restriction.Unrestricted
restriction_of (d ∷ ds) =
    if bytes_eq (d ∷ ds) (codes "opening") then Some restriction.OpeningOnly
    else if bytes_eq (d ∷ ds) (codes "closing") then Some restriction.ClosingOnly
    else None
