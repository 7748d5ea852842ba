-- The numbers that a slot holds of an order.
use Rattle.std.specs.Prelude.{◌<◌, ℕ, ◌^◌, Bool, true, false, zero, suc, Option, Some, None}
use Rattle.auction_terms.specs.declared.Limit.{Limit}
use Rattle.auction_terms.specs.declared.Limit.TheVariants.{Market, At}

-- the tick of a limit, or 0 for none
abbrev pub tick_or_zero : Limit → ℕ
tick_or_zero Market = 0
tick_or_zero (At tick) = tick

-- the limit at a tick, if there is one
abbrev pub unpacked_limit : Bool → ℕ → Limit
unpacked_limit true tick = At tick
unpacked_limit false tick = Market

-- the peak, or none for 0
abbrev pub unpacked_peak : ℕ → Option ℕ
unpacked_peak zero = None
unpacked_peak (suc n) = Some (suc n)

-- a peak is none or a number of 32 bits, and not 0
abbrev pub HasShortPeak : Option ℕ → Type 0
HasShortPeak None = Unit {0}
HasShortPeak (Some peak) = (0 < peak) × (peak < 2 ^ 32)
