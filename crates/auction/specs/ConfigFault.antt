-- Which configs an auction can be opened with.
use Rattle.std.specs.Prelude.{◌-◌, ◌==◌, nat_le, nat_lt, Bool, ◌||◌, if◌then◌else◌, Option, Some, None}
use Rattle.auction_terms.specs.declared.limits.TheConstants.{MAX_TICK, MAX_TICKS, MAX_OPEN_ORDERS, MAX_CALLS}
use Rattle.auction_terms.specs.declared.Config.{Config}
use Rattle.auction.specs.declared.OpenFault.{OpenFault}
use Rattle.auction.specs.declared.OpenFault.TheVariants.{BadBounds, BadReference, BadCapacity}

-- 1 <= low <= high <= MAX_TICK, and at most MAX_TICKS ticks
abbrev pub has_bad_bounds : Config → Bool
has_bad_bounds config =
    (config.low == 0) || nat_lt config.high config.low || nat_lt MAX_TICK config.high
    || nat_le MAX_TICKS (config.high - config.low)

-- a reference outside the bounds
abbrev pub has_bad_reference : Config → Bool
has_bad_reference config = nat_lt config.reference config.low || nat_lt config.high config.reference

-- 1 to MAX_OPEN_ORDERS open orders, and 1 to MAX_CALLS calls
abbrev pub has_bad_capacity : Config → Bool
has_bad_capacity config =
    (config.max_open == 0) || nat_lt MAX_OPEN_ORDERS config.max_open
    || (config.max_calls == 0) || nat_lt MAX_CALLS config.max_calls

-- the first fault of a config
unfoldable pub open_fault : Config → Option OpenFault
open_fault config =
    if has_bad_bounds config then Some BadBounds
    else if has_bad_reference config then Some BadReference
    else if has_bad_capacity config then Some BadCapacity
    else None
