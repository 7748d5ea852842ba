-- Why the bounds or the reference of a day are bad, and the texts that say so.
use Rattle.std.specs.Prelude.{ℕ, ◌-◌, ◌||◌, List, Option, Some, None, ◌++◌, codes, decimal}
use Rattle.std.specs.Prelude.{if◌then◌else◌, nat_le, nat_lt}
use Rattle.auction_terms.specs.declared.limits.TheConstants.{MAX_TICKS}
use Rattle.order_file.specs.Field.{number_of}
use Rattle.input_hints.specs.InputHints.{may_go_on, whole_row}
use Rattle.input_hints.specs.RecordHints.{field_of, is_of_day}
use Rattle.input_hints.specs.declared.day_bounds.Bounds.{Bounds}
use Rattle.input_hints.specs.declared.day_bounds.BoundsHint.{BoundsHint}
use Rattle.input_hints.specs.declared.day_bounds.BoundsHint.TheVariants as hint

abbrev pub bounds_hint_text : BoundsHint → List ℕ
bounds_hint_text (hint.LowAboveHigh low high) =
    codes "low " ++ (decimal low ++ (codes " is above high " ++ decimal high))
bounds_hint_text (hint.TooManyTicks low high) =
    codes "low " ++ (decimal low ++ (codes " to high " ++ (decimal high ++ codes " are more than 65536 ticks")))
bounds_hint_text (hint.ReferenceOutside reference low high) =
    codes "the reference " ++ (decimal reference
    ++ (codes " is outside " ++ (decimal low ++ (codes " to " ++ decimal high))))

-- the first that holds: the lowest tick is above the highest, there are too many ticks, the reference is none of them
unfoldable pub bounds_hint : Bounds → Option BoundsHint
bounds_hint b =
    if nat_lt b.high b.low then Some (hint.LowAboveHigh b.low b.high)
    else if nat_le MAX_TICKS (b.high - b.low) then Some (hint.TooManyTicks b.low b.high)
    else if nat_lt b.reference b.low || nat_lt b.high b.reference
    then Some (hint.ReferenceOutside b.reference b.low b.high)
    else None

abbrev pub bounds_or : Option ℕ → Option ℕ → Option ℕ → Bounds → Bounds
bounds_or None high reference others = others
bounds_or (Some low) None reference others = others
bounds_or (Some low) (Some high) None others = others
bounds_or (Some low) (Some high) (Some reference) others = record { low = low; high = high; reference = reference }

-- the bounds and the reference that a journal's first record says, or the others
abbrev pub bounds_in : List (List ℕ) → Bounds → Bounds
bounds_in first others =
    if is_of_day first
    then bounds_or (number_of (field_of 1 first)) (number_of (field_of 2 first)) (number_of (field_of 3 first)) others
    else others

abbrev pub hint_behind : Option (List (List ℕ)) → List ℕ → Bounds → Option BoundsHint
hint_behind (Some first) start bounds = bounds_hint (bounds_in first bounds)
hint_behind None start bounds = if may_go_on start then None else bounds_hint bounds

-- of the day of an input that begins so: a journal has its own. None where the first record isn't whole there.
unfoldable pub hint_of_bounds : List ℕ → Bounds → Option BoundsHint
hint_of_bounds start bounds = hint_behind (whole_row 1 start) start bounds
