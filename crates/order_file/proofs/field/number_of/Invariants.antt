-- Invariants of the loops of `number_of` (src/field.rt); rt looks here.
use Rattle.std.proofs.Common.{◌≡◌, ◌<◌, ◌^◌, drop}
use Rattle.order_file.specs.Field.{digits_after}
use Rattle.order_file.proofs.field.number_of.Given as goal

-- the digits that are left make the number of the whole field
abbrev pub invariant-loop-digit : goal.invariant-loop-digit
invariant-loop-digit l =
    (digits_after l.value (drop l.digit-index l.field) ≡ digits_after 0 l.field) × (l.value < 10 ^ l.digit-index)
