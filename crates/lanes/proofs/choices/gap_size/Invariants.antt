-- Invariants of the loops of `gap_size` (src/choices.rt); rt looks here.
use Rattle.std.specs.Int.{abs_diff}
use Rattle.std.proofs.Common.{◌≡◌, ◌≤◌, ◌-◌, length, take}
use Rattle.std.specs.Simd.Lanes.{zip2}
use Rattle.lanes.proofs.choices.gap_size.Given as goal

abbrev pub invariant-eights : goal.invariant-eights
invariant-eights l =
    record { within : l.at ≤ length l.a; done : take l.at l.out ≡ zip2 abs_diff (take l.at l.a) (take l.at l.b) }

abbrev pub invariant-rest : goal.invariant-rest
invariant-rest l =
    record { within : l.at ≤ length l.a; done : take l.at l.out ≡ zip2 abs_diff (take l.at l.a) (take l.at l.b) }

abbrev pub decreases-eights : goal.decreases-eights
decreases-eights l = length l.initial.out - l.at

abbrev pub decreases-rest : goal.decreases-rest
decreases-rest l = length l.initial.out - l.at
