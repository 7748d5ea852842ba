-- Invariants of the loops of `lesser` (src/choices.rt); rt looks here.
use Rattle.std.proofs.Common.{◌≡◌, ◌≤◌, ◌-◌, length, take}
use Rattle.std.specs.Simd.Lanes.{zip2}
use Rattle.std.specs.Prelude.{min}
use Rattle.lanes.proofs.choices.lesser.Given as goal

abbrev pub invariant-eights : goal.invariant-eights
invariant-eights l =
    record { within : l.at ≤ length l.a; done : take l.at l.out ≡ zip2 min (take l.at l.a) (take l.at l.b) }

abbrev pub invariant-rest : goal.invariant-rest
invariant-rest l =
    record { within : l.at ≤ length l.a; done : take l.at l.out ≡ zip2 min (take l.at l.a) (take l.at l.b) }

abbrev pub decreases-eights : goal.decreases-eights
decreases-eights l = length l.initial.out - l.at

abbrev pub decreases-rest : goal.decreases-rest
decreases-rest l = length l.initial.out - l.at
