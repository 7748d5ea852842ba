-- Answers of `greatest_where` (src/choices.rt): what the prover left open; rt looks here.
use Rattle.std.proofs.Common.{rules, arith}
use Rattle.lanes.specs.Selection.{HasFlag}
use Rattle.lanes.proofs.GreatestLaws.{greatest_is, place_positive}
use Rattle.lanes.proofs.choices.greatest_where.Goals as goal

pub returns-then-greatest-gt0 : goal.returns-then-greatest-gt0
returns-then-greatest-gt0 c =
    let vs = c.args.values.now in
    let fs = c.args.flags.now in
    let p = place_positive vs fs (omega (arith, c.greatest_or_zero-greatest.ensures)) in
    rw c.greatest_or_zero-greatest.ensures (greatest_is vs fs c.requires p.place p.within p.here)

pub returns-then-any : goal.returns-then-any
returns-then-any c =
    let yes : HasFlag c.args.flags.now = c.any.ensures.0 (search rules) in
    rw c.greatest_or_zero-greatest.ensures (greatest_is c.args.values.now c.args.flags.now c.requires yes.0 yes.1 yes.2)
