-- Answers of `least_where` (src/choices.rt): what the prover left open; rt looks here.
use Rattle.std.proofs.Common.{rules, arith}
use Rattle.lanes.specs.Selection.{HasFlag}
use Rattle.lanes.proofs.LeastLaws.{least_is, place_below_most}
use Rattle.lanes.proofs.choices.least_where.Goals as goal

pub returns-then-least-lt18446744073709551615 : goal.returns-then-least-lt18446744073709551615
returns-then-least-lt18446744073709551615 c =
    let vs = c.args.values.now in
    let fs = c.args.flags.now in
    let p = place_below_most vs fs (omega (arith, c.least_or_most-least.ensures)) in
    rw c.least_or_most-least.ensures (least_is vs fs (λ i. omega (arith, (c.type_inv.values i).fits)) c.requires p.place
    p.within p.here)

pub returns-then-any : goal.returns-then-any
returns-then-any c =
    let yes : HasFlag c.args.flags.now = c.any.ensures.0 (search rules) in
    rw c.least_or_most-least.ensures
    (least_is c.args.values.now c.args.flags.now (λ i. omega (arith, (c.type_inv.values i).fits)) c.requires yes.0
    yes.1 yes.2)
