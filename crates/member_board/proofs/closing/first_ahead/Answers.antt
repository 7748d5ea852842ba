-- Answers of `first_ahead` (src/closing.rt): what the prover left open; rt looks here.
use Rattle.std.proofs.Common.{arith, ◌<◌, get_or}
use Rattle.member_board.proofs.closing.first_ahead.Goals as goal

pub returns-else-least-n-clause-none : goal.returns-else-least-n-clause-none
returns-else-least-n-clause-none g c =
    λ k d lt.
    let i = c.loop-i.invariant in
    let within : k < c.loop-i.i = omega (arith, c.loop-i-test.false) in
    let below : (get_or c.args.members.now k d).number < c.loop-i.least =
    omega (arith, i.numbers k d within, c.if-least-n.false) in
    i.first k d within below
