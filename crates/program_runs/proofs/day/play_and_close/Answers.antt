-- Answers of `play_and_close` (src/day.rt): what the prover left open; rt looks here.
use Rattle.std.proofs.Common.{arith}
use Rattle.program_runs.proofs.PlayedDayLaws.{as_many, closed_out, unclosed}
use Rattle.program_runs.proofs.day.play_and_close.Goals as goal

pub close_after-requires-clause-enough : goal.close_after-requires-clause-enough
close_after-requires-clause-enough g c none =
    let run = c.run-outcome.result in
    let members = c.args.members.items in
    let scripts = c.args.scripts.items in
    let plays = (c.run-outcome.ensures.all none.0).1 in
    omega (arith, as_many g.K.BoardIdentity.config members scripts run.played.items plays, c.in-Ok.ensures.exact)

pub returns-clause-closing : goal.returns-clause-closing
returns-clause-closing g c =
    let run = c.run-outcome.result in
    closed_out g.K.BoardIdentity.config g.K.Ledger.parts c.args.members.items c.args.scripts.items run.fault
    run.played.items c.close_after.result
    c.requires.members c.requires.fits c.run-outcome.ensures.all c.close_after.ensures.done
    c.close_after.ensures.closing c.close_after.ensures.accounts

pub returns-clause-fault : goal.returns-clause-fault
returns-clause-fault g c =
    let run = c.run-outcome.result in
    unclosed run.fault run.played.items c.close_after.result c.close_after.ensures.fault
