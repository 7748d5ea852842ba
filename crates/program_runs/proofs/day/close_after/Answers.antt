-- Answers of `close_after` (src/day.rt): what the prover left open; rt looks here.
use Rattle.std.proofs.Common.{List, Some, inl, subst}
use Rattle.member_board.specs.PlaysScript.{PlayedScript}
use Rattle.program_runs.specs.PlayedDay.{IsFaultAfter}
use Rattle.program_runs.proofs.day.close_after.Goals as goal

pub returns-clause-accounts : goal.returns-clause-accounts
returns-clause-accounts g c = rw c.members_of.ensures at c.close_or_abandon.ensures.accounts

pub returns-in-Some-clause-fault : goal.returns-in-Some-clause-fault
returns-in-Some-clause-fault g c =
    inl
    (subst
    (λ (played : List PlayedScript). IsFaultAfter c.args.outcome.fault played (Some c.in-Some.fault))
    c.as_slice.ensures.value c.in-Some.ensures)
