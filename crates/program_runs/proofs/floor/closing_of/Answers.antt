-- Answers of `closing_of` (src/floor.rt): what the prover left open; rt looks here.
use Rattle.std.proofs.Common.{◌≡◌, ◌≤◌, ℕ, None, length, arith, subst, sym}
use Rattle.member_board.specs.PlaysScript.{FitsMembers}
use Rattle.auction_terms.specs.declared.limits.TheConstants.{MAX_CALLS}
use Rattle.board_terms.specs.BoardOpening.{board_fault, newcomers}
use Rattle.program_runs.proofs.PlayedDayLaws.{days_of}
use Rattle.program_runs.proofs.OpeningLaws.{few_calls, none_refused, opens_board}
use Rattle.program_runs.proofs.SplitLaws.{fits}
use Rattle.program_runs.proofs.floor.closing_of.Goals as goal

pub closing_of_day-requires-clause-fits : goal.closing_of_day-requires-clause-fits
closing_of_day-requires-clause-fits g c κs within =
    let opened : board_fault c.args.day.config c.args.day.members ≡ None =
    none_refused (board_fault c.args.day.config c.args.day.members) c.open.result c.in-Ok.fresh c.in-Ok.is
    c.open.ensures.refused in
    let few : length c.args.calls.now ≤ MAX_CALLS =
    omega (arith, few_calls c.args.day.config c.args.day.members opened) in
    let ss = c.in-Ok-split.scripts.items in
    subst (λ (n : ℕ). FitsMembers (newcomers n) ss) (sym c.in-Ok.ensures.opening.1)
    (fits c.args.day.members c.args.calls.now ss c.in-Ok-split.ensures few)

pub returns-clause-opening : goal.returns-clause-opening
returns-clause-opening g c =
    let opened : board_fault c.args.day.config c.args.day.members ≡ None =
    none_refused (board_fault c.args.day.config c.args.day.members) c.open.result c.in-Ok.fresh c.in-Ok.is
    c.open.ensures.refused in
    opens_board (board_fault c.args.day.config c.args.day.members) c.closing_of_day.result opened
    c.closing_of_day.ensures.fault

pub returns-clause-closing : goal.returns-clause-closing
returns-clause-closing g c =
    let opened = c.in-Ok.ensures.opening in
    days_of c.args.day.config c.in-Ok.fresh.config c.args.day.members c.in-Ok.fresh.members c.args.calls.now
    c.in-Ok-split.scripts.items c.closing_of_day.result opened.0 opened.1 c.in-Ok-split.ensures c.requires.below
    c.closing_of_day.ensures.closing
