-- Answers of `call_one` (src/board/calling.rt): what the prover left open; rt looks here.
use Rattle.std.proofs.Common.{◌∙◌, ap, sym, Err}
use Rattle.board_terms.specs.declared.calls.CallFault.TheVariants.{OutOfStep}
use Rattle.auction_c.proofs.BoardErrorLaws.{number_out_of_step}
use Rattle.auction_c.proofs.board.calling.call_one.Goals as goal

pub returns-in-Err-clause-out_of_step : goal.returns-in-Err-clause-out_of_step
returns-in-Err-clause-out_of_step c =
    λ e.
    let found = number_out_of_step c.in-Err.fault (sym c.board_fault_out.ensures.number ∙ e) in
    (OutOfStep found.0 found.1, c.in-Err.ensures.out_of_step found.0 found.1 (ap Err found.2))
