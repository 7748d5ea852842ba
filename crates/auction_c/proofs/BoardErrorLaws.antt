-- The numbers of a board's faults.
use Rattle.std.proofs.Common.{◌≡◌, ℕ, refl, arith}
use Rattle.board_terms.specs.declared.calls.CallFault.TheVariants.{HistoryFull, OutOfStep, Overtaken}
use Rattle.shared_board.specs.declared.member.BoardFault.{BoardFault}
use Rattle.shared_board.specs.declared.member.BoardFault.TheVariants.{Busy, Closed, Call as CallRefused}
use Rattle.auction_c.specs.declared.errors.TheConstants.{BEHIND}
use Rattle.auction_c.specs.Calling.{board_fault_number}

-- a fault with this number says how the member is out of step
pub number_out_of_step : (f : BoardFault) → board_fault_number f ≡ BEHIND
    → (h : ℕ) × (k : ℕ) × (f ≡ CallRefused (OutOfStep h k))
number_out_of_step Busy e = absurd (omega (arith, e))
number_out_of_step Closed e = absurd (omega (arith, e))
number_out_of_step (CallRefused HistoryFull) e = absurd (omega (arith, e))
number_out_of_step (CallRefused (OutOfStep h k)) e = (h, k, refl)
number_out_of_step (CallRefused Overtaken) e = absurd (omega (arith, e))
