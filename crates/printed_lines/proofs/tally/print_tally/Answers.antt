-- Answers of `print_tally` (src/tally.rt): what the prover left open; rt looks here.
use Rattle.std.proofs.Common.{refl}
use Rattle.printed_lines.specs.Tally.{tally}
use Rattle.printed_lines.proofs.PrinterLaws.{prints_among, prints_begun, prints_more}
use Rattle.printed_lines.proofs.tally.print_tally.Goals as goal

pub returns-in_err-print_entries : goal.returns-in_err-print_entries
unfolding tally
returns-in_err-print_entries g c = prints_begun _ c.from_residual.ensures.0 c.in_err-print_entries.ensures

pub returns-in_err-print_members : goal.returns-in_err-print_members
unfolding tally
returns-in_err-print_members g c =
    prints_among _ c.from_residual-in_err-print_members.ensures.0 refl c.in_ok-print_entries.ensures
    c.in_err-print_members.ensures

pub returns : goal.returns
unfolding tally
returns g c =
    prints_more c.in_ok-print_entries.ensures (prints_more c.in_ok-print_members.ensures c.print_audit.ensures)
