-- Answers of `print_kept_journal` (src/kept.rt): what the prover left open; rt looks here.
use Rattle.printed_lines.proofs.PrinterLaws.{prints_begun, prints_more}
use Rattle.journal.proofs.JournalTextLaws.{text-by-lines}
use Rattle.journal.proofs.kept.print_kept_journal.Goals as goal

pub returns-in_err-print_day : goal.returns-in_err-print_day
returns-in_err-print_day g c =
    λ entries holds. rw (text-by-lines c.args.day entries)
    (prints_begun _ c.from_residual.ensures.0 c.in_err-print_day.ensures)

pub returns : goal.returns
returns g c = λ entries holds.
    rw (text-by-lines c.args.day entries, ← holds.0) (prints_more c.in_ok-print_day.ensures c.print.ensures)
