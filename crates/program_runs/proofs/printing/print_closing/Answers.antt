-- Answers of `print_closing` (src/printing.rt): what the prover left open; rt looks here.
use Rattle.std.proofs.Common.{◌≡◌, ◌++◌, [], ℕ, List, Option, append-nil, refl, sym}
use Rattle.board_terms.specs.declared.closing.Closing.{Closing}
use Rattle.printed_lines.specs.Tally.{history_lines}
use Rattle.printed_lines.proofs.PrinterLaws.{prints_begun, prints_more}
use Rattle.program_runs.specs.declared.printing.ClosingForm.{ClosingForm}
use Rattle.program_runs.specs.declared.printing.ClosingForm.TheVariants as closings
use Rattle.program_runs.specs.BoardRun.{closing_tally, closing_text}
use Rattle.program_runs.proofs.printing.print_closing.Goals as goal

-- the tally comes first
tally-first : (form : ClosingForm) (closing : Closing) (first_bad : Option ℕ)
    → (rest : List ℕ) × (closing_text form closing first_bad ≡ closing_tally closing first_bad ++ rest)
tally-first closings.Tally closing first_bad = ([], sym (append-nil _))
tally-first closings.History closing first_bad = (history_lines closing.history.items, refl)

pub returns-in_err-print_tally : goal.returns-in_err-print_tally
returns-in_err-print_tally g c =
    let told = rw (c.as_slice-entries.ensures.value, c.as_slice-calls.ensures.value) at c.in_err-print_tally.ensures in
    let (rest, is) = tally-first c.args.form c.args.closing.now c.args.first_bad in
    rw is (prints_begun rest c.from_residual.ensures.0 told)

pub returns-in-Tally : goal.returns-in-Tally
returns-in-Tally g c =
    let told = rw (c.as_slice-entries.ensures.value, c.as_slice-calls.ensures.value) at c.in_ok-print_tally.ensures in
    rw c.in-Tally.is told

pub returns-in-History : goal.returns-in-History
returns-in-History g c =
    let told = rw (c.as_slice-entries.ensures.value, c.as_slice-calls.ensures.value) at c.in_ok-print_tally.ensures in
    let more = rw c.as_slice-entries.ensures.value at c.print_history.ensures in
    rw c.in-History.is (prints_more told more)
