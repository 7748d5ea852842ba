-- Answers of `run_floor` (src/floor.rt): what the prover left open; rt looks here.
use Rattle.std.proofs.Common.{Err, arith, refl, subst}
use Rattle.board_terms.specs.declared.closing.Closing.{Closing}
use Rattle.journal.specs.DayWithCalls.{day_with_calls}
use Rattle.program_runs.specs.BoardRun.{IsWideFloor, closed_text}
use Rattle.program_runs.specs.Printed.{IfBegun}
use Rattle.program_runs.specs.declared.fault.Fault.{Fault}
use Rattle.program_runs.specs.declared.fault.Fault.TheVariants as fault
use Rattle.program_runs.specs.declared.fault.Finish.TheVariants.{Lawful}
use Rattle.program_runs.proofs.OwedLaws.{ended_between, handed_over, is_text, ran_short, ran_whole, read_well}
use Rattle.program_runs.proofs.OwedLaws.{refused_input, wrote_well}
use Rattle.program_runs.proofs.floor.run_floor.Goals as goal

pub returns-in_err-run_input : goal.returns-in_err-run_input
returns-in_err-run_input g c =
    let f = c.in_err-run_input.field-0.0 in
    handed_over _ _ _ (fault.File f) c.from_residual.ensures.1
    (refused_input _ _ _ f refl c.in_err-run_input.ensures.failed (λ h. omega (arith, h)) refl tt
    c.in_err-run_input.ensures.answer)

pub returns-in_err-closing : goal.returns-in_err-closing
returns-in_err-closing g c =
    let f = c.in_err-closing.field-0.0 in
    handed_over _ _ _ f c.from_residual-in_err-closing.ensures.1
    (ended_between Closing _ _ (day_with_calls c.in_ok-run_input.run_input) f c.in_ok-run_input.ensures.answer
    (read_well _ c.in_ok-run_input.run_input refl c.in_ok-run_input.ensures.failed) (λ h. omega (arith, h)) refl tt
    c.in_err-closing.ensures.fault c.in_err-closing.ensures.opening)

pub returns-in_err-write_floor : goal.returns-in_err-write_floor
returns-in_err-write_floor g c =
    let run_input = day_with_calls c.in_ok-run_input.run_input in
    let closing = c.in_ok-closing.closing in
    let f = c.in_err-write_floor.field-0.0 in
    let day = rw c.as_slice-calls.ensures.value at c.in_ok-closing.ensures.closing in
    handed_over _ _ _ f c.from_residual-in_err-write_floor.ensures.1
    (ran_short _ _ run_input Lawful (closed_text c.args.form run_input.day closing) _ f refl
    c.in_ok-run_input.ensures.answer
    (read_well _ c.in_ok-run_input.run_input refl c.in_ok-run_input.ensures.failed)
    c.in_err-write_floor.ensures.failed c.in_ok-closing.ensures.opening tt c.in_err-write_floor.ensures.fault
    (λ failed. (
      refl,
      is_text c.args.form run_input closing day (subst (λ (x : Fault). IfBegun (Err x) (IsWideFloor c.args.form
          closing.history.items)) failed c.in_err-write_floor.ensures.wide),
    ))
    c.in_err-write_floor.ensures.text)

pub returns : goal.returns
returns g c =
    let run_input = day_with_calls c.in_ok-run_input.run_input in
    let closing = c.in_ok-closing.closing in
    let day = rw c.as_slice-calls.ensures.value at c.in_ok-closing.ensures.closing in
    ran_whole _ _ run_input Lawful (closed_text c.args.form run_input.day closing) c.in_ok-run_input.ensures.answer
    (read_well _ c.in_ok-run_input.run_input refl c.in_ok-run_input.ensures.failed)
    (wrote_well _ _ refl c.in_ok-write_floor.ensures.failed) c.in_ok-closing.ensures.opening
    (refl, is_text c.args.form run_input closing day c.in_ok-write_floor.ensures.wide)
    c.in_ok-write_floor.ensures.text
