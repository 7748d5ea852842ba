-- Answers of `write_run` (src/run.rt): what the prover left open; rt looks here.
use Rattle.std.proofs.Common.{Err, Ok, refl, arith}
use Rattle.program_runs.specs.AuctionRun.{auction_job, run_text}
use Rattle.program_runs.specs.Printed.{history_of}
use Rattle.program_runs.specs.declared.fault.Finish.TheVariants.{Lawful}
use Rattle.journal.specs.DayWithCalls.{DayWithCalls}
use Rattle.program_runs.proofs.RecorderLaws.{unrecorded, recorded_well, recorded_wide, recorded_wrote, said_given}
use Rattle.program_runs.proofs.OwedLaws.{handed_over, ran_short, ran_whole, write-failed, wrote_well}
use Rattle.program_runs.proofs.run.write_run.Goals as goal

pub returns-in-Err : goal.returns-in-Err
returns-in-Err g c = λ day form left rest reads reads_after (said, recorded, known) told.
    let f = c.in-Err.fault in
    unrecorded form day _ said (Err f) f refl (rw c.in-Err.is at told) (λ h. omega (arith, h)) refl
    (rw c.in-Err.is at recorded) known

pub write_recorded-requires : goal.write_recorded-requires
write_recorded-requires g c =
    let (form, said, recorded) = c.requires in
    let (calls, is, (for, opens, few, holds)) = rw c.in-Ok.is at recorded in
    (_, holds)

pub returns-in_err-write_recorded : goal.returns-in_err-write_recorded
returns-in_err-write_recorded g c = λ day form left rest reads reads_after (said, recorded, known) told.
    let f = c.in_err-write_recorded.field-0.0 in
    let recorded_day = c.in-Ok.recorded_day.day in
    let (calls, is, (for, opens, few, holds)) = rw c.in-Ok.is at recorded in
    let run_input : DayWithCalls = record { day = recorded_day; calls = calls } in
    let entries = history_of recorded_day.config calls in
    let failed = write-failed f c.in_err-write_recorded.ensures.fault in
    handed_over _ _ _ f c.from_residual.ensures.1
    (ran_short (auction_job day form) _ run_input Lawful (run_text form run_input) _ f refl
    (said_given day _ said run_input is known)
    (recorded_well _ _ refl (rw c.in-Ok.is at told)) c.in_err-write_recorded.ensures.failed opens failed.0 failed.1
    (λ _. (refl, (refl, recorded_wide form _ entries for (c.in_err-write_recorded.ensures.wide entries holds))))
    (recorded_wrote form _ run_input (g.S.Sink.written c.args.writer.now) (g.S.Sink.written c.write_recorded.new.writer)
    (Err f) for (c.in_err-write_recorded.ensures.text entries holds)))

pub returns : goal.returns
returns g c = λ day form left rest reads reads_after (said, recorded, known) told.
    let recorded_day = c.in-Ok.recorded_day.day in
    let (calls, is, (for, opens, few, holds)) = rw c.in-Ok.is at recorded in
    let run_input : DayWithCalls = record { day = recorded_day; calls = calls } in
    let entries = history_of recorded_day.config calls in
    ran_whole (auction_job day form) _ run_input Lawful (run_text form run_input)
    (said_given day _ said run_input is known)
    (recorded_well _ _ refl (rw c.in-Ok.is at told)) (wrote_well _ _ refl c.in_ok-write_recorded.ensures.failed) opens
    (refl, (refl, recorded_wide form _ entries for (c.in_ok-write_recorded.ensures.wide entries holds)))
    (recorded_wrote form _ run_input (g.S.Sink.written c.args.writer.now) (g.S.Sink.written c.write_recorded.new.writer)
    (Ok tt) for (c.in_ok-write_recorded.ensures.text entries holds))
