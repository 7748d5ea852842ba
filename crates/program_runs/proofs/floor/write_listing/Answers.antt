-- Answers of `write_listing` (src/floor.rt): what the prover left open; rt looks here.
use Rattle.std.proofs.Common.{ℕ, List, subst}
use Rattle.program_runs.specs.FileRun.{WritesText}
use Rattle.program_runs.proofs.ComingLaws.{listing-recorded, listing-printed, listing-wide}
use Rattle.program_runs.proofs.floor.write_listing.Goals as goal

pub record_calls-requires-clause-room : goal.record_calls-requires-clause-room
record_calls-requires-clause-room g c = rw c.new-history.ensures c.requires.few

pub write_recorded-requires : goal.write_recorded-requires
write_recorded-requires g c = (
  _,
  listing-recorded c.args.listing c.args.day c.args.entries.now c.in-Ok.recorded_day c.requires
      (rw c.new-history.ensures at c.in-Ok.ensures.recorded),
)

pub returns-in-Ok-clause-text : goal.returns-in-Ok-clause-text
returns-in-Ok-clause-text g c =
    let recorded = rw c.new-history.ensures at c.in-Ok.ensures.recorded in
    let entries = c.args.entries.now in
    subst (λ (text : List ℕ). WritesText (g.S.Sink.written c.args.writer.now)
    (g.S.Sink.written c.write_recorded.new.writer) text c.write_recorded.result)
    (listing-printed c.args.listing c.args.day entries c.in-Ok.recorded_day c.requires recorded)
    (c.write_recorded.ensures.text entries
    (listing-recorded c.args.listing c.args.day entries c.in-Ok.recorded_day c.requires recorded))

pub returns-in-Ok-clause-wide : goal.returns-in-Ok-clause-wide
returns-in-Ok-clause-wide g c =
    let recorded = rw c.new-history.ensures at c.in-Ok.ensures.recorded in
    let entries = c.args.entries.now in
    listing-wide c.args.listing c.args.day entries c.in-Ok.recorded_day c.write_recorded.result c.requires recorded
    (c.write_recorded.ensures.wide entries
    (listing-recorded c.args.listing c.args.day entries c.in-Ok.recorded_day c.requires recorded))
