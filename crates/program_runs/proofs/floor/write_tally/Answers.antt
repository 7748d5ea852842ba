-- Answers of `write_tally` (src/floor.rt): what the prover left open; rt looks here.
use Rattle.std.proofs.Common.{subst}
use Rattle.byte_streams.specs.Streams.{AppendsBeginning}
use Rattle.std.specs.Io.KnownBytes.{Appends}
use Rattle.program_runs.specs.BoardRun.{closing_text}
use Rattle.program_runs.proofs.PlayedDayLaws.{none_bad}
use Rattle.program_runs.proofs.floor.write_tally.Goals as goal

pub returns-in_default-clause-text : goal.returns-in_default-clause-text
returns-in_default-clause-text g c =
    let found = rw c.as_slice.ensures.value at c.in-Ok.ensures.finding in
    let none = none_bad _ _ c.in-Ok.place c.requires found in
    subst (λ place. AppendsBeginning (g.S.Sink.written c.args.writer.now) (g.S.Sink.written c.write_closing.new.writer)
    (closing_text c.args.form c.args.closing.now place)) none c.in_default.ensures.text

pub returns-clause-text : goal.returns-clause-text
returns-clause-text g c =
    let found = rw c.as_slice.ensures.value at c.in-Ok.ensures.finding in
    let none = none_bad _ _ c.in-Ok.place c.requires found in
    subst (λ place. Appends (g.S.Sink.written c.args.writer.now) (g.S.Sink.written c.write_closing.new.writer)
    (closing_text c.args.form c.args.closing.now place)) none c.in-Ok-write_closing.ensures.text
