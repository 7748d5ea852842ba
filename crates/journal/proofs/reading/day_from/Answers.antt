-- Answers of `day_from` (src/reading.rt): what the prover left open; rt looks here.
use Rattle.std.proofs.Common.{◌≡◌, rules, false, true}
use Rattle.csv.specs.Records.{fields_of}
use Rattle.journal.specs.DayRecord.{is_day_row}
use Rattle.journal.proofs.EntryLaws.{fails-record, first-faulty, first-day, first-missing, first-other}
use Rattle.journal.proofs.reading.day_from.Goals as goal

pub returns-then-not-branch-clause-day : goal.returns-then-not-branch-clause-day
returns-then-not-branch-clause-day c = first-missing _ (rw c.if-not-branch.true at c.in_ok-next.ensures)

pub returns-then-not-is_day_row-clause-day : goal.returns-then-not-is_day_row-clause-day
returns-then-not-is_day_row-clause-day c =
    let found = rw c.if-not-branch.false at c.in_ok-next.ensures in
    let other : is_day_row (fields_of c.next.new.self.row) ≡ false = search rules in
    first-other _ _ _ found.0 other

pub returns-in-Ok-clause-day : goal.returns-in-Ok-clause-day
returns-in-Ok-clause-day c =
    let found = rw c.if-not-branch.false at c.in_ok-next.ensures in
    let same : is_day_row (fields_of c.next.new.self.row) ≡ true = search rules in
    (found.1, first-day _ _ _ _ found.0 same c.in-Ok.ensures)

pub returns-in-Err-clause-day : goal.returns-in-Err-clause-day
returns-in-Err-clause-day c =
    let found = rw c.if-not-branch.false at c.in_ok-next.ensures in
    let same : is_day_row (fields_of c.next.new.self.row) ≡ true = search rules in
    rw c.in_record.ensures (fails-record 1 _ _ (first-faulty _ _ _ _ found.0 same c.in-Err.ensures))
