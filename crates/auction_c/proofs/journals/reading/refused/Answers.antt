-- Answers of `refused` (src/journals/reading.rt): what the prover left open; rt looks here.
use Rattle.std.proofs.Common.{refl}
use Rattle.journal.proofs.EntryLaws.{fails-alike}
use Rattle.journal.specs.JournalEntries.{day_left, entries_left}
use Rattle.journal.specs.JournalFile.{recorded_day}
use Rattle.auction_c.proofs.JournalFoundLaws.{config-refused}
use Rattle.auction_c.proofs.journals.reading.refused.Goals as goal

pub returns-in-Ok : goal.returns-in-Ok
returns-in-Ok c =
    let (rs, is) = c.in-Ok.ensures.passed in
    rw c.fault_out.ensures
    (config-refused _ (recorded_day c.args.entries.now.day rs) c.args.found.now c.args.fault (rw is refl)
    c.requires.fault)

pub returns-in-Err : goal.returns-in-Err
returns-in-Err c =
    c.refuse.ensures (day_left c.args.entries.now)
    (fails-alike c.in-Err.fault (entries_left c.args.entries.now) (day_left c.args.entries.now) (λ e. rw e refl)
    c.in-Err.ensures.passed)
