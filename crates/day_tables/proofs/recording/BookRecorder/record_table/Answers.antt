-- Answers of `BookRecorder::record_table` (src/recording.rt): what the prover left open; rt looks here.
use Rattle.std.proofs.Common.{◌≡◌, ◌∙◌, ◌+◌, refl, arith}
use Rattle.day_tables.specs.BookTable.{table_before}
use Rattle.day_tables.specs.ShownTable.{IsShownIn}
use Rattle.day_tables.proofs.BookRecorderLaws.{tables-more, tables-same}
use Rattle.day_tables.proofs.recording.BookRecorder.record_table.Goals as goal

pub returns-in_default-clause-tables : goal.returns-in_default-clause-tables
unfolding table_before
returns-in_default-clause-tables c = λ front are. rw c.in_default.ensures.heading (tables-same _ _ front are)

pub returns-clause-tables : goal.returns-clause-tables
returns-clause-tables c = λ front are.
    let auction = c.args.auction.now in
    let told = c.in-Some.ensures.heading in
    let number : c.in-Some.heading.command ≡ auction.calls + 1 =
    grind (arith, told.number, c.from-command.ensures, c.calls.ensures.value) in
    let shown : IsShownIn auction.config auction.state c.in-Some.heading c.in_ok-ladder.ladder = record {
      told = record { number = refl; auction = told.auction; price = told.price };
      over = c.in_ok-ladder.ensures ∙ (rw c.in-Some.ensures.auction at c.ladder.ensures.value);
      book = rw c.in_ok-ladder.ensures (rw c.in-Some.ensures.auction at c.ladder.ensures.book);
    } in
    rw (c.in_ok-push.ensures.items, ← number) (tables-more auction.config _ _ auction.state front are shown)
