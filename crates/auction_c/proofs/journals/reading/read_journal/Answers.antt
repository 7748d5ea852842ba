-- Answers of `read_journal` (src/journals/reading.rt): what the prover left open; rt looks here.
use Rattle.std.proofs.Common.{◌∙◌}
use Rattle.auction_c.proofs.JournalFoundLaws.{read-of-lines, refused-of-lines, too-long}
use Rattle.auction_c.proofs.journals.reading.read_journal.Goals as goal

pub returns-then-text-gt-MAX_JOURNAL_BYTES : goal.returns-then-text-gt-MAX_JOURNAL_BYTES
returns-then-text-gt-MAX_JOURNAL_BYTES c = c.refuse.ensures _ (too-long _ c.if-text-gt-MAX_JOURNAL_BYTES.true)

pub returns-in-Ok : goal.returns-in-Ok
returns-in-Ok c =
    read-of-lines c.args.text.now _ c.args.found.now c.read_lines.new.found c.in-Ok.auction
    c.committed_len-taken.result c.if-text-gt-MAX_JOURNAL_BYTES.false c.committed_len-taken.ensures.count
    (c.split_at.ensures.front ∙ c.committed_len-taken.ensures.front) c.in-Ok.ensures

pub returns-in-Err : goal.returns-in-Err
returns-in-Err c =
    refused-of-lines c.args.text.now _ c.args.found.now c.read_lines.new.found c.in-Err.error
    c.if-text-gt-MAX_JOURNAL_BYTES.false (c.split_at.ensures.front ∙ c.committed_len-taken.ensures.front)
    c.in-Err.ensures
