-- Answers of `put_rows` (src/table.rt): what the prover left open; rt looks here.
use Rattle.auction_views.specs.TableLines.{ladder_line}
use Rattle.printed_lines.proofs.Lists.{text-end}
use Rattle.auction_views.proofs.TableLaws.{line-put, lines-by-one}
use Rattle.auction_views.proofs.table.put_rows.Goals as goal

pub loop-row-preserved : goal.loop-row-preserved
loop-row-preserved c =
    line-put _ _ (lines-by-one ladder_line) _ _ _ _ _ _ c.loop-row.invariant c.loop-row-test.true
    c.in_ok-put_row.ensures

pub returns : goal.returns
returns c = text-end _ _ (lines-by-one ladder_line) _ _ _ _ c.loop-row.invariant c.loop-row-test.false
