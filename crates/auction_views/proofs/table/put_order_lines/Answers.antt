-- Answers of `put_order_lines` (src/table.rt): what the prover left open; rt looks here.
use Rattle.auction_views.specs.TableLines.{order_line}
use Rattle.printed_lines.proofs.Lists.{text-end}
use Rattle.auction_views.proofs.TableLaws.{line-put, lines-by-one}
use Rattle.auction_views.proofs.table.put_order_lines.Goals as goal

pub loop-order-preserved : goal.loop-order-preserved
loop-order-preserved c =
    line-put _ _ (lines-by-one order_line) _ _ _ _ _ _ c.loop-order.invariant c.loop-order-test.true
    c.in_ok-put_order.ensures

pub returns : goal.returns
returns c = text-end _ _ (lines-by-one order_line) _ _ _ _ c.loop-order.invariant c.loop-order-test.false
