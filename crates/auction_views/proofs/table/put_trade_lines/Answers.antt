-- Answers of `put_trade_lines` (src/table.rt): what the prover left open; rt looks here.
use Rattle.printed_lines.proofs.Lists.{text-end}
use Rattle.auction_views.proofs.TableLaws.{line-put, trades-by-one}
use Rattle.auction_views.proofs.table.put_trade_lines.Goals as goal

pub loop-place-preserved : goal.loop-place-preserved
loop-place-preserved c =
    line-put _ _ trades-by-one _ _ _ _ _ _ c.loop-place.invariant c.loop-place-test.true c.in_ok-put_trade.ensures

pub returns : goal.returns
returns c = text-end _ _ trades-by-one _ _ _ _ c.loop-place.invariant c.loop-place-test.false
