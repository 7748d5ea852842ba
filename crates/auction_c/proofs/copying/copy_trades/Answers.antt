-- Answers of `copy_trades` (src/copying.rt): what the prover left open; rt looks here.
use Rattle.std.proofs.Common.{arith, ap, ◌∙◌, slice_set}
use Rattle.auction_c.specs.Encoding.{trade_out}
use Rattle.auction_c.proofs.CopyLaws.{copied_more}
use Rattle.auction_c.proofs.copying.copy_trades.Goals as goal

pub loop-i-preserved : goal.loop-i-preserved
loop-i-preserved c =
    ap (slice_set c.loop-i.to c.loop-i.i) c.trade_out.ensures
    ∙ copied_more trade_out c.args.trades.now c.args.to.now c.loop-i.to c.loop-i.i _ (record {
      quantity = 0;
      bid = 0;
      ask = 0;
      tick = 0;
    }) (omega (arith, c.loop-i-test.true, c.min-most.ensures))
    (omega (arith, c.loop-i-test.true, c.min-most.ensures)) c.loop-i.invariant
