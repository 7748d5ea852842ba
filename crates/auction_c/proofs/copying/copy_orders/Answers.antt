-- Answers of `copy_orders` (src/copying.rt): what the prover left open; rt looks here.
use Rattle.std.proofs.Common.{arith, ap, ◌∙◌, slice_set}
use Rattle.auction_c.specs.Encoding.{order_out}
use Rattle.auction_c.proofs.CopyLaws.{copied_more, no_order}
use Rattle.auction_c.proofs.copying.copy_orders.Goals as goal

pub loop-i-preserved : goal.loop-i-preserved
loop-i-preserved c =
    ap (slice_set c.loop-i.to c.loop-i.i) c.order_out.ensures
    ∙ copied_more order_out c.args.listed.now c.args.to.now c.loop-i.to c.loop-i.i _ (order_out no_order)
    (omega (arith, c.loop-i-test.true, c.min-most.ensures))
    (omega (arith, c.loop-i-test.true, c.min-most.ensures)) c.loop-i.invariant
