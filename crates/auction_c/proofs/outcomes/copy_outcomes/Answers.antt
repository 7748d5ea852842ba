-- Answers of `copy_outcomes` (src/outcomes.rt): what the prover left open; rt looks here.
use Rattle.std.proofs.Common.{arith, ap, ◌∙◌, slice_set}
use Rattle.auction_c.specs.Executed.{outcome_in}
use Rattle.auction_c.proofs.CopyLaws.{copied_more, no_order}
use Rattle.auction_c.proofs.outcomes.copy_outcomes.Goals as goal

pub loop-i-preserved : goal.loop-i-preserved
loop-i-preserved c =
    let out = outcome_in c.args.done.now.reply c.args.done.now.bids.items c.args.done.now.asks.items in
    ap (slice_set c.loop-i.to c.loop-i.i) c.outcome.ensures
    ∙ copied_more out c.args.touched.now c.args.to.now c.loop-i.to c.loop-i.i _ (out no_order)
    (omega (arith, c.loop-i-test.true, c.min-most.ensures))
    (omega (arith, c.loop-i-test.true, c.min-most.ensures)) c.loop-i.invariant
