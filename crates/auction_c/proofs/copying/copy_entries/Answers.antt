-- Answers of `copy_entries` (src/copying.rt): what the prover left open; rt looks here.
use Rattle.std.proofs.Common.{arith, ap, ◌∙◌, slice_set}
use Rattle.auction_c.specs.Encoding.{entry_out}
use Rattle.auction_c.proofs.CopyLaws.{copied_more}
use Rattle.auction_c.proofs.copying.copy_entries.Goals as goal

pub loop-i-preserved : goal.loop-i-preserved
loop-i-preserved c =
    ap (slice_set c.loop-i.to c.loop-i.i) c.entry_out.ensures
    ∙ copied_more entry_out c.args.history.now c.args.to.now c.loop-i.to c.loop-i.i _ c.entry_out.result
    (omega (arith, c.loop-i-test.true, c.min-most.ensures))
    (omega (arith, c.loop-i-test.true, c.min-most.ensures)) c.loop-i.invariant
