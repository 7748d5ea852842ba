-- Answers of `Blocks::lines` (src/blocks.rt): what the prover left open; rt looks here.
use Rattle.std.proofs.Common.{ap, subst, take}
use Rattle.order_file.specs.Blocks.{BlockState, IsBlock}
use Rattle.order_file.proofs.BlockLaws.{rows-of-block}
use Rattle.order_file.proofs.blocks.Blocks.lines.Goals as goal

pub returns : goal.returns
returns c =
    rows-of-block c.args.self.now _
    (subst (λ (h : BlockState). IsBlock h.bytes h.whole h.ended) c.self.view_is c.self.invariant)
    (rw c.deref.ensures.value (ap (λ (h : BlockState). take h.whole h.bytes) c.self.view_is))
