-- Answers of `Blocks::drain` (src/blocks.rt): what the prover left open; rt looks here.
use Rattle.std.proofs.Common.{◌≡◌, true, subst}
use Rattle.order_file.specs.Blocks.{BlockState, IsBlock, PassesOverRest}
use Rattle.std.specs.Prelude.{IfSome}
use Rattle.order_file.proofs.BlockLaws.{passes-over_rest-last, passes-over}
use Rattle.order_file.proofs.blocks.Blocks.drain.Goals as goal

pub returns-then-self-clause-rows : goal.returns-then-self-clause-rows
returns-then-self-clause-rows g c =
    passes-over_rest-last c.args.self.now _
    (subst (λ (h : BlockState). IsBlock h.bytes h.whole h.ended) c.self.view_is c.self.invariant)
    (subst (λ (h : BlockState). h.ended ≡ true) c.self.view_is c.if-self.true)

pub returns-clause-rows : goal.returns-clause-rows
returns-clause-rows g c =
    subst (λ (h : BlockState). IfSome (g.R.Source.left c.args.reader.now)
    (λ left. PassesOverRest c.pass_over.result h left)) c.self.view_is
    (passes-over c.pass_over.result (record {
      bytes = c.self.inside.bytes.items;
      whole = c.self.inside.whole;
      room = c.self.inside.room;
      ended = c.self.inside.ended;
    }) _ _ c.self.invariant c.if-self.false
    c.pass_over.ensures.fault c.pass_over.ensures.read)
