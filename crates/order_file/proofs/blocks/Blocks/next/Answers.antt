-- Answers of `Blocks::next` (src/blocks.rt): what the prover left open; rt looks here.
use Rattle.std.proofs.Common.{◌≡◌, ◌+◌, ℕ, List, ◌∙◌, ap, subst, true, false, Err}
use Rattle.std.proofs.lemmas.Result.{err_from_is_err_and}
use Rattle.std.specs.Prelude.{IfSome, IsSomeAnd}
use Rattle.order_file.specs.Blocks.{ExplainsReading, BlockState, IsBlock, ReadsBytes, TakesBytes, and_then_rows}
use Rattle.order_file.specs.Blocks.{block_rows, rows_to_come}
use Rattle.byte_streams.specs.Streams.{TakesAtMost}
use Rattle.order_file.proofs.BlockLaws.{at-last_held, fails-going_on, fails-taking, earlier-fault, reads-after}
use Rattle.order_file.proofs.BlockLaws.{taken-after, reads-takes_bytes-both, gives-next_block}
use Rattle.order_file.proofs.blocks.Blocks.next.Goals as goal

pub returns-then-self-clause-rows : goal.returns-then-self-clause-rows
returns-then-self-clause-rows g c =
    at-last_held c.args.self.now _
    (subst (λ (h : BlockState). IsBlock h.bytes h.whole h.ended) c.self.view_is c.self.invariant)
    (subst (λ (h : BlockState). h.ended ≡ true) c.self.view_is c.if-self.true)

pub returns-in_err-ended-clause-rows : goal.returns-in_err-ended-clause-rows
returns-in_err-ended-clause-rows g c =
    let p = err_from_is_err_and c.from_residual.result c.from_residual.ensures.1 in
    fails-going_on c.from_residual.result _ c.args.self.now _ _ _ (p.1 ∙ ap Err p.2)
    (subst (λ (h : BlockState). h.ended ≡ false) c.self.view_is c.if-self.false)
    (subst (λ (h : BlockState). ExplainsReading c.in_err-ended.field-0.0 h.room (g.R.Source.left c.args.reader.now))
    c.self.view_is c.in_err-ended.ensures.fault)

pub returns-in_err-cut-clause-rows : goal.returns-in_err-cut-clause-rows
returns-in_err-cut-clause-rows g c =
    let p = err_from_is_err_and c.from_residual-in_err-cut.result c.from_residual-in_err-cut.ensures.1 in
    fails-going_on c.from_residual-in_err-cut.result _ c.args.self.now _ _ _ (p.1 ∙ ap Err p.2)
    (subst (λ (h : BlockState). h.ended ≡ false) c.self.view_is c.if-self.false)
    (subst (λ (h : BlockState). ExplainsReading c.in_err-cut.field-0.0 h.room (g.R.Source.left c.args.reader.now))
    c.self.view_is
    (earlier-fault _ _ _ _ _ _ _ c.in_ok-ended.ensures.read c.in_err-cut.ensures.fault))

pub returns-in_err-cut-clause-taken : goal.returns-in_err-cut-clause-taken
returns-in_err-cut-clause-taken g c =
    let p = err_from_is_err_and c.from_residual-in_err-cut.result c.from_residual-in_err-cut.ensures.1 in
    fails-taking c.from_residual-in_err-cut.result _ c.args.self.now.room _ _ _ p.1
    (subst (λ (h : BlockState). TakesAtMost (h.room + 1) (g.R.Source.left c.args.reader.now)
    (g.R.Source.left c.cut_lines.new.reader)) c.self.view_is
    (taken-after _ _ _ _ _ _ _ c.in_ok-ended.ensures.read c.in_err-cut.ensures.taken))

pub returns-clause-rows : goal.returns-clause-rows
returns-clause-rows g c =
    let old : BlockState = record {
      bytes = c.self.inside.bytes.items;
      whole = c.self.inside.whole;
      room =
          c.self.inside.room;
      ended = c.self.inside.ended;
    } in
    let held : BlockState = record {
      bytes = c.cut_lines.new.bytes.items;
      whole = c.in_ok-cut.cut.whole;
      room =
          c.cut_lines.new.room;
      ended = c.in_ok-cut.cut.ended;
    } in
    let a = g.R.Source.left c.args.reader.now in
    let b = g.R.Source.left c.cut_lines.new.reader in
    let read = reads-after _ _ _ _ _ _ _ _ _ c.in_ok-ended.ensures.read c.in_ok-cut.ensures.read in
    subst (λ (h : BlockState). IfSome a
    (λ before. IsSomeAnd b (λ left. rows_to_come h before ≡ and_then_rows (block_rows h) (rows_to_come held left))))
    c.self.view_is
    (gives-next_block old held a b c.self.invariant c.if-self.false
    (subst (λ (xs : List ℕ). ReadsBytes a b xs held.bytes old.room held.room) c.drop_front.ensures read)
    c.in_ok-cut.ensures.ended)

pub returns-clause-taken : goal.returns-clause-taken
returns-clause-taken g c =
    subst (λ (h : BlockState). TakesBytes h.room c.cut_lines.new.room (g.R.Source.left c.args.reader.now)
    (g.R.Source.left c.cut_lines.new.reader)) c.self.view_is
    (reads-takes_bytes-both _ _ _ _ _ _ _ _ _ _ c.in_ok-ended.ensures.read c.in_ok-cut.ensures.read)
