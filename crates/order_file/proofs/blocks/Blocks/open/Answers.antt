-- Answers of `Blocks::open` (src/blocks.rt): what the prover left open; rt looks here.
use Rattle.std.proofs.Common.{◌≡◌, ◌≤◌, ◌-◌, ◌∷◌, [], ◌∙◌, ap, length, refl, Err}
use Rattle.std.specs.Prelude.{MatchBool}
use Rattle.std.specs.Io.KnownBytes.{IsAtEnd, prepend_known}
use Rattle.order_file.proofs.blocks.Blocks.open.Given.{Over}
use Rattle.std.proofs.lemmas.Result.{err_from_is_err_and}
use Rattle.order_file.specs.Blocks.{ReadsBytes, without_mark}
use Rattle.order_file.proofs.BlockLaws.{explains-consumes-prepend, fails-opening, fails-taking, earlier-fault}
use Rattle.order_file.proofs.BlockLaws.{held-open, large, opens-block-with, reads-consumes-prepend, taken-after}
use Rattle.order_file.proofs.BlockLaws.{reads-takes_bytes-both}
use Rattle.order_file.proofs.blocks.Blocks.open.Goals as goal

-- what was read, with the bytes at the start
since : (g : Over) (c : goal.In_ok-cut g)
    → ReadsBytes (prepend_known c.args.start.now (g.R.Source.left c.args.reader.now))
    (g.R.Source.left c.read_on.new.reader) (10 ∷ []) c.read_on.new.bytes.items c.args.most c.read_on.new.room
since g c =
    reads-consumes-prepend c.args.start.now _ _ _ _ c.args.most _ _ c.in_ok-bytes.ensures.bytes c.requires refl
    c.in_ok-ended.ensures.read

-- and a byte order mark after the line end is none any more
marked : (g : Over) (c : goal.In_ok-cut g) → c.blank_mark.new.bytes.items ≡ without_mark c.read_on.new.bytes.items
marked g c = c.blank_mark.ensures.marked

pub returns-in_err-ended-clause-rows : goal.returns-in_err-ended-clause-rows
returns-in_err-ended-clause-rows g c =
    let p = err_from_is_err_and c.from_residual-in_err-ended.result c.from_residual-in_err-ended.ensures.1 in
    fails-opening c.from_residual-in_err-ended.result _ c.args.most _ _ (p.1 ∙ ap Err p.2)
    (explains-consumes-prepend _ c.args.start.now _ c.args.most _ c.requires refl c.in_err-ended.ensures.fault)

pub returns-in_err-cut-clause-rows : goal.returns-in_err-cut-clause-rows
returns-in_err-cut-clause-rows g c =
    let p = err_from_is_err_and c.from_residual-in_err-cut.result c.from_residual-in_err-cut.ensures.1 in
    fails-opening c.from_residual-in_err-cut.result _ c.args.most _ _ (p.1 ∙ ap Err p.2)
    (explains-consumes-prepend _ c.args.start.now _ c.args.most _ c.requires refl
    (earlier-fault _ _ _ _ _ _ _ c.in_ok-ended.ensures.read c.in_err-cut.ensures.fault))

pub returns-in_err-cut-clause-taken : goal.returns-in_err-cut-clause-taken
returns-in_err-cut-clause-taken g c =
    let p = err_from_is_err_and c.from_residual-in_err-cut.result c.from_residual-in_err-cut.ensures.1 in
    fails-taking c.from_residual-in_err-cut.result _ (c.args.most - length c.args.start.now) _ _ _ p.1
    (taken-after _ _ _ _ _ _ _ c.in_ok-ended.ensures.read c.in_err-cut.ensures.taken)

pub invariant_of-result : goal.invariant_of-result
invariant_of-result g c =
    held-open _ _ _ _ _ _ _ _ _ _ _ _ (since g c) c.in_ok-cut.ensures.read refl (marked g c) c.in_ok-cut.ensures.cut.0
    c.in_ok-cut.ensures.cut.1

pub returns-clause-rows : goal.returns-clause-rows
returns-clause-rows g c =
    let enough : MatchBool c.in_ok-ended.ended (IsAtEnd (g.R.Source.left c.read_on.new.reader))
    (4 ≤ length c.read_on.new.bytes.items) = large c.in_ok-ended.ended _ _ c.in_ok-ended.ensures.ended in
    opens-block-with (record {
      bytes = c.cut_lines.new.bytes.items;
      whole = c.in_ok-cut.cut.whole;
      room =
          c.cut_lines.new.room;
      ended = c.in_ok-cut.cut.ended;
    })
    _ _ c.in_ok-ended.ended _ _ _ _ _ _ (since g c) c.in_ok-cut.ensures.read refl (marked g c) enough
    c.in_ok-cut.ensures.ended

pub returns-clause-taken : goal.returns-clause-taken
returns-clause-taken g c =
    reads-takes_bytes-both _ _ _ _ _ _ _ _ _ _ c.in_ok-ended.ensures.read c.in_ok-cut.ensures.read
