-- Answers of `pass_over` (src/blocks.rt): what the prover left open; rt looks here.
use Rattle.std.proofs.Common.{◌++◌, arith, length-append, rules, take}
use Rattle.std.proofs.lemmas.List.{length-take}
use Rattle.order_file.proofs.ReadLaws.{consumes-more}
use Rattle.order_file.proofs.blocks.pass_over.Goals as goal

pub returns-then-count-room-clause-taken : goal.returns-then-count-room-clause-taken
returns-then-count-room-clause-taken g c =
    let before = c.reads.invariant.0 in
    let ask = c.read.auto.buffer in (
      _,
      consumes-more _ _ _ _ _ before.1 c.in-Ok.ensures.bytes.0,
      omega (
        arith,
        before.2,
        ask,
        length-append before.0 (take c.in-Ok.count c.read.new.buffer),
        length-take c.in-Ok.count c.read.new.buffer,
        length-take c.min-ask.result c.reads.piece,
      ),
    )

pub reads-preserved : goal.reads-preserved
reads-preserved g c =
    let before = c.reads.invariant.0 in (
      (
        before.0 ++ take c.in-Ok.count c.read.new.buffer,
        consumes-more _ _ _ _ _ before.1 c.in-Ok.ensures.bytes.0,
        omega (
          arith,
          before.2,
          c.in-Ok.ensures.count,
          length-append before.0 (take c.in-Ok.count c.read.new.buffer),
          length-take c.in-Ok.count c.read.new.buffer,
        ),
      ),
      search rules,
    )
