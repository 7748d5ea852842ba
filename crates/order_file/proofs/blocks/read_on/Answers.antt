-- Answers of `read_on` (src/blocks.rt): what the prover left open; rt looks here.
use Rattle.std.proofs.Common.{arith, length-append, take}
use Rattle.std.proofs.lemmas.List.{length-take}
use Rattle.order_file.proofs.ReadLaws.{consumes-more}
use Rattle.order_file.proofs.blocks.read_on.Goals as goal

pub returns-then-count-room-clause-taken : goal.returns-then-count-room-clause-taken
returns-then-count-room-clause-taken g c =
    let before = c.reads.invariant.0 in
    let ask = c.read.auto.buffer in (
      _,
      consumes-more _ _ _ _ _ before.read c.in-Ok.ensures.bytes.0,
      omega (
        arith,
        before.took,
        ask,
        length-append before.bytes (take c.in-Ok.count c.read.new.buffer),
        length-take c.in-Ok.count c.read.new.buffer,
        length-take c.min-ask.result c.reads.piece,
      ),
    )

pub returns-then-is_err-clause-taken : goal.returns-then-is_err-clause-taken
returns-then-is_err-clause-taken g c =
    let before = c.reads.invariant.0 in
    let ask = c.read.auto.buffer in (
      _,
      consumes-more _ _ _ _ _ before.read c.in-Ok.ensures.bytes.0,
      omega (
        arith,
        before.took,
        ask,
        length-append before.bytes (take c.in-Ok.count c.read.new.buffer),
        length-take c.in-Ok.count c.read.new.buffer,
        length-take c.min-ask.result c.reads.piece,
      ),
    )
