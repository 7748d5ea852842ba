-- Answers of `bytes_after` (src/reading.rt): what the prover left open; rt looks here.
use Rattle.std.proofs.Common.{arith, rules, take}
use Rattle.std.proofs.lemmas.List.{length-take}
use Rattle.order_file.proofs.ReadLaws.{consumes-behind, kept-consumes-behind, read-all, read-consumes-behind}
use Rattle.order_file.proofs.ReadLaws.{read-too-much, taken-consumes-behind}
use Rattle.order_file.proofs.reading.bytes_after.Goals as goal

pub returns-in_default-clause-taken : goal.returns-in_default-clause-taken
returns-in_default-clause-taken g c =
    kept-consumes-behind _ _ _ _ _ _ c.reads.invariant.read c.in_default.ensures.bytes (search rules)

pub returns-then-count-eq0-clause-bytes : goal.returns-then-count-eq0-clause-bytes
returns-then-count-eq0-clause-bytes g c =
    let (more, is, h) = c.reads.invariant.read in
    let read = c.in-Ok.ensures.bytes in
    read-all _ _ _ _ c.reads.bytes.items _ c.in-Ok.count (consumes-behind _ _ more _ _ is h) read.0 (search rules)
    (read.1 (search rules) (search rules)) (search rules)

pub returns-then-count-eq0-clause-taken : goal.returns-then-count-eq0-clause-taken
returns-then-count-eq0-clause-taken g c =
    read-consumes-behind _ c.reads.bytes.items (take c.in-Ok.count c.read.new.buffer) _ _ _ _ c.reads.invariant.read
    c.in-Ok.ensures.bytes.0
    (omega (arith, c.if-count-eq0.true, c.reads.invariant.within, length-take c.in-Ok.count c.read.new.buffer))

pub returns-then-is_err-clause-taken : goal.returns-then-is_err-clause-taken
returns-then-is_err-clause-taken g c =
    let long = c.read.auto.buffer in
    read-consumes-behind _ c.reads.bytes.items (take c.in-Ok.count c.read.new.buffer) _ _ _ _ c.reads.invariant.read
    c.in-Ok.ensures.bytes.0
    (omega (arith, length-take c.in-Ok.count c.read.new.buffer, long, length-take c.min-room.result c.reads.chunk))

pub returns-clause-bytes : goal.returns-clause-bytes
returns-clause-bytes g c =
    let (more, is, h) = c.reads.invariant.read in
    read-too-much _ _ _ _ (consumes-behind _ _ more _ _ is h) (search rules)

pub returns-clause-taken : goal.returns-clause-taken
returns-clause-taken g c = taken-consumes-behind _ _ _ _ _ c.reads.invariant.read (search rules)
