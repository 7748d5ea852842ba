-- Answers of `word_of` (src/record.rt): what the prover left open; rt looks here.
use Rattle.std.proofs.Common.{refl, arith}
use Rattle.order_file.specs.CommandWord.{word_of}
use Rattle.order_file.proofs.WordLaws.{seven, six}
use Rattle.order_file.proofs.record.word_of.Goals as goal

pub returns-in-99 : goal.returns-in-99
unfolding word_of
returns-in-99 c =
    let field = c.args.field.now in
    let is = six field 99 104 97 110 103 101 (omega arith) (omega arith) (omega arith) (omega arith)
    (omega arith) (omega arith) (omega arith) in
    rw is refl

pub returns-in-100 : goal.returns-in-100
unfolding word_of
returns-in-100 c =
    let field = c.args.field.now in
    let is = six field 100 101 108 101 116 101 (omega arith) (omega arith) (omega arith) (omega arith)
    (omega arith) (omega arith) (omega arith) in
    rw is refl

pub returns-in-115 : goal.returns-in-115
unfolding word_of
returns-in-115 c =
    let field = c.args.field.now in
    let is = six field 115 116 97 116 117 115 (omega arith) (omega arith) (omega arith) (omega arith)
    (omega arith) (omega arith) (omega arith) in
    rw is refl

pub returns-in-117 : goal.returns-in-117
unfolding word_of
returns-in-117 c =
    let field = c.args.field.now in
    let is = seven field 117 110 99 114 111 115 115 (omega arith) (omega arith) (omega arith) (omega arith)
    (omega arith) (omega arith) (omega arith) (omega arith) in
    rw is refl
