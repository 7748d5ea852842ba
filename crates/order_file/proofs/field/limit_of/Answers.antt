-- Answers of `limit_of` (src/field.rt): what the prover left open; rt looks here.
use Rattle.std.proofs.Common.{refl, arith}
use Rattle.order_file.specs.Field.{limit_of}
use Rattle.order_file.proofs.WordLaws.{six}
use Rattle.order_file.proofs.field.limit_of.Goals as goal

pub returns-in-109 : goal.returns-in-109
unfolding limit_of
returns-in-109 c =
    let field = c.args.field.now in
    let is = six field 109 97 114 107 101 116 (omega arith) (omega arith) (omega arith) (omega arith) (omega arith)
    (omega arith) (omega arith) in
    rw is refl
