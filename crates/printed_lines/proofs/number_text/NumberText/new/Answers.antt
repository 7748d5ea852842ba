-- Answers of `NumberText::new` (src/number_text.rt): what the prover left open; rt looks here.
use Rattle.std.proofs.Common.{◌+◌, length, ap, sym, arith}
use Rattle.std.proofs.lemmas.Fmt.{decimal_digit}
use Rattle.printed_lines.proofs.number_text.NumberText.new.Goals as goal

pub invariant_of-result : goal.invariant_of-result
invariant_of-result c =
    let one = decimal_digit 1 (omega arith) in
    (omega arith, (ap (λ digits. 19 + length digits) one, sym one))
