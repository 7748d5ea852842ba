-- Answers of `NumberText::set` (src/number_text.rt): what the prover left open; rt looks here.
use Rattle.std.proofs.Common.{arith}
use Rattle.std.proofs.lemmas.Fmt.{length-decimal-le}
use Rattle.printed_lines.proofs.NumberTextLaws.{digits-written}
use Rattle.printed_lines.proofs.number_text.NumberText.set.Goals as goal

pub write_digits-self-inside-requires : goal.write_digits-self-inside-requires
write_digits-self-inside-requires c =
    let number = c.args.number in
    let short = length-decimal-le 20 number (omega arith) (omega (arith, c.ranges.number))
    (omega (arith, c.ranges.number)) in
    (short, omega (arith, c.self.told))

pub invariant_of-self : goal.invariant_of-self
invariant_of-self c =
    let made = c.write_digits-self-inside in
    let digits = digits-written made.new.buf made.result _ _ made.ensures.start made.ensures.written in
    (omega (arith, c.ranges.number), (made.ensures.start, digits))
