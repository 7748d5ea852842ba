-- Answers of `short_digit_count` (src/page.rt): what the prover left open; rt looks here.
use Rattle.std.proofs.Common.{◌/◌, arith}
use Rattle.std.proofs.lemmas.Bool.Decides.{nat_tests}
use Rattle.std.proofs.lemmas.Grind.{common_steps}
use Rattle.itoa.proofs.Decimal.{length_one, length_two, length_pair, length_four}
use Rattle.printed_lines.proofs.page.short_digit_count.Goals as goal

-- four digits are counted at once, and then two
pub returns-clause-digits : goal.returns-clause-digits
returns-clause-digits c =
    let n = c.args.number in
    grind (
      arith,
      nat_tests,
      common_steps,
      length_one n,
      length_two n,
      length_pair n,
      length_four n,
      length_one (n / 100),
      length_two (n / 100),
      length_one (n / 10000),
    )
