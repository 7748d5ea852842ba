-- Answers of `digit_count` (src/page.rt): what the prover left open; rt looks here.
use Rattle.std.proofs.Common.{◌≡◌, ◌≤◌, ◌<◌, ◌+◌, ◌/◌, ◌^◌, ℕ, length, decimal, ap, arith}
use Rattle.itoa.proofs.Decimal.{length_four, length_step_wide}
use Rattle.printed_lines.proofs.page.digit_count.Goals as goal

-- a number has five digits more than what it has of hundred thousands
five-more : (n : ℕ) → 100000 ≤ n → n < 2 ^ 64 → length (decimal n) ≡ length (decimal (n / 100000)) + 5
five-more n long fits =
    let same : n / 10000 / 10 ≡ n / 100000 = omega arith in
    let four = length_four n (omega arith) fits in
    let fifth = length_step_wide (n / 10000) (omega arith) (omega arith) in
    omega (arith, four, fifth, ap (λ k. length (decimal k)) same)

ten-more : (n : ℕ) → 10000000000 ≤ n → n < 2 ^ 64 → length (decimal n) ≡ length (decimal (n / 10000000000)) + 10
ten-more n long fits =
    let same : n / 100000 / 100000 ≡ n / 10000000000 = omega arith in
    let more = five-more n (omega arith) fits in
    let most = five-more (n / 100000) (omega arith) (omega arith) in
    omega (arith, more, most, ap (λ k. length (decimal k)) same)

pub returns-then-number-lt10000000000-clause-digits : goal.returns-then-number-lt10000000000-clause-digits
returns-then-number-lt10000000000-clause-digits c =
    let more = five-more c.args.number (omega (arith, c.if-number-lt100000.false)) (omega (arith, c.ranges.number)) in
    omega (arith, more, c.short_digit_count-then-number-lt10000000000.ensures.digits)

pub returns-then-number-lt1000000000000000-clause-digits : goal.returns-then-number-lt1000000000000000-clause-digits
returns-then-number-lt1000000000000000-clause-digits c =
    let n = c.args.number in
    let more = ten-more n (omega (arith, c.if-number-lt10000000000.false)) (omega (arith, c.ranges.number)) in
    omega (arith, more, c.short_digit_count-then-number-lt1000000000000000.ensures.digits)

pub returns-clause-digits : goal.returns-clause-digits
returns-clause-digits c =
    let n = c.args.number in
    let same : n / 10000000000 / 100000 ≡ n / 1000000000000000 = omega arith in
    let more = ten-more n (omega (arith, c.if-number-lt10000000000.false)) (omega (arith, c.ranges.number)) in
    let most = five-more (n / 10000000000) (omega (arith, c.if-number-lt1000000000000000.false))
    (omega (arith, c.ranges.number)) in
    omega (arith, more, most, ap (λ k. length (decimal k)) same, c.short_digit_count-2.ensures.digits)
