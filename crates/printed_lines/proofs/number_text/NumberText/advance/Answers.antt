-- Answers of `NumberText::advance` (src/number_text.rt): what the prover left open; rt looks here.
use Rattle.std.proofs.Common.{arith, ◌≡◌, ◌+◌, ◌%◌, ◌<◌, ◌^◌, ◌≢◌, ℕ}
use Rattle.printed_lines.proofs.NumberTextLaws.{next-digits}
use Rattle.printed_lines.proofs.number_text.NumberText.advance.Goals as goal

-- the number after one that isn't the greatest, as its last digit isn't 0
follows : (n : ℕ) → n < 2 ^ 64 → ((n + 1) % (2 ^ 64) % 10 ≢ 0)
    → ((n + 1) % (2 ^ 64) ≡ n + 1) × (n + 1 < 2 ^ 64) × ((n + 1) % 10 ≢ 0)
follows n fits last =
    let below : n + 1 < 2 ^ 64 = omega (arith, fits, last) in
    (omega (arith, below), below, λ e. last (omega (arith, e, below)))

pub overflow_add-self : goal.overflow_add-self
overflow_add-self c =
    let n = c.self.inside.number in
    let (same, below, last) = follows n c.self.invariant.0 c.if-next-eq0.false in
    let digit = (next-digits n c.self.inside.begin c.self.inside.digits (omega (arith, c.self.told)) below last
    c.self.invariant.1).0 in
    record { fits = omega (arith, digit) }

pub invariant_of-self : goal.invariant_of-self
invariant_of-self c =
    let n = c.self.inside.number in
    let (same, below, last) = follows n c.self.invariant.0 c.if-next-eq0.false in
    let next = (next-digits n c.self.inside.begin c.self.inside.digits (omega (arith, c.self.told)) below last
    c.self.invariant.1).1 in
    rw same (below, next)
