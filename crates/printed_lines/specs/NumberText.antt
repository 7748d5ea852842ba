-- The text of a number that was put on a page.
use Rattle.std.specs.Prelude.{◌≡◌, ◌+◌, ℕ, List, length, take, drop, decimal}
use Rattle.printed_lines.specs.declared.page.TheConstants.{LONGEST_NUMBER}

-- the bytes from `begin` on, up to the longest number, are the digits of the number
abbrev pub HasDigitsOf : ℕ → List ℕ → ℕ → Type 0
HasDigitsOf number bytes begin =
    (begin + length (decimal number) ≡ LONGEST_NUMBER) × (drop begin (take LONGEST_NUMBER bytes) ≡ decimal number)
