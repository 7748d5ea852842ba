-- How long the lines of a journal are: one write can have each.
use Rattle.std.proofs.Common.{◌≡◌, ◌≤◌, ◌+◌, ◌*◌, ◌/◌, ◌%◌, ◌∷◌, [], ℕ, zero, suc, List, Bool, Some, None, true}
use Rattle.std.proofs.Common.{false, refl, arith, decimal, length, length-append}
use Rattle.std.specs.Prelude.{◌==◌, Option}
use Rattle.std.specs.Fmt.{digit_glyph, digits, digits_onto}
use Rattle.std.specs.List.{AllByRecursion}
use Rattle.auction_terms.specs.declared.Command.{Command}
use Rattle.auction_terms.specs.declared.Command.TheVariants.{Enter, Change, Delete, OrderStatus, Indicate, ReadTrade}
use Rattle.auction_terms.specs.declared.Command.TheVariants.{Uncross}
use Rattle.auction_terms.specs.declared.Limit.{Limit}
use Rattle.auction_terms.specs.declared.Limit.TheVariants.{Market, At}
use Rattle.auction_terms.specs.declared.Restriction.{Restriction}
use Rattle.auction_terms.specs.declared.Restriction.TheVariants.{Unrestricted, OpeningOnly, ClosingOnly}
use Rattle.auction_terms.specs.declared.Side.{Side}
use Rattle.auction_terms.specs.declared.Side.TheVariants.{Bid, Ask}
use Rattle.journal.specs.CallFields.{command_fields, enter_ending, number_field, side_field}
use Rattle.printed_lines.specs.CsvRecord.{limit_field}
use Rattle.journal.specs.PrintedJournal.{comma_fields}

abbrev IsShort : List ℕ → Type 0
IsShort text = length text ≤ 64

one-digit-more : (count n : ℕ) (behind : List ℕ) (is_last : Bool) → (n / 10 == 0) ≡ is_last
    → length (digits_onto count 10 false (n / 10) (digit_glyph false (n % 10) ∷ behind)) ≤ suc count + length behind
    → length (digits_onto (suc count) 10 false n behind) ≤ suc count + length behind
one-digit-more count n behind true is more = rw is (omega arith)
one-digit-more count n behind false is more = rw is more

digits-short : (count n : ℕ) (behind : List ℕ) → length (digits_onto count 10 false n behind) ≤ count + length behind
digits-short zero n behind = omega arith
digits-short (suc count) n behind =
    let more = digits-short count (n / 10) (digit_glyph false (n % 10) ∷ behind) in
    one-digit-more count n behind (n / 10 == 0) refl (omega (arith, more))

pub number-short : (n : ℕ) → length (decimal n) ≤ 64
unfolding digits
number-short n = omega (arith, digits-short 64 n [])

pub optional-short : (n : Option ℕ) → length (number_field n) ≤ 64
optional-short None = omega arith
optional-short (Some n) = number-short n

side-short : (s : Side) → IsShort (side_field s)
side-short Bid = omega arith
side-short Ask = omega arith

limit-short : (l : Limit) → IsShort (limit_field l)
limit-short Market = omega arith
limit-short (At tick) = number-short tick

fields-short : (xs : List (List ℕ)) → AllByRecursion IsShort xs → length (comma_fields xs) ≤ 65 * length xs
fields-short [] h = omega arith
fields-short (x ∷ xs) h =
    omega (arith, h.0, fields-short xs h.1, length-append x (comma_fields xs))

ending-short : (r : Restriction) (peak : Option ℕ) → AllByRecursion IsShort (enter_ending r peak)
ending-short Unrestricted None = tt
ending-short Unrestricted (Some peak) = (number-short peak, tt)
ending-short OpeningOnly peak = (optional-short peak, (omega arith, tt))
ending-short ClosingOnly peak = (optional-short peak, (omega arith, tt))

command-short : (c : Command) → AllByRecursion IsShort (command_fields c)
command-short (Enter s r l q p) =
    (omega arith, (side-short s, (number-short q, (limit-short l, ending-short r p))))
command-short (Change id l q) = (omega arith, (number-short id, (number-short q, (limit-short l, tt))))
command-short (Delete id) = (omega arith, (number-short id, tt))
command-short (OrderStatus id) = (omega arith, (number-short id, tt))
command-short Indicate = (omega arith, tt)
command-short (ReadTrade n) = (omega arith, (number-short n, tt))
command-short Uncross = (omega arith, tt)

ending-few : (r : Restriction) (peak : Option ℕ) → length (enter_ending r peak) ≤ 2
ending-few Unrestricted None = omega arith
ending-few Unrestricted (Some peak) = omega arith
ending-few OpeningOnly peak = omega arith
ending-few ClosingOnly peak = omega arith

command-few : (c : Command) → length (command_fields c) ≤ 6
command-few (Enter s r l q p) = omega (arith, ending-few r p)
command-few (Change id l q) = omega arith
command-few (Delete id) = omega arith
command-few (OrderStatus id) = omega arith
command-few Indicate = omega arith
command-few (ReadTrade n) = omega arith
command-few Uncross = omega arith

pub call-fields-short : (c : Command) → length (comma_fields (command_fields c)) ≤ 390
call-fields-short c =
    omega (arith, fields-short (command_fields c) (command-short c), command-few c)
