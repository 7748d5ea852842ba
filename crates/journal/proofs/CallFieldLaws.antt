-- A member's command is read back from its fields.
use Rattle.std.proofs.Common.{◌≡◌, ◌≤◌, ◌<◌, ◌^◌, ◌*◌, ◌/◌, ◌%◌, ◌-◌, ◌+◌, ◌++◌, ◌∷◌, ◌∙◌, [], ℕ, List, Bool, Option}
use Rattle.std.proofs.Common.{Some, None, true, false, refl, ap, arith, length, nat_le, nat_lt, rules, get_or, inl, inr}
use Rattle.std.specs.Prelude.{decimal, Ok}
use Rattle.std.specs.Char.{is_ascii_digit}
use Rattle.std.proofs.lemmas.Fmt.{decimal_by_steps, decimal_nonempty, length-decimal-le}
use Rattle.std.proofs.lemmas.Bool.{cases_Bool}
use Rattle.std.proofs.lemmas.Slice.Eq.{bytes_eq-Decides}
use Rattle.std.specs.Str.{bytes_eq}
use Rattle.std.specs.Prelude.{IfSome, codes, option_map}
use Rattle.std.specs.List.{list_all}
use Rattle.std.proofs.lemmas.List.Folds.{list_all-append}
use Rattle.csv.specs.Records.{field_at}
use Rattle.order_file.specs.Field.{digits_after, number_of, side_of, limit_of, peak_of, restriction_of}
use Rattle.order_file.specs.CommandWord.{word_of}
use Rattle.order_file.specs.Record.{count_within, field_as, peak_at, restriction_at, member_of, word_at, enter_of}
use Rattle.order_file.specs.Record.{change_of, lone_number, command_of}
use Rattle.order_file.specs.declared.record.Word.{Word}
use Rattle.order_file.specs.declared.record.Word.TheVariants as word
use Rattle.auction_terms.specs.declared.Side.{Side}
use Rattle.auction_terms.specs.declared.Side.TheVariants.{Bid, Ask}
use Rattle.auction_terms.specs.declared.Limit.{Limit}
use Rattle.auction_terms.specs.declared.Limit.TheVariants.{Market, At}
use Rattle.auction_terms.specs.declared.Restriction.{Restriction}
use Rattle.auction_terms.specs.declared.Restriction.TheVariants.{Unrestricted, OpeningOnly, ClosingOnly}
use Rattle.auction_terms.specs.declared.Command.{Command}
use Rattle.auction_terms.specs.declared.Command.TheVariants.{Enter, Change, Delete, OrderStatus, Indicate, ReadTrade}
use Rattle.auction_terms.specs.declared.Command.TheVariants.{Uncross}
use Rattle.journal.specs.EntryRecord.{start_of_entry}
use Rattle.journal.specs.CallFields.{FitsRecord, HasShortTick, command_fields, enter_ending, number_field}
use Rattle.printed_lines.specs.CsvRecord.{limit_field}
use Rattle.journal.specs.CallFields.{side_field}

digit-glyph : (k : ℕ) → k < 10 → (is_ascii_digit (48 + k) ≡ true) × ((48 + k) - 48 ≡ k)
digit-glyph k h = (search rules, omega arith)

-- one more digit
digits-push : (m v k : ℕ) (ds : List ℕ) → k < 10 → digits_after m ds ≡ Some v → digits_after m (ds ++ ((48 + k) ∷ []))
    ≡ Some (10 * v + k)
digits-push m v k [] h e = let same : m ≡ v = cc in rw ((digit-glyph k h).0, (digit-glyph k h).1, same) refl
digits-push m v k (d ∷ ds) h e = by_digit (is_ascii_digit d) refl e (digits-push (10 * m + (d - 48)) v k ds h)
  where
    by_digit : (b : Bool) → is_ascii_digit d ≡ b → digits_after m (d ∷ ds) ≡ Some v
        → (digits_after (10 * m + (d - 48)) ds ≡ Some v → digits_after (10 * m + (d - 48)) (ds ++ ((48 + k) ∷ []))
        ≡ Some (10 * v + k))
        → digits_after m ((d ∷ ds) ++ ((48 + k) ∷ [])) ≡ Some (10 * v + k)
    by_digit true t q more = rw t (more (rw t at q))
    by_digit false t q more = let bad : None ≡ Some v = rw t at q in cc bad

digits-decimal : (n : ℕ) → n < 2 ^ 64 → digits_after 0 (decimal n) ≡ Some n
digits-decimal n h = decimal_by_steps (λ m ds. digits_after 0 ds ≡ Some m) one more n h
  where
    one : (m : ℕ) → m < 10 → digits_after 0 ((48 + m) ∷ []) ≡ Some m
    one m lt = let is : 10 * 0 + m ≡ m = omega arith in digits-push 0 0 m [] lt refl ∙ ap Some is

    more : (m : ℕ) (ds : List ℕ) → 10 ≤ m → digits_after 0 ds ≡ Some (m / 10)
        → digits_after 0 (ds ++ ((48 + m % 10) ∷ [])) ≡ Some m
    more m ds le e =
        let parts : 10 * (m / 10) + m % 10 ≡ m = omega arith in
        digits-push 0 (m / 10) (m % 10) ds (omega arith) e ∙ ap Some parts

-- a number in decimal digits
pub decimal-number : (n : ℕ) → n < 2 ^ 32 → number_of (decimal n) ≡ Some n
unfolding number_of
decimal-number n h =
    let wide : n < 2 ^ 64 = omega arith in
    let some : nat_le 1 (length (decimal n)) ≡ true = search (rules, decimal_nonempty n wide) in
    let few : nat_le (length (decimal n)) 10 ≡ true =
    search (rules, length-decimal-le 10 n (omega arith) (omega arith) wide) in
    let small : nat_lt n (2 ^ 32) ≡ true = search rules in
    rw (some, few, digits-decimal n wide, small) refl

side-read : (side : Side) → side_of (side_field side) ≡ Some side
unfolding side_of
side-read Bid = refl
side-read Ask = refl

all-push : (p : ℕ → Bool) (xs : List ℕ) (x : ℕ) → list_all p xs ≡ true → p x ≡ true → list_all p (xs ++ (x ∷ [])) ≡ true
all-push p xs x h k = rw (list_all-append p xs (x ∷ []), h, k) refl

pub decimal-all_digits : (n : ℕ) → n < 2 ^ 64 → list_all is_ascii_digit (decimal n) ≡ true
decimal-all_digits n h = decimal_by_steps (λ m ds. list_all is_ascii_digit ds ≡ true) one more n h
  where
    one : (m : ℕ) → m < 10 → list_all is_ascii_digit ((48 + m) ∷ []) ≡ true
    one m lt = rw (digit-glyph m lt).0 refl

    more : (m : ℕ) (ds : List ℕ) → 10 ≤ m → list_all is_ascii_digit ds ≡ true
        → list_all is_ascii_digit (ds ++ ((48 + m % 10) ∷ [])) ≡ true
    more m ds le e = all-push is_ascii_digit ds (48 + m % 10) e (digit-glyph (m % 10) (omega arith)).0

pub digit-range : (d : ℕ) → is_ascii_digit d ≡ true → (48 ≤ d) × (d ≤ 57)
digit-range d h = (search rules, search rules)

digits-first : (ds : List ℕ) → list_all is_ascii_digit ds ≡ true → 0 < length ds → (48 ≤ get_or ds 0 0)
    × (get_or ds 0 0 ≤ 57)
digits-first [] e h = absurd (omega arith)
digits-first (d ∷ ds) e h = by_digit (is_ascii_digit d) refl e
  where
    by_digit : (b : Bool) → is_ascii_digit d ≡ b → list_all is_ascii_digit (d ∷ ds) ≡ true → (48 ≤ d) × (d ≤ 57)
    by_digit true t q = digit-range d t
    by_digit false t q = let bad : false ≡ true = rw t at q in cc bad

pub first-digit : (n : ℕ) → n < 2 ^ 64 → (48 ≤ get_or (decimal n) 0 0) × (get_or (decimal n) 0 0 ≤ 57)
first-digit n h = digits-first (decimal n) (decimal-all_digits n h) (decimal_nonempty n h)

-- digits are no word
pub not-word : (w : List ℕ) (ds : List ℕ) → (get_or ds 0 0 ≡ get_or w 0 0 → ⊥) → bytes_eq ds w ≡ false
not-word w ds h = elim (cases_Bool (bytes_eq ds w)) [
  | inl same ↦ let e : ds ≡ w = (bytes_eq-Decides ds w).0 same in absurd (h (ap (λ (t : List ℕ). get_or t 0 0) e))
  | inr other ↦ other
]

limit-read : (limit : Limit) → HasShortTick limit → limit_of (limit_field limit) ≡ Some limit
unfolding limit_of
limit-read Market h = refl
limit-read (At tick) h =
    let first = first-digit tick (omega arith) in
    let word : bytes_eq (decimal tick) (codes "market") ≡ false =
    not-word (codes "market") (decimal tick) (λ e. absurd (omega (arith, e, first.1))) in
    rw (word, decimal-number tick h) refl

some-peak : (ds : List ℕ) → 0 < length ds → peak_of ds ≡ option_map Some (number_of ds)
unfolding peak_of
some-peak [] h = absurd (omega arith)
some-peak (d ∷ ds) h = refl

pub peak-read : (peak : Option ℕ) → IfSome peak (λ p. p < 2 ^ 32) → peak_of (number_field peak) ≡ Some peak
unfolding peak_of
peak-read None h = refl
peak-read (Some n) h =
    some-peak (decimal n) (decimal_nonempty n (omega arith)) ∙ ap (option_map Some) (decimal-number n h)

enter-read : (a b : List ℕ) (side : Side) (restriction : Restriction) (limit : Limit) (quantity : ℕ) (peak : Option ℕ)
    → FitsRecord (Enter side restriction limit quantity peak)
    → enter_of (a ∷ b ∷ side_field side ∷ decimal quantity ∷ limit_field limit ∷ enter_ending restriction peak)
    ≡ Ok (Enter side restriction limit quantity peak)
unfolding enter_of count_within field_as peak_at restriction_at field_at restriction_of
enter-read a b side Unrestricted limit quantity None h =
    rw (side-read side, decimal-number quantity h.1, limit-read limit h.0) refl
enter-read a b side Unrestricted limit quantity (Some n) h =
    rw (side-read side, decimal-number quantity h.1, limit-read limit h.0, peak-read (Some n) h.2) refl
enter-read a b side OpeningOnly limit quantity peak h =
    rw (side-read side, decimal-number quantity h.1, limit-read limit h.0, peak-read peak h.2) refl
enter-read a b side ClosingOnly limit quantity peak h =
    rw (side-read side, decimal-number quantity h.1, limit-read limit h.0, peak-read peak h.2) refl

abbrev pub word_for : Command → Word
word_for (Enter side restriction limit quantity peak) = word.Enter
word_for (Change id limit quantity) = word.Change
word_for (Delete id) = word.Delete
word_for (OrderStatus id) = word.OrderStatus
word_for Indicate = word.Indicate
word_for (ReadTrade number) = word.ReadTrade
word_for Uncross = word.Uncross

-- the member and the command word are read back, whatever comes after
pub head-read : (members member : ℕ) (command : Command) (behind : List (List ℕ)) → members < 2 ^ 32 → member < members
    → start_of_entry members (decimal member ∷ (command_fields command ++ behind)) ≡ Ok (record {
      member = member;
      word =
          word_for command;
    })
unfolding start_of_entry member_of word_at word_of field_at
head-read members member (Enter side restriction limit quantity peak) behind small below =
    let lt : nat_lt member members ≡ true = search rules in rw (decimal-number member (omega arith), lt) refl
head-read members member (Change id limit quantity) behind small below =
    let lt : nat_lt member members ≡ true = search rules in rw (decimal-number member (omega arith), lt) refl
head-read members member (Delete id) behind small below =
    let lt : nat_lt member members ≡ true = search rules in rw (decimal-number member (omega arith), lt) refl
head-read members member (OrderStatus id) behind small below =
    let lt : nat_lt member members ≡ true = search rules in rw (decimal-number member (omega arith), lt) refl
head-read members member Indicate behind small below =
    let lt : nat_lt member members ≡ true = search rules in rw (decimal-number member (omega arith), lt) refl
head-read members member (ReadTrade number) behind small below =
    let lt : nat_lt member members ≡ true = search rules in rw (decimal-number member (omega arith), lt) refl
head-read members member Uncross behind small below =
    let lt : nat_lt member members ≡ true = search rules in rw (decimal-number member (omega arith), lt) refl

-- a command is read back from its fields, whatever comes before them
pub command-read : (first : List ℕ) (command : Command) → FitsRecord command
    → command_of (word_for command) (first ∷ command_fields command) ≡ Ok command
unfolding command_of change_of lone_number count_within field_as field_at
command-read first (Enter side restriction limit quantity peak) h =
    enter-read first (codes "enter") side restriction limit quantity peak h
command-read first (Change id limit quantity) h =
    rw (decimal-number id h.0, decimal-number quantity h.2, limit-read limit h.1) refl
command-read first (Delete id) h = rw (decimal-number id h) refl
command-read first (OrderStatus id) h = rw (decimal-number id h) refl
command-read first Indicate h = refl
command-read first (ReadTrade number) h = rw (decimal-number number h) refl
command-read first Uncross h = refl
