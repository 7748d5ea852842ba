-- What a malformed field looks like.
use Rattle.std.specs.Prelude.{ℕ, ◌-◌, ◌==◌, ◌||◌, ◌&&◌, nat_le, nat_lt, Bool, false, List, [], ◌∷◌, Option}
use Rattle.std.specs.Prelude.{count_by, if◌then◌else◌, is_some, length, slice_get}
use Rattle.std.specs.Char.{is_ascii_digit}
use Rattle.std.specs.List.{list_any}
use Rattle.std.specs.Option.{option_map_or}
use Rattle.order_file.specs.CommandWord.{word_of}

abbrev pub has_byte : ℕ → List ℕ → Bool
has_byte wanted bytes = list_any (λ byte. byte == wanted) bytes

-- the byte order mark of UTF-16, or a NUL in the first two bytes
abbrev pub is_utf_16 : List ℕ → Bool
is_utf_16 [] = false
is_utf_16 (a ∷ []) = a == 0
is_utf_16 (a ∷ b ∷ rest) = (a == 255 && b == 254) || (a == 254 && b == 255) || (a == 0) || (b == 0)

-- `A` to `Z` or `a` to `z`
abbrev pub is_letter : ℕ → Bool
is_letter byte = (nat_le 65 byte && nat_le byte 90) || (nat_le 97 byte && nat_le byte 122)

abbrev pub has_letter_first : List ℕ → Bool
has_letter_first [] = false
has_letter_first (byte ∷ rest) = is_letter byte

-- a space or a tab
abbrev pub is_blank_byte : Option ℕ → Bool
is_blank_byte byte = option_map_or (λ b. (b == 32) || (b == 9)) byte false

-- it begins or ends with a space or a tab
abbrev pub has_blank_edge : List ℕ → Bool
has_blank_edge field = is_blank_byte (slice_get field 0) || is_blank_byte (slice_get field (length field - 1))

abbrev pub digits_in : List ℕ → ℕ
digits_in field = count_by is_ascii_digit field

abbrev pub points_in : List ℕ → ℕ
points_in field = count_by (λ byte. byte == 46) field

-- a digit, and nothing but digits
abbrev pub is_digits : List ℕ → Bool
is_digits field = nat_lt 0 (length field) && (digits_in field == length field)

-- a whole number of any size, with a minus before it or none
abbrev pub is_whole : List ℕ → Bool
is_whole [] = false
is_whole (byte ∷ bytes) = if byte == 45 then is_digits bytes else is_digits (byte ∷ bytes)

-- digits and one point, and nothing else
abbrev pub is_decimal : List ℕ → Bool
is_decimal field =
    nat_lt 0 (digits_in field) && (points_in field == 1) && (length field - digits_in field == 1)

abbrev pub is_command_word : List ℕ → Bool
is_command_word text = is_some (word_of text)
