-- A record as a call, or its first fault: the member comes first, then the command word, then the
-- number of fields, then the fields from left to right.
use Rattle.std.specs.Prelude.{ℕ, ◌+◌, List, length, Option, Some, None, option_and_then, ok_or, nat_lt, nat_le}
use Rattle.std.specs.Prelude.{◌&&◌, if◌then◌else◌, Result, Ok, Err}
use Rattle.csv.specs.Records.{field_at}
use Rattle.order_file.specs.FileFault.{in_record}
use Rattle.order_file.specs.Field.{number_of, side_of, limit_of, peak_of, restriction_of}
use Rattle.order_file.specs.CommandWord.{word_of}
use Rattle.order_file.specs.declared.fault.FileFault.{FileFault}
use Rattle.order_file.specs.declared.fault.RecordFault.{RecordFault}
use Rattle.order_file.specs.declared.fault.RecordFault.TheVariants.{BadMember, BadCommand, BadCount, BadField}
use Rattle.order_file.specs.declared.record.Word.{Word}
use Rattle.order_file.specs.declared.record.Word.TheVariants as word
use Rattle.auction_terms.specs.declared.Call.{Call}
use Rattle.auction_terms.specs.declared.Command.{Command}
use Rattle.auction_terms.specs.declared.Restriction.{Restriction}
use Rattle.auction_terms.specs.declared.Restriction.TheVariants.{Unrestricted}
use Rattle.auction_terms.specs.declared.Command.TheVariants as command
use Rattle.auction_terms.specs.Results.{◌>>=◌}

-- the record has from `least` to `most` fields
unfoldable pub count_within : ℕ → ℕ → List (List ℕ) → Result (Unit {0}) RecordFault
count_within least most fields =
    if nat_le least (length fields) && nat_le (length fields) most then Ok tt else Err BadCount

-- A field as `read` reads it. Places count from 0, and the fields of a fault from 1.
unfoldable pub field_as : {X : Type 0} → (List ℕ → Option X) → ℕ → List (List ℕ) → Result X RecordFault
field_as read place fields = ok_or (option_and_then read (field_at fields place)) (BadField (place + 1))

abbrev pub peak_in : ℕ → Option (List ℕ) → Result (Option ℕ) RecordFault
peak_in place None = Ok None
peak_in place (Some field) = ok_or (peak_of field) (BadField (place + 1))

-- the peak, which may be left out
unfoldable pub peak_at : ℕ → List (List ℕ) → Result (Option ℕ) RecordFault
peak_at place fields = peak_in place (field_at fields place)

abbrev pub restriction_in : ℕ → Option (List ℕ) → Result Restriction RecordFault
restriction_in place None = Ok Unrestricted
restriction_in place (Some field) = ok_or (restriction_of field) (BadField (place + 1))

-- the auctions that the order is for, which may be left out
unfoldable pub restriction_at : ℕ → List (List ℕ) → Result Restriction RecordFault
restriction_at place fields = restriction_in place (field_at fields place)

-- a member is a number below the count of members
unfoldable pub member_of : ℕ → List (List ℕ) → Result ℕ RecordFault
member_of members fields = do
  member ← ok_or (option_and_then number_of (field_at fields 0)) BadMember
  if nat_lt member members then Ok member else Err BadMember

unfoldable pub word_at : List (List ℕ) → Result Word RecordFault
word_at fields = ok_or (option_and_then word_of (field_at fields 1)) BadCommand

unfoldable pub enter_of : List (List ℕ) → Result Command RecordFault
enter_of fields = do
  _ ← count_within 5 7 fields
  side ← field_as side_of 2 fields
  quantity ← field_as number_of 3 fields
  limit ← field_as limit_of 4 fields
  peak ← peak_at 5 fields
  restriction ← restriction_at 6 fields
  Ok (command.Enter side restriction limit quantity peak)

unfoldable pub change_of : List (List ℕ) → Result Command RecordFault
change_of fields = do
  _ ← count_within 5 5 fields
  id ← field_as number_of 2 fields
  quantity ← field_as number_of 3 fields
  limit ← field_as limit_of 4 fields
  Ok (command.Change id limit quantity)

-- the number that comes alone after the command word
unfoldable pub lone_number : List (List ℕ) → Result ℕ RecordFault
lone_number fields = count_within 3 3 fields >>= λ _. field_as number_of 2 fields

-- what comes after a command word
unfoldable pub command_of : Word → List (List ℕ) → Result Command RecordFault
command_of word.Enter fields = enter_of fields
command_of word.Change fields = change_of fields
command_of word.Delete fields = lone_number fields >>= λ id. Ok (command.Delete id)
command_of word.OrderStatus fields = lone_number fields >>= λ id. Ok (command.OrderStatus id)
command_of word.ReadTrade fields = lone_number fields >>= λ number. Ok (command.ReadTrade number)
command_of word.Indicate fields = count_within 2 2 fields >>= λ _. Ok command.Indicate
command_of word.Uncross fields = count_within 2 2 fields >>= λ _. Ok command.Uncross

unfoldable pub call_of_record : ℕ → List (List ℕ) → Result Call RecordFault
call_of_record members fields = do
  member ← member_of members fields
  word ← word_at fields
  command ← command_of word fields
  Ok (record { member = member; command = command })

abbrev pub with_record_number : {X : Type 0} → ℕ → Result X RecordFault → Result X FileFault
with_record_number number (Ok x) = Ok x
with_record_number number (Err fault) = Err (in_record number fault)

-- the same, with the number of the record in its fault
unfoldable pub numbered_call : ℕ → ℕ → List (List ℕ) → Result Call FileFault
numbered_call members number fields = with_record_number number (call_of_record members fields)
