-- A record that asks for a view, or its first fault: the word comes first, then the number of fields, then the field
-- after it.
use Rattle.std.specs.Prelude.{ℕ, ◌-◌, ◌==◌, Bool, false, List, Option, Some, None, option_and_then, ok_or, codes}
use Rattle.std.specs.Prelude.{nat_lt, if◌then◌else◌, Result, Ok, Err}
use Rattle.std.specs.Option.{option_map_or}
use Rattle.std.specs.Str.{bytes_eq}
use Rattle.csv.specs.Records.{field_at}
use Rattle.auction_terms.specs.Results.{◌>>=◌}
use Rattle.order_file.specs.Field.{number_of}
use Rattle.order_file.specs.Record.{count_within}
use Rattle.order_file.specs.declared.fault.RecordFault.{RecordFault}
use Rattle.order_file.specs.declared.fault.RecordFault.TheVariants.{BadCommand, BadField}
use Rattle.auction_views.specs.declared.view.Subject.{Subject}
use Rattle.auction_views.specs.declared.view.Subject.TheVariants as subject
use Rattle.auction_views.specs.declared.view.View.{View}
use Rattle.auction_views.specs.declared.view.View.TheVariants as view

-- the first field is `show`
unfoldable pub is_view : List (List ℕ) → Bool
is_view fields = option_map_or (λ field. bytes_eq field (codes "show")) (field_at fields 0) false

unfoldable pub subject_of : List ℕ → Option Subject
subject_of field =
    if bytes_eq field (codes "day") then Some subject.Day
    else if bytes_eq field (codes "ladder") then Some subject.Ladder
    else if bytes_eq field (codes "trades") then Some subject.Trades
    else if bytes_eq field (codes "orders") then Some subject.Orders
    else None

abbrev pub subject_in : Option (List ℕ) → Result Subject RecordFault
subject_in None = Ok subject.Display
subject_in (Some field) = ok_or (subject_of field) BadCommand

-- the second field, which may be left out
unfoldable pub subject_at : List (List ℕ) → Result Subject RecordFault
subject_at fields = subject_in (field_at fields 1)

abbrev pub before_number : ℕ → Option ℕ
before_number number = if number == 0 then None else Some (number - 1)

-- how many trades come before the one with this number, from 1
unfoldable pub trades_before : List ℕ → Option ℕ
trades_before field = option_and_then before_number (number_of field)

unfoldable pub trades_at : List (List ℕ) → Result ℕ RecordFault
trades_at fields = ok_or (option_and_then trades_before (field_at fields 2)) (BadField 3)

abbrev pub below : ℕ → ℕ → Option ℕ
below members member = if nat_lt member members then Some member else None

-- a member is a number below the count of members
unfoldable pub asked_member : ℕ → List ℕ → Option ℕ
asked_member members field = option_and_then (below members) (number_of field)

abbrev pub named_member : ℕ → Option (List ℕ) → Result (Option ℕ) RecordFault
named_member members None = Ok None
named_member members (Some field) =
    option_map_or (λ member. Ok (Some member)) (asked_member members field) (Err (BadField 3))

-- the third field, which may be left out
unfoldable pub asked_member_at : ℕ → List (List ℕ) → Result (Option ℕ) RecordFault
asked_member_at members fields = named_member members (field_at fields 2)

unfoldable pub view_about : ℕ → Subject → List (List ℕ) → Result View RecordFault
view_about members subject.Display fields = Ok view.Display
view_about members subject.Day fields = count_within 2 2 fields >>= λ _. Ok view.Day
view_about members subject.Ladder fields = count_within 2 2 fields >>= λ _. Ok view.Ladder
view_about members subject.Trades fields = do
  _ ← count_within 3 3 fields
  before ← trades_at fields
  Ok (view.Trades before)
view_about members subject.Orders fields = do
  _ ← count_within 2 3 fields
  member ← asked_member_at members fields
  Ok (view.Orders member)

unfoldable pub view_of : ℕ → List (List ℕ) → Result View RecordFault
view_of members fields = do
  subject ← subject_at fields
  view_about members subject fields
