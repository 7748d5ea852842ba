-- The record of a call with its reply.
use Rattle.std.specs.Prelude.{◌≡◌, ℕ, ◌-◌, List, [], ◌∷◌, ◌++◌, length, take, unwrap_or, Bool, true, ◌&&◌}
use Rattle.std.specs.Prelude.{nat_le, if◌then◌else◌, Result, Ok, Err}
use Rattle.std.specs.List.{list_all}
use Rattle.csv.specs.Records.{field_at}
use Rattle.auction_terms.specs.declared.Call.{Call}
use Rattle.auction_terms.specs.Results.{◌>>=◌}
use Rattle.order_file.specs.Record.{command_of, member_of, word_at}
use Rattle.order_file.specs.declared.fault.RecordFault.{RecordFault}
use Rattle.order_file.specs.declared.fault.RecordFault.TheVariants.{BadField}
use Rattle.journal.specs.declared.entry.RecordStart.{RecordStart}
use Rattle.journal.specs.declared.entry.TheConstants.{MAX_REPLY}
use Rattle.journal.specs.CallFields.{call_fields}

-- a call, and the recorded text of its reply, which is empty where none was recorded
pub record RecordedCall : Type 0 where
  pub call : Call
  pub text : List ℕ

abbrev pub call_part : RecordedCall → Call
call_part recording = recording.call

abbrev pub reply_part : RecordedCall → List ℕ
reply_part recording = recording.text

-- the fields of the call, and then the reply
unfoldable pub recorded_call_fields : RecordedCall → List (List ℕ)
recorded_call_fields recording = call_fields recording.call ++ recording.text ∷ []

-- ---- read

-- printable ASCII
abbrev pub is_printable : ℕ → Bool
is_printable b = nat_le 32 b && nat_le b 126

-- what may be recorded as a reply
unfoldable pub is_reply_text : List ℕ → Bool
is_reply_text text = nat_le (length text) MAX_REPLY && list_all is_printable text

abbrev pub IsReplyText : List ℕ → Type 0
IsReplyText text = is_reply_text text ≡ true

-- the reply is the last field
abbrev pub reply_of_fields : List (List ℕ) → List ℕ
reply_of_fields fields = unwrap_or (field_at fields (length fields - 1)) []

-- and the command's fields are those before it
abbrev pub fields_of_call : List (List ℕ) → List (List ℕ)
fields_of_call fields = take (length fields - 1) fields

unfoldable pub start_of_entry : ℕ → List (List ℕ) → Result RecordStart RecordFault
start_of_entry members fields = do
  member ← member_of members fields
  word ← word_at fields
  Ok (record { member = member; word = word })

-- The call of a member with a command word and these fields before the reply, which has this place, from 1 on; the
-- reply's form is looked at last.
unfoldable pub call_with : RecordStart → List (List ℕ) → Bool → ℕ → Result Call RecordFault
call_with head fields fine place = do
  command ← command_of head.word fields
  if fine then Ok (record { member = head.member; command = command }) else Err (BadField place)

-- a record as a call with its reply, or its first fault
unfoldable pub recorded_call_of : ℕ → List (List ℕ) → Result RecordedCall RecordFault
recorded_call_of members fields = do
  head ← start_of_entry members fields
  call ← call_with head (fields_of_call fields) (is_reply_text (reply_of_fields fields)) (length fields)
  Ok (record { call = call; text = reply_of_fields fields })
