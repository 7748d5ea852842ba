-- Each call that an order file says is one that a record can hold.
use Rattle.std.proofs.Common.{◌≡◌, ◌<◌, ◌^◌, ◌∷◌, [], ℕ, List, Bool, Option, Some, None, Result, Ok, Err, true, false}
use Rattle.std.proofs.Common.{refl, subst, length, nat_le, nat_lt, rules}
use Rattle.std.specs.Prelude.{IfSome, codes, option_map, option_and_then, if◌then◌else◌, ok_or, ◌&&◌}
use Rattle.std.specs.Str.{bytes_eq}
use Rattle.csv.specs.Records.{field_at}
use Rattle.order_file.specs.Field.{digits_after, if_small, number_of, side_of, limit_of, peak_of}
use Rattle.order_file.specs.Record.{count_within, field_as, peak_in, peak_at, restriction_at, member_of, word_at}
use Rattle.order_file.specs.Record.{enter_of, change_of, lone_number, command_of, call_of_record}
use Rattle.auction_terms.specs.Results.{◌>>=◌}
use Rattle.auction_terms.specs.declared.Call.{Call}
use Rattle.order_file.specs.declared.fault.RecordFault.TheVariants.{BadField}
use Rattle.journal.specs.declared.entry.RecordStart.{RecordStart}
use Rattle.journal.specs.EntryRecord.{RecordedCall, call_with, fields_of_call, start_of_entry, is_reply_text}
use Rattle.journal.specs.EntryRecord.{reply_of_fields}
use Rattle.journal.specs.EntryRecord.{recorded_call_of}
use Rattle.order_file.specs.declared.fault.RecordFault.{RecordFault}
use Rattle.order_file.specs.declared.record.Word.{Word}
use Rattle.order_file.specs.declared.record.Word.TheVariants as word
use Rattle.auction_terms.specs.declared.Side.{Side}
use Rattle.auction_terms.specs.declared.Restriction.{Restriction}
use Rattle.auction_terms.specs.declared.Limit.{Limit}
use Rattle.auction_terms.specs.declared.Limit.TheVariants.{Market, At}
use Rattle.auction_terms.specs.declared.Command.{Command}
use Rattle.auction_terms.specs.declared.Command.TheVariants.{Enter, Change, Delete, OrderStatus, Indicate, ReadTrade}
use Rattle.auction_terms.specs.declared.Command.TheVariants.{Uncross}
use Rattle.journal.specs.CallFields.{FitsRecord, HasShortTick, FitsU32}

small : (n m : ℕ) → if_small n ≡ Some m → FitsU32 m
small n m h = by_less (nat_lt n (2 ^ 32)) refl h
  where
    by_less : (b : Bool) → nat_lt n (2 ^ 32) ≡ b → if_small n ≡ Some m → FitsU32 m
    by_less true t q = let same : Some n ≡ Some m = rw t at q in let is : n ≡ m = cc in let lt : n < 2 ^ 32 =
        search rules in rw (← is) lt
    by_less false t q = let bad : None ≡ Some m = rw t at q in absurd (cc bad)

then-small : (o : Option ℕ) (m : ℕ) → option_and_then if_small o ≡ Some m → FitsU32 m
then-small None m h = absurd (cc h)
then-small (Some n) m h = small n m h

number-short : (field : List ℕ) (m : ℕ) → number_of field ≡ Some m → FitsU32 m
unfolding number_of
number-short field m h = by_at_most (nat_le 1 (length field) && nat_le (length field) 10) refl h
  where
    by_at_most : (b : Bool) → (nat_le 1 (length field) && nat_le (length field) 10) ≡ b
        → number_of field ≡ Some m → FitsU32 m
    by_at_most true t q = then-small (digits_after 0 field) m (rw t at q)
    by_at_most false t q = let bad : None ≡ Some m = rw t at q in absurd (cc bad)

-- what holds of each that a field can be read as
field-holds : {X : Type 0} (P : X → Type 0) (read : List ℕ → Option X) (place : ℕ) (fields : List (List ℕ)) (x : X)
    → ((field : List ℕ) (y : X) → read field ≡ Some y → P y) → field_as read place fields ≡ Ok x → P x
unfolding field_as
field-holds {X} P read place fields x h e = by_field (field_at fields place) refl e
  where
    some : (o : Option X) (fault : RecordFault) → ((y : X) → o ≡ Some y → P y) → ok_or o fault ≡ Ok x → P x
    some None fault k q = absurd (cc q)
    some (Some y) fault k q = let is : y ≡ x = cc in subst P is (k y refl)

    by_field : (o : Option (List ℕ)) → field_at fields place ≡ o → field_as read place fields ≡ Ok x → P x
    by_field None t q = absurd (cc (rw t at q))
    by_field (Some field) t q = some (read field) _ (h field) (rw t at q)

limit-short : (field : List ℕ) (limit : Limit) → limit_of field ≡ Some limit → HasShortTick limit
unfolding limit_of
limit-short field limit h = by_word (bytes_eq field (codes "market")) refl h
  where
    by_option : (o : Option ℕ) → ((n : ℕ) → o ≡ Some n → FitsU32 n) → option_map At o ≡ Some limit → HasShortTick limit
    by_option None k q = absurd (cc q)
    by_option (Some n) k q = let is : At n ≡ limit = cc in subst HasShortTick is (k n refl)

    by_word : (b : Bool) → bytes_eq field (codes "market") ≡ b → limit_of field ≡ Some limit → HasShortTick limit
    by_word true t q = let same : Some Market ≡ Some limit = rw t at q in let is : Market ≡ limit =
        cc in subst HasShortTick is tt
    by_word false t q = by_option (number_of field) (number-short field) (rw t at q)

peak-short : (field : List ℕ) (peak : Option ℕ) → peak_of field ≡ Some peak → IfSome peak FitsU32
unfolding peak_of
peak-short [] peak h = let is : None ≡ peak = cc in subst (λ (p : Option ℕ). IfSome p FitsU32) is tt
peak-short (d ∷ ds) peak h = by_option (number_of (d ∷ ds)) (number-short (d ∷ ds)) h
  where
    by_option : (o : Option ℕ) → ((n : ℕ) → o ≡ Some n → FitsU32 n) → option_map Some o ≡ Some peak
        → IfSome peak FitsU32
    by_option None k q = absurd (cc q)
    by_option (Some n) k q = let is : Some n ≡ peak = cc in subst (λ (p : Option ℕ). IfSome p FitsU32) is (k n refl)

peak-at-short : (place : ℕ) (fields : List (List ℕ)) (peak : Option ℕ) → peak_at place fields ≡ Ok peak
    → IfSome peak FitsU32
unfolding peak_at
peak-at-short place fields peak h = by_option (field_at fields place) h
  where
    some : (o : Option (Option ℕ)) (fault : RecordFault) → ((p : Option ℕ) → o ≡ Some p → IfSome p FitsU32)
        → ok_or o fault ≡ Ok peak → IfSome peak FitsU32
    some None fault k q = absurd (cc q)
    some (Some p) fault k q = let is : p ≡ peak = cc in subst (λ (p : Option ℕ). IfSome p FitsU32) is (k p refl)

    by_option : (o : Option (List ℕ)) → peak_in place o ≡ Ok peak → IfSome peak FitsU32
    by_option None q = let is : None ≡ peak = cc in subst (λ (p : Option ℕ). IfSome p FitsU32) is tt
    by_option (Some field) q = some (peak_of field) _ (peak-short field) q

-- a command that is made of parts: each part was read
enter-parts : (r1 : Result (Unit {0}) RecordFault) (r2 : Result Side RecordFault) (r3 : Result ℕ RecordFault)
    (r4 : Result Limit RecordFault) (r5 : Result (Option ℕ) RecordFault) (r6 : Result Restriction RecordFault)
    (command : Command)
    → (r1 >>= λ u. r2 >>= λ side. r3 >>= λ quantity. r4 >>= λ limit. r5 >>= λ peak. r6 >>= λ restriction. Ok
    (Enter side restriction limit quantity peak)) ≡ Ok command
    → ((n : ℕ) → r3 ≡ Ok n → FitsU32 n) → ((l : Limit) → r4 ≡ Ok l → HasShortTick l)
    → ((p : Option ℕ) → r5 ≡ Ok p → IfSome p FitsU32) → FitsRecord command
enter-parts (Ok u) (Ok side) (Ok n) (Ok l) (Ok p) (Ok restriction) command h kn kl kp =
    let is : Enter side restriction l n p ≡ command = cc in subst FitsRecord is (kl l refl, kn n refl, kp p refl)
enter-parts (Err e) r2 r3 r4 r5 r6 command h kn kl kp = absurd (cc h)
enter-parts (Ok u) (Err e) r3 r4 r5 r6 command h kn kl kp = absurd (cc h)
enter-parts (Ok u) (Ok side) (Err e) r4 r5 r6 command h kn kl kp = absurd (cc h)
enter-parts (Ok u) (Ok side) (Ok n) (Err e) r5 r6 command h kn kl kp = absurd (cc h)
enter-parts (Ok u) (Ok side) (Ok n) (Ok l) (Err e) r6 command h kn kl kp = absurd (cc h)
enter-parts (Ok u) (Ok side) (Ok n) (Ok l) (Ok p) (Err e) command h kn kl kp = absurd (cc h)

enter-fits : (fields : List (List ℕ)) (command : Command) → enter_of fields ≡ Ok command → FitsRecord command
unfolding enter_of
enter-fits fields command h =
    enter-parts (count_within 5 7 fields) (field_as side_of 2 fields) (field_as number_of 3 fields)
    (field_as limit_of 4 fields) (peak_at 5 fields) (restriction_at 6 fields) command h
    (λ n e. field-holds FitsU32 number_of 3 fields n number-short e)
    (λ l e. field-holds HasShortTick limit_of 4 fields l limit-short e) (λ p e. peak-at-short 5 fields p e)

change-parts : (r1 : Result (Unit {0}) RecordFault) (r2 r3 : Result ℕ RecordFault) (r4 : Result Limit RecordFault)
    (command : Command)
    → (r1 >>= λ u. r2 >>= λ id. r3 >>= λ quantity. r4 >>= λ limit. Ok (Change id limit quantity)) ≡ Ok command
    → ((n : ℕ) → r2 ≡ Ok n → FitsU32 n) → ((n : ℕ) → r3 ≡ Ok n → FitsU32 n) → ((l : Limit) → r4 ≡ Ok l → HasShortTick l)
    → FitsRecord command
change-parts (Ok u) (Ok id) (Ok n) (Ok l) command h ki kn kl = let is : Change id l n ≡ command =
    cc in subst FitsRecord is (ki id refl, kl l refl, kn n refl)
change-parts (Err e) r2 r3 r4 command h ki kn kl = absurd (cc h)
change-parts (Ok u) (Err e) r3 r4 command h ki kn kl = absurd (cc h)
change-parts (Ok u) (Ok id) (Err e) r4 command h ki kn kl = absurd (cc h)
change-parts (Ok u) (Ok id) (Ok n) (Err e) command h ki kn kl = absurd (cc h)

change-fits : (fields : List (List ℕ)) (command : Command) → change_of fields ≡ Ok command → FitsRecord command
unfolding change_of
change-fits fields command h =
    change-parts (count_within 5 5 fields) (field_as number_of 2 fields) (field_as number_of 3 fields)
    (field_as limit_of 4 fields) command h
    (λ n e. field-holds FitsU32 number_of 2 fields n number-short e)
    (λ n e. field-holds FitsU32 number_of 3 fields n number-short e)
    (λ l e. field-holds HasShortTick limit_of 4 fields l limit-short e)

after-count : {X : Type 0} (r : Result (Unit {0}) RecordFault) (s : Result X RecordFault) (x : X)
    → (r >>= λ u. s) ≡ Ok x → s ≡ Ok x
after-count (Ok u) s x h = h
after-count (Err e) s x h = absurd (cc h)

lone-short : (fields : List (List ℕ)) (n : ℕ) → lone_number fields ≡ Ok n → FitsU32 n
unfolding lone_number
lone-short fields n h =
    field-holds FitsU32 number_of 2 fields n number-short
    (after-count (count_within 3 3 fields) (field_as number_of 2 fields) n h)

lone-fits : (make : ℕ → Command) (r : Result ℕ RecordFault) (command : Command)
    → ((n : ℕ) → r ≡ Ok n → FitsRecord (make n)) → (r >>= λ n. Ok (make n)) ≡ Ok command → FitsRecord command
lone-fits make (Ok n) command k h = let is : make n ≡ command = cc in subst FitsRecord is (k n refl)
lone-fits make (Err e) command k h = absurd (cc h)

command-fits : (w : Word) (fields : List (List ℕ)) (command : Command) → command_of w fields ≡ Ok command
    → FitsRecord command
unfolding command_of
command-fits word.Enter fields command h = enter-fits fields command h
command-fits word.Change fields command h = change-fits fields command h
command-fits word.Delete fields command h =
    lone-fits Delete (lone_number fields) command (λ n e. lone-short fields n e) h
command-fits word.OrderStatus fields command h =
    lone-fits OrderStatus (lone_number fields) command (λ n e. lone-short fields n e) h
command-fits word.ReadTrade fields command h =
    lone-fits ReadTrade (lone_number fields) command (λ n e. lone-short fields n e) h
command-fits word.Indicate fields command h =
    let done : Ok Indicate ≡ Ok command = after-count (count_within 2 2 fields) (Ok Indicate) command h in
    let is : Indicate ≡ command = cc in subst FitsRecord is tt
command-fits word.Uncross fields command h =
    let done : Ok Uncross ≡ Ok command = after-count (count_within 2 2 fields) (Ok Uncross) command h in
    let is : Uncross ≡ command = cc in subst FitsRecord is tt

call-parts : (r1 : Result ℕ RecordFault) (r2 : Result Word RecordFault) (g : Word → Result Command RecordFault)
    (call : Call)
    → ((w : Word) (c : Command) → g w ≡ Ok c → FitsRecord c)
    → (r1 >>= λ member. r2 >>= λ w. g w >>= λ command. Ok (record { member = member; command = command })) ≡ Ok call
    → FitsRecord call.command
call-parts (Ok member) (Ok w) g call k h = last (g w) (k w) h
  where
    last : (r : Result Command RecordFault) → ((c : Command) → r ≡ Ok c → FitsRecord c)
        → (r >>= λ command. Ok (record { member = member; command = command })) ≡ Ok call → FitsRecord call.command
    last (Ok c) j q = let is : record { member = member; command = c } ≡ call =
        cc in subst (λ (p : Call). FitsRecord p.command) is (j c refl)
    last (Err e) j q = absurd (cc q)
call-parts (Err e) r2 g call k h = absurd (cc h)
call-parts (Ok member) (Err e) g call k h = absurd (cc h)

-- a call that a record says is one that a record can hold
pub call-fits : (members : ℕ) (fields : List (List ℕ)) (call : Call) → call_of_record members fields ≡ Ok call
    → FitsRecord call.command
unfolding call_of_record
call-fits members fields call h =
    call-parts (member_of members fields) (word_at fields) (λ w. command_of w fields) call
    (λ w c e. command-fits w fields c e) h

with-parts : (member place : ℕ) (r : Result Command RecordFault) (fine : Bool) (call : Call)
    → ((c : Command) → r ≡ Ok c → FitsRecord c)
    → (r >>= λ command. if fine then Ok (record { member = member; command = command }) else Err (BadField place))
    ≡ Ok call → FitsRecord call.command
with-parts member place (Ok c) true call k h = let is : record { member = member; command = c } ≡ call =
    cc in subst (λ (p : Call). FitsRecord p.command) is (k c refl)
with-parts member place (Ok c) false call k h = absurd (cc h)
with-parts member place (Err e) fine call k h = absurd (cc h)

with-fits : (head : RecordStart) (fields : List (List ℕ)) (fine : Bool) (place : ℕ) (call : Call)
    → call_with head fields fine place ≡ Ok call → FitsRecord call.command
unfolding call_with
with-fits head fields fine place call h =
    with-parts head.member place (command_of head.word fields) fine call (λ c e. command-fits head.word fields c e) h

recording-parts : (r : Result RecordStart RecordFault) (g : RecordStart → Result Call RecordFault) (text : List ℕ)
    (recording : RecordedCall)
    → ((head : RecordStart) (c : Call) → g head ≡ Ok c → FitsRecord c.command)
    → (r >>= λ head. g head >>= λ call. Ok (record { call = call; text = text })) ≡ Ok recording
    → FitsRecord recording.call.command
recording-parts (Ok head) g text recording k h = last (g head) (k head) h
  where
    last : (r : Result Call RecordFault) → ((c : Call) → r ≡ Ok c → FitsRecord c.command)
        → (r >>= λ call. Ok (record { call = call; text = text })) ≡ Ok recording → FitsRecord recording.call.command
    last (Ok c) j q = let is : record { call = c; text = text } ≡ recording =
        cc in subst (λ (p : RecordedCall). FitsRecord p.call.command) is (j c refl)
    last (Err e) j q = absurd (cc q)
recording-parts (Err e) g text recording k h = absurd (cc h)

-- and so is one that a record of a journal says
pub recording-fits : (members : ℕ) (fields : List (List ℕ)) (recording : RecordedCall)
    → recorded_call_of members fields ≡ Ok recording → FitsRecord recording.call.command
unfolding recorded_call_of
recording-fits members fields recording h =
    recording-parts (start_of_entry members fields)
    (λ head. call_with head (fields_of_call fields) (is_reply_text (reply_of_fields fields)) (length fields))
    (reply_of_fields fields) recording (λ head c e. with-fits head _ _ _ c e) h
