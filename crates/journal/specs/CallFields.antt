-- A member's command as the fields of a record, in the shortest form.
use Rattle.std.specs.Prelude.{ℕ, ◌<◌, ◌^◌, List, [], ◌∷◌, Option, Some, None, codes, decimal, IfSome}
use Rattle.auction_terms.specs.declared.Side.{Side}
use Rattle.auction_terms.specs.declared.Side.TheVariants.{Bid, Ask}
use Rattle.auction_terms.specs.declared.Limit.{Limit}
use Rattle.auction_terms.specs.declared.Limit.TheVariants.{Market, At}
use Rattle.auction_terms.specs.declared.Restriction.{Restriction}
use Rattle.auction_terms.specs.declared.Restriction.TheVariants.{Unrestricted, OpeningOnly, ClosingOnly}
use Rattle.auction_terms.specs.declared.Call.{Call}
use Rattle.auction_terms.specs.declared.Command.{Command}
use Rattle.auction_terms.specs.declared.Command.TheVariants.{Enter, Change, Delete, OrderStatus, Indicate, ReadTrade}
use Rattle.auction_terms.specs.declared.Command.TheVariants.{Uncross}
use Rattle.printed_lines.specs.CsvRecord.{limit_field}

abbrev pub side_field : Side → List ℕ
side_field Bid = codes "bid"
side_field Ask = codes "ask"

-- a number, or an empty field where there is none
abbrev pub number_field : Option ℕ → List ℕ
number_field None = []
number_field (Some number) = decimal number

-- the fields that may be left out at the end
abbrev pub enter_ending : Restriction → Option ℕ → List (List ℕ)
enter_ending Unrestricted None = []
enter_ending Unrestricted (Some peak) = decimal peak ∷ []
enter_ending OpeningOnly peak = number_field peak ∷ codes "opening" ∷ []
enter_ending ClosingOnly peak = number_field peak ∷ codes "closing" ∷ []

-- the command word and what comes after it
abbrev pub command_fields : Command → List (List ℕ)
command_fields (Enter side restriction limit quantity peak) =
    codes "enter" ∷ side_field side ∷ decimal quantity ∷ limit_field limit ∷ enter_ending restriction peak
command_fields (Change id limit quantity) = codes "change" ∷ decimal id ∷ decimal quantity ∷ limit_field limit ∷ []
command_fields (Delete id) = codes "delete" ∷ decimal id ∷ []
command_fields (OrderStatus id) = codes "status" ∷ decimal id ∷ []
command_fields Indicate = codes "ask" ∷ []
command_fields (ReadTrade number) = codes "trade" ∷ decimal number ∷ []
command_fields Uncross = codes "uncross" ∷ []

-- the fields of a member's command
abbrev pub call_fields : Call → List (List ℕ)
call_fields call = decimal call.member ∷ command_fields call.command

-- ---- the commands that a record can hold: each number is at most 4294967295

abbrev pub FitsU32 : ℕ → Type 0
FitsU32 n = n < 2 ^ 32

abbrev pub HasShortTick : Limit → Type 0
HasShortTick Market = Unit {0}
HasShortTick (At tick) = FitsU32 tick

abbrev pub FitsRecord : Command → Type 0
FitsRecord (Enter side restriction limit quantity peak) = HasShortTick limit × FitsU32 quantity × IfSome peak FitsU32
FitsRecord (Change id limit quantity) = FitsU32 id × HasShortTick limit × FitsU32 quantity
FitsRecord (Delete id) = FitsU32 id
FitsRecord (OrderStatus id) = FitsU32 id
FitsRecord Indicate = Unit {0}
FitsRecord (ReadTrade number) = FitsU32 number
FitsRecord Uncross = Unit {0}
