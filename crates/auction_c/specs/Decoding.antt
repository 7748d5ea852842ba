-- What the structs that come from C mean.
use Rattle.std.specs.Prelude.{ℕ, ◌==◌, nat_lt, ◌&&◌, if◌then◌else◌, Option, Some, None, option_and_then, option_map}
use Rattle.auction_terms.specs.declared.Config.{Config}
use Rattle.auction_terms.specs.declared.Side.{Side}
use Rattle.auction_terms.specs.declared.Side.TheVariants.{Bid, Ask}
use Rattle.auction_terms.specs.declared.Restriction.{Restriction}
use Rattle.auction_terms.specs.declared.Restriction.TheVariants.{Unrestricted, OpeningOnly, ClosingOnly}
use Rattle.auction_terms.specs.declared.Limit.{Limit}
use Rattle.auction_terms.specs.declared.Limit.TheVariants.{Market, At}
use Rattle.auction_terms.specs.declared.Command.{Command}
use Rattle.auction_terms.specs.declared.Command.TheVariants.{Enter, Change, Delete, OrderStatus, Indicate, ReadTrade}
use Rattle.auction_terms.specs.declared.Command.TheVariants.{Uncross}
use Rattle.auction_c.specs.declared.decoding.TheConstants.{ALL_MEMBERS}
use Rattle.auction_c.specs.declared.structs.AuctionConfig.{AuctionConfig}
use Rattle.auction_c.specs.declared.structs.AuctionCommand.{AuctionCommand}

-- a value with its flag: 1 says that there is one, 0 that there is none, and then the value is 0
abbrev pub flagged_in : ℕ → ℕ → Option (Option ℕ)
flagged_in flag value =
    if flag == 1 then Some (Some value) else if (flag == 0) && (value == 0) then Some None else None

abbrev pub config_with : AuctionConfig → Option ℕ → Config
config_with c range = record {
  low = c.low;
  high = c.high;
  reference = c.reference;
  max_open = c.max_open;
  max_calls = c.max_calls;
  range = range;
}

-- the config in a struct, if there is one
abbrev pub config_in : AuctionConfig → Option Config
config_in c =
    option_and_then (λ range. option_map (λ reserve. config_with c range) (flagged_in c.has_reserve c.reserve))
    (flagged_in c.has_range c.range)

-- how many of the day's last calls are the operator's: what a config says, else the usual number
abbrev pub reserve_in : ℕ → AuctionConfig → ℕ
reserve_in usual c = if c.has_reserve == 1 then c.reserve else usual

abbrev pub side_in : ℕ → Option Side
side_in n = if n == 1 then Some Bid else if n == 2 then Some Ask else None

abbrev pub decoded_restriction : ℕ → Option Restriction
decoded_restriction n =
    if n == 0 then Some Unrestricted else if n == 1 then Some OpeningOnly else if n == 2 then Some ClosingOnly else None

abbrev pub decoded_limit : Option ℕ → Limit
decoded_limit None = Market
decoded_limit (Some tick) = At tick

abbrev pub limit_in : ℕ → ℕ → Option Limit
limit_in flag tick = option_map decoded_limit (flagged_in flag tick)

abbrev pub enter_in : AuctionCommand → Option Command
enter_in c =
    option_and_then (λ side.
    option_and_then (λ restriction.
    option_and_then (λ limit.
    option_and_then (λ peak. Some (Enter side restriction limit c.quantity peak))
    (flagged_in c.has_peak c.peak))
    (limit_in c.has_limit c.limit))
    (decoded_restriction c.restriction))
    (side_in c.side)

abbrev pub change_in : AuctionCommand → Option Command
change_in c = option_and_then (λ limit. Some (Change c.id limit c.quantity)) (limit_in c.has_limit c.limit)

-- the command in a struct, if there is one
abbrev pub command_in : AuctionCommand → Option Command
command_in c =
    if c.tag == 1 then enter_in c
    else if c.tag == 2 then change_in c
    else if c.tag == 3 then Some (Delete c.id)
    else if c.tag == 4 then Some (OrderStatus c.id)
    else if c.tag == 5 then Some Indicate
    else if c.tag == 6 then Some (ReadTrade c.id)
    else if c.tag == 7 then Some Uncross
    else None

-- whose orders a number means: a member's, or all
abbrev pub decoded_member : ℕ → Option (Option ℕ)
decoded_member member =
    if nat_lt member ALL_MEMBERS then Some (Some member) else if member == ALL_MEMBERS then Some None else None
