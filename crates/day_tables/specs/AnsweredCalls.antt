-- Calls with their replies.
use Rattle.std.specs.Prelude.{Bool, true, false}
use Rattle.auction_terms.specs.declared.Call.{Call}
use Rattle.auction_terms.specs.declared.Command.{Command}
use Rattle.auction_terms.specs.declared.Command.TheVariants as command
use Rattle.auction_terms.specs.declared.Entry.{Entry}
use Rattle.auction_terms.specs.declared.Reply.{Reply}

-- a call with its reply
abbrev pub entry_of : Call → Reply → Entry
entry_of call reply = record { member = call.member; command = call.command; reply = reply }

abbrev pub is_uncross_command : Command → Bool
is_uncross_command (command.Enter side restriction limit quantity peak) = false
is_uncross_command (command.Change id limit quantity) = false
is_uncross_command (command.Delete id) = false
is_uncross_command (command.OrderStatus id) = false
is_uncross_command command.Indicate = false
is_uncross_command (command.ReadTrade number) = false
is_uncross_command command.Uncross = true
