-- An auction as its callers see it: its config, the state of its day, and how many calls it has had.
use Rattle.std.specs.Prelude.{ℕ, ◌+◌, List, length}
use Rattle.auction_terms.specs.declared.Call.{Call}
use Rattle.auction_terms.specs.declared.Config.{Config}
use Rattle.auction_terms.specs.declared.Entry.{Entry}
use Rattle.auction_terms.specs.Day.{State, opening_state, step, state_after}

pub record RunningAuction : Type 0 where
  pub config : Config
  pub state : State
  pub calls : ℕ

abbrev pub opened_auction : Config → RunningAuction
opened_auction config = record { config = config; state = opening_state config; calls = 0 }

-- the entry of its next call
abbrev pub entry_in : RunningAuction → Call → Entry
entry_in auction call = record {
  member = call.member;
  command = call.command;
  reply = (step auction.config auction.state call).1;
}

-- after one more call
abbrev pub auction_after_call : RunningAuction → Call → RunningAuction
auction_after_call auction call = record {
  config = auction.config;
  state = (step auction.config auction.state call).0;
  calls = auction.calls + 1;
}

-- after these calls
abbrev pub auction_after : Config → List Call → RunningAuction
auction_after config calls = record {
  config = config;
  state = state_after config (opening_state config) calls;
  calls = length calls;
}
