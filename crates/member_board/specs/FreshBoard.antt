-- What a contract sees of a board whose day has not begun.
use Rattle.std.specs.Prelude.{ℕ}
use Rattle.logbook.specs.Pages.{Book}
use Rattle.auction_terms.specs.declared.Config.{Config}

pub record FreshBoard : Type 0 where
  pub config : Config
  pub members : ℕ
  pub ledger : ℕ
  pub story : Book

abbrev pub fresh_board : Config → ℕ → ℕ → Book → FreshBoard
fresh_board config members ledger story = record {
  config = config;
  members = members;
  ledger = ledger;
  story = story;
}
