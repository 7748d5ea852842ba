-- What the table of the current auction is printed from.
use Rattle.std.specs.Prelude.{◌≡◌, ℕ, Some}
use Rattle.auction_terms.specs.declared.Config.{Config}
use Rattle.auction_terms.specs.Day.{State, display}
use Rattle.auction_terms.specs.Ladder.{LadderView}
use Rattle.tick_ladder.specs.TickLadder.{IsLadderOf}
use Rattle.auction.specs.AuctionState.{current_orders, ladder_over}
use Rattle.day_tables.specs.declared.book.Heading.{Heading}
use Rattle.day_tables.specs.TableRows.{tick_shown}

-- the heading of the table of the current auction when this command comes
pub record IsHeadingIn (state : State) (command : ℕ) (heading : Heading) : Type 0 where
  pub number : heading.command ≡ command
  pub auction : state.auction ≡ Some heading.kind
  pub price : heading.price ≡ tick_shown (display state)

-- a heading and a ladder are those of the current auction
pub record IsShownIn (config : Config) (state : State) (heading : Heading) (ladder : LadderView) : Type 0 where
  pub told : IsHeadingIn state heading.command heading
  pub over : ladder ≡ ladder_over config (current_orders state)
  pub book : IsLadderOf ladder (current_orders state)
