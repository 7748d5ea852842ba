-- The ladder has as many ticks as the bounds.
use Rattle.std.proofs.Common.{◌≡◌, List, length}
use Rattle.auction_terms.specs.declared.Call.{Call}
use Rattle.auction_terms.specs.declared.Config.{Config}
use Rattle.auction_terms.specs.Auxiliary.RunningAuction.{RunningAuction}
use Rattle.auction_terms.specs.Ladder.{ladder_of}
use Rattle.auction_terms.proofs.LadderLaws.{length-tick_values}
use Rattle.board_terms.specs.BoardViews.{ladder_after}
use Rattle.auction_c.specs.Calling.{ladder_now, ticks_of}

pub ticks_now : (a : RunningAuction) → length (ladder_now a).bids ≡ ticks_of a.config
unfolding ladder_of
ticks_now a = length-tick_values _ a.config.low (ticks_of a.config)

pub ticks_after : (c : Config) (calls : List Call) → length (ladder_after c calls).bids ≡ ticks_of c
unfolding ladder_of
ticks_after c calls = length-tick_values _ c.low (ticks_of c)
