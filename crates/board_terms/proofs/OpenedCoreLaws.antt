-- The core of a board that was just opened.
use Rattle.std.proofs.Common.{◌≡◌, ◌≤◌, ℕ, List, [], replicate, arith}
use Rattle.std.proofs.lemmas.Grind.{common_steps}
use Rattle.auction_terms.specs.declared.Config.{Config}
use Rattle.auction_terms.specs.declared.Entry.{Entry}
use Rattle.auction_terms.specs.declared.Call.{Call}
use Rattle.auction_terms.specs.declared.limits.TheConstants.{MAX_CALLS}
use Rattle.auction_terms.specs.Auxiliary.RunningAuction.{RunningAuction, opened_auction}
use Rattle.board_terms.specs.CoreInvariant.{CoreInvariant}

pub opened_core_invariant : (c : Config) (n : ℕ) (a : RunningAuction) (h : List Entry) (front : List Call)
    (counted : List ℕ) (room : ℕ)
    → a ≡ opened_auction c → h ≡ [] → front ≡ [] → counted ≡ replicate n 0 → c.max_calls ≤ room
    → c.max_calls ≤ MAX_CALLS
    → CoreInvariant a.config n a h front counted room
opened_core_invariant c n a h front counted room is_a is_h is_f is_c has small = grind (arith, common_steps)
