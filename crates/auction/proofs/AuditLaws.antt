-- An audit, entry by entry.
use Rattle.std.proofs.Common.{◌≡◌, ◌≢◌, ℕ, ◌+◌, ◌<◌, List, [], ◌∷◌, ◌++◌, length, take, arith, nat_eq, false, true}
use Rattle.std.proofs.lemmas.Bool.Decides.{nat_tests}
use Rattle.std.proofs.lemmas.List.{map-append, length-map, length-take-le}
use Rattle.std.proofs.lemmas.Grind.{common_steps}
use Rattle.auction_terms.specs.declared.Config.{Config}
use Rattle.auction_terms.specs.declared.Entry.{Entry}
use Rattle.auction_terms.specs.Day.{call_of, calls_of, step, IsLegal}
use Rattle.auction_terms.specs.Auxiliary.RunningAuction.{RunningAuction, auction_after_call, auction_after}
use Rattle.auction_terms.proofs.RunLaws.{auction_after-push, replies_from-push, IsLegal-push}
use Rattle.auction.specs.Audits.{IsFirstBad}

-- the entries so far are legal, and the auction has had their commands
pub record IsAudited (config : Config) (entries : List Entry) (auction : RunningAuction) : Type 0 where
  pub state : auction ≡ auction_after config (calls_of entries)
  pub legal : IsLegal config entries

pub audited_more : (config : Config) (entries : List Entry) (entry : Entry) (old new : RunningAuction)
    → IsAudited config entries old → nat_eq old.calls old.config.max_calls ≡ false
    → new ≡ auction_after_call old (call_of entry) → entry.reply ≡ (step old.config old.state (call_of entry)).1
    → IsAudited config (entries ++ entry ∷ []) new
audited_more config entries entry old new is room next reply =
    grind (arith, common_steps, auction_after-push, IsLegal-push, nat_tests)

pub bad_reply : (config : Config) (entries : List Entry) (place : ℕ) (entry : Entry) (auction : RunningAuction)
    → place < length entries → take (place + 1) entries ≡ take place entries ++ entry ∷ []
    → IsAudited config (take place entries) auction
    → entry.reply ≢ (step auction.config auction.state (call_of entry)).1 → IsFirstBad config entries place
bad_reply config entries place entry auction within next is differs =
    grind (arith, common_steps, map-append, replies_from-push)

-- a full auction has no room for a further entry
pub full_at : (config : Config) (entries : List Entry) (place : ℕ) (auction : RunningAuction) → place < length entries
    → IsAudited config (take place entries) auction → nat_eq auction.calls auction.config.max_calls ≡ true
    → IsFirstBad config entries place
full_at config entries place auction within is full = search (arith, length-take-le, length-map, nat_tests)
