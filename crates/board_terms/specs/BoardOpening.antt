-- Which boards can't be opened, and the members of one that can.
use Rattle.std.specs.Prelude.{ℕ, ◌≤◌, zero, suc, List, [], ◌∷◌, ◌++◌, Bool, ◌||◌, ◌==◌, nat_lt}
use Rattle.std.specs.Prelude.{if◌then◌else◌, Option, Some, None}
use Rattle.auction_terms.specs.declared.limits.TheConstants.{MAX_CALLS, MAX_MEMBERS}
use Rattle.auction_terms.specs.declared.Config.{Config}
use Rattle.auction.specs.declared.OpenFault.{OpenFault}
use Rattle.auction.specs.declared.OpenFault.TheVariants.{BadBounds, BadReference, BadCapacity}
use Rattle.auction.specs.ConfigFault.{has_bad_bounds, has_bad_reference, has_bad_capacity}
use Rattle.board_terms.specs.MemberView.{MemberView, newcomer}

-- a board has 1 to MAX_MEMBERS members
abbrev pub has_bad_members : ℕ → Bool
has_bad_members members = (members == 0) || nat_lt MAX_MEMBERS members

-- the first fault of a board's config and of its number of members
unfoldable pub board_fault : Config → ℕ → Option OpenFault
board_fault config members =
    if has_bad_bounds config then Some BadBounds
    else if has_bad_reference config then Some BadReference
    else if has_bad_capacity config || has_bad_members members then Some BadCapacity
    else None

-- members numbered from 0, with no calls, which have been shown nothing
abbrev pub newcomers : ℕ → List MemberView
newcomers zero = []
newcomers (suc n) = newcomers n ++ newcomer n ∷ []

-- as many calls and members as a board may have
pub record IsWithinCapacity (config : Config) (members : ℕ) : Type 0 where
  pub few_calls : config.max_calls ≤ MAX_CALLS
  pub some_members : 1 ≤ members
  pub few_members : members ≤ MAX_MEMBERS
