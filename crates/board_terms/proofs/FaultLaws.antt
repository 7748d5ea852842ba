-- The faults of a board beside those of its auction.
use Rattle.std.proofs.Common.{◌≡◌, ℕ, Bool, Option, Some, None, arith}
use Rattle.std.specs.Prelude.{if◌then◌else◌}
use Rattle.std.proofs.lemmas.Grind.{common_steps}
use Rattle.auction_terms.specs.declared.Config.{Config}
use Rattle.auction.specs.declared.OpenFault.{OpenFault}
use Rattle.auction.specs.declared.OpenFault.TheVariants.{BadCapacity}
use Rattle.auction.specs.ConfigFault.{open_fault}
use Rattle.board_terms.specs.BoardOpening.{board_fault, has_bad_members}

abbrev pub or_members : Option OpenFault → Bool → Option OpenFault
or_members None bad = if bad then Some BadCapacity else None
or_members (Some fault) bad = Some fault

pub board_is : (config : Config) (members : ℕ)
    → board_fault config members ≡ or_members (open_fault config) (has_bad_members members)
unfolding board_fault open_fault
board_is config members = grind (arith, common_steps)
