-- Answers of `list_side` (src/commands/listing.rt): what the prover left open; rt looks here.
use Rattle.std.proofs.Common.{arith}
use Rattle.std.proofs.lemmas.Grind.{common_steps}
use Rattle.auction.proofs.ExecutionLaws.{side_listed}
use Rattle.auction.proofs.commands.listing.list_side.Goals as goal

pub returns : goal.returns
returns c = grind (arith, common_steps, side_listed)
