-- Answers of `Ladder::reset` (src/copying.rt): what the prover left open; rt looks here.
use Rattle.std.proofs.Common.{arith}
use Rattle.std.proofs.lemmas.Simd.{length-replicate}
use Rattle.std.proofs.lemmas.List.Folds.{sum_by-replicate}
use Rattle.std.proofs.lemmas.Grind.{common_steps}
use Rattle.tick_ladder.proofs.PresenceLaws.{no_flags}
use Rattle.tick_ladder.proofs.Ladder.reset.Goals as goal

pub invariant_of-self : goal.invariant_of-self
invariant_of-self c = grind (arith, common_steps, length-replicate, sum_by-replicate)

pub returns : goal.returns
returns c = grind (arith, common_steps, no_flags)
