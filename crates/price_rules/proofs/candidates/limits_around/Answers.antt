-- Answers of `limits_around` (src/candidates.rt): what the prover left open; rt looks here.
use Rattle.std.proofs.Common.{arith}
use Rattle.price_rules.proofs.CurveLaws.{curves-of_ladder}
use Rattle.price_rules.proofs.CandidateLaws.{are_candidates, are_marked}
use Rattle.price_rules.proofs.candidates.limits_around.Goals as goal

pub returns-clause-candidates : goal.returns-clause-candidates
returns-clause-candidates c book h =
    let v = c.args.ladder.now in
    let a = c.args.around.now in
    rw c.side_by_side.ensures
    (are_candidates v a _ _ _ _ c.requires.around c.far_limit-far.ensures c.near_limit-near.ensures
    c.limit_here-here.ensures c.limit_after-after.ensures book (curves-of_ladder v book h c.requires.flags))

pub returns-clause-marked : goal.returns-clause-marked
returns-clause-marked c = search (arith, are_marked)
