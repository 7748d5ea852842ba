-- Answers of `gap_lanes` (src/choices.rt): what the prover left open; rt looks here.
use Rattle.lanes.proofs.LaneLaws.{zip2-abs_diff, zip2-max_min}
use Rattle.lanes.proofs.choices.gap_lanes.Goals as goal

pub overflow_sub-result : goal.overflow_sub-result
overflow_sub-result c = rw (c.greater_lanes.ensures, c.lesser_lanes.ensures) (zip2-max_min c.args.a c.args.b)

pub returns : goal.returns
returns c = rw (c.greater_lanes.ensures, c.lesser_lanes.ensures) (zip2-abs_diff c.args.a c.args.b)
