-- Answers of `live_task` (src/task.rt): what the prover left open; rt looks here.
use Rattle.std.proofs.Common.{codes, arith}
use Rattle.auction_terms.specs.declared.limits.TheConstants.{MAX_CALLS}
use Rattle.settings.specs.OptionTexts.{rows_in}
use Rattle.settings.proofs.Readings.{has_options, wider_or_none}
use Rattle.settings.proofs.task.live_task.Goals as goal

pub number_if_given-given-requires : goal.number_if_given-given-requires
number_if_given-given-requires c =
    wider_or_none 0 MAX_CALLS (codes "reserve") (rows_in c.args.matches.now) (omega arith)
    (has_options c.args.matches.now c.requires).reserve
