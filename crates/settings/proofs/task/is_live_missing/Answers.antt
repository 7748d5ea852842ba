-- Answers of `is_live_missing` (src/task.rt): what the prover left open; rt looks here.
use Rattle.std.proofs.Common.{codes, arith}
use Rattle.auction_terms.specs.declared.limits.TheConstants.{MAX_CALLS}
use Rattle.settings.specs.OptionTexts.{rows_in}
use Rattle.settings.proofs.Readings.{has_options, wider_or_none}
use Rattle.settings.proofs.task.is_live_missing.Goals as goal

pub number_if_given-reserve-requires : goal.number_if_given-reserve-requires
number_if_given-reserve-requires c =
    wider_or_none 0 MAX_CALLS (codes "reserve") (rows_in c.args.matches.now) (omega arith)
    (has_options c.args.matches.now c.requires).reserve

pub flag_of-live-requires : goal.flag_of-live-requires
flag_of-live-requires c = (has_options c.args.matches.now c.requires).live
