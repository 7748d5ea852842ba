-- Answers of `is_results_alone` (src/task.rt): what the prover left open; rt looks here.
use Rattle.settings.proofs.Readings.{has_options}
use Rattle.settings.proofs.task.is_results_alone.Goals as goal

pub flag_of-results-requires : goal.flag_of-results-requires
flag_of-results-requires c = (has_options c.args.matches.now c.requires).results

pub flag_of-audit-requires : goal.flag_of-audit-requires
flag_of-audit-requires c = (has_options c.args.matches.now c.requires).audit
