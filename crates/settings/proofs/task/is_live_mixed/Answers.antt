-- Answers of `is_live_mixed` (src/task.rt): what the prover left open; rt looks here.
use Rattle.settings.proofs.Readings.{has_options}
use Rattle.settings.proofs.task.is_live_mixed.Goals as goal

pub flag_of-live-requires : goal.flag_of-live-requires
flag_of-live-requires c = (has_options c.args.matches.now c.requires.parsed).live

pub flag_of-audit-requires : goal.flag_of-audit-requires
flag_of-audit-requires c = (has_options c.args.matches.now c.requires.parsed).audit

pub flag_of-floor-requires : goal.flag_of-floor-requires
flag_of-floor-requires c = (has_options c.args.matches.now c.requires.parsed).floor

pub flag_of-history-requires : goal.flag_of-history-requires
flag_of-history-requires c = (has_options c.args.matches.now c.requires.parsed).history
