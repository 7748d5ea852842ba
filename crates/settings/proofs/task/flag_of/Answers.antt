-- Answers of `flag_of` (src/task.rt): what the prover left open; rt looks here.
use Rattle.clap.specs.Matches.{found_of}
use Rattle.settings.proofs.Readings.{flag_got}
use Rattle.settings.proofs.task.flag_of.Goals as goal

pub returns : goal.returns
returns c =
    flag_got (found_of c.args.matches.now) c.args.name.now c.get_flag.result c.requires c.get_flag.ensures.none
    c.get_flag.ensures.value c.get_flag.ensures.other
