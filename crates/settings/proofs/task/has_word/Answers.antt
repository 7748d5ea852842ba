-- Answers of `has_word` (src/task.rt): what the prover left open; rt looks here.
use Rattle.std.proofs.Common.{◌∙◌, rules}
use Rattle.clap.specs.Matches.{found_of}
use Rattle.settings.proofs.TaskLaws.{is_some-first_of}
use Rattle.settings.proofs.task.has_word.Goals as goal

pub returns : goal.returns
returns c =
    is_some-first_of (found_of c.args.matches.now) c.args.name.now c.get_str.result c.get_str.ensures ∙ search rules
