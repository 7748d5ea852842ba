-- Answers of `journal_file` (src/lib.rt): what the prover left open; rt looks here.
use Rattle.std.proofs.Common.{◌∙◌, codes, rules}
use Rattle.clap.specs.Matches.{found_of}
use Rattle.settings.proofs.TaskLaws.{first_of-first_value}
use Rattle.settings.proofs.journal_file.Goals as goal

pub returns-in_err-name-clause-name : goal.returns-in_err-name-clause-name
returns-in_err-name-clause-name c =
    first_of-first_value (found_of c.args.matches.now) (codes "journal") c.get_str.result c.get_str.ensures
    ∙ search rules

pub returns-clause-name : goal.returns-clause-name
returns-clause-name c =
    first_of-first_value (found_of c.args.matches.now) (codes "journal") c.get_str.result c.get_str.ensures
    ∙ search rules
