-- Answers of `matches_of` (src/lib.rt): what the prover left open; rt looks here.
use Rattle.std.proofs.Common.{inl}
use Rattle.clap.specs.Walk.{texts}
use Rattle.settings.specs.CommandLine.{RefusesArguments}
use Rattle.settings.specs.declared.fault.ArgumentsFault.TheVariants.{Parse}
use Rattle.settings.proofs.TaskLaws.{handed_on, parsed_by, parsed_rows, refused_parse}
use Rattle.settings.proofs.matches_of.Goals as goal

pub returns-in_err-command-clause-refused : goal.returns-in_err-command-clause-refused
returns-in_err-command-clause-refused c =
    handed_on (λ e. RefusesArguments (texts c.args.arguments.now) (Parse e)) c.from_residual.result
    c.in_err-command.field-0.0
    (inl c.in_err-command.ensures.memory) c.from_residual.ensures.1

pub returns-clause-refused : goal.returns-clause-refused
returns-clause-refused c =
    refused_parse c.in_ok-command.command (texts c.args.arguments.now) c.try_get_matches_from.result
    c.in_ok-command.ensures.options c.try_get_matches_from.ensures.kinds

pub returns-clause-parsed : goal.returns-clause-parsed
returns-clause-parsed c =
    parsed_by c.in_ok-command.command c.try_get_matches_from.result c.in_ok-command.ensures.options
    c.try_get_matches_from.ensures.parsed

pub returns-clause-rows : goal.returns-clause-rows
returns-clause-rows c =
    parsed_rows c.in_ok-command.command (texts c.args.arguments.now) c.try_get_matches_from.result
    c.in_ok-command.ensures.options c.try_get_matches_from.ensures.kinds c.try_get_matches_from.ensures.matches
