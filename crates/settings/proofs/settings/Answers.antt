-- Answers of `settings` (src/lib.rt): what the prover left open; rt looks here.
use Rattle.std.proofs.Common.{subst}
use Rattle.clap.specs.Walk.{texts}
use Rattle.settings.specs.CommandLine.{RefusesArguments, MatchesOptions}
use Rattle.settings.specs.OptionTexts.{rows_in}
use Rattle.settings.specs.Tasks.{IsWellMixed}
use Rattle.settings.specs.declared.fault.ArgumentsFault.TheVariants.{Parse}
use Rattle.settings.proofs.TaskLaws.{handed_on, refused_task}
use Rattle.settings.proofs.settings.Goals as goal

pub returns-in_err-matches-clause-refused : goal.returns-in_err-matches-clause-refused
returns-in_err-matches-clause-refused c =
    handed_on (RefusesArguments (texts c.args.arguments.now)) c.from_residual.result (Parse c.in_err-matches.field-0.0)
    c.in_err-matches.ensures.refused c.from_residual.ensures.1

pub returns-in_err-task-clause-refused : goal.returns-in_err-task-clause-refused
returns-in_err-task-clause-refused c =
    let rows = c.in_ok-matches.ensures.rows in
    handed_on (RefusesArguments (texts c.args.arguments.now)) c.from_residual-in_err-task.result c.in_err-task.field-0.0
    (refused_task (texts c.args.arguments.now) (rows_in c.in_ok-matches.matches) c.in_err-task.field-0.0 rows.0 rows.1
    c.in_err-task.ensures.refused)
    c.from_residual-in_err-task.ensures.1

pub returns-clause-arguments : goal.returns-clause-arguments
returns-clause-arguments c =
    let rows = c.in_ok-matches.ensures.rows in (
      rows.0,
      subst (λ rs. MatchesOptions rs c.settings_of.result) rows.1 c.settings_of.ensures.arguments,
      subst IsWellMixed rows.1 c.in_ok-task.ensures.mixed,
    )
