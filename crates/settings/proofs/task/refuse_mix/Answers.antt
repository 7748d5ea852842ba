-- Answers of `refuse_mix` (src/task.rt): what the prover left open; rt looks here.
use Rattle.std.proofs.Common.{◌∙◌}
use Rattle.settings.specs.OptionTexts.{rows_in}
use Rattle.settings.proofs.TaskLaws.{no_task_kinds}
use Rattle.settings.proofs.task.refuse_mix.Goals as goal

pub returns-then-is_audit_mixed-clause-refused : goal.returns-then-is_audit_mixed-clause-refused
returns-then-is_audit_mixed-clause-refused c = (
  no_task_kinds (rows_in c.args.matches.now) c.args.form c.requires.form c.requires.sync,
  c.is_audit_mixed.ensures ∙ c.if-is_audit_mixed.true,
)

pub returns-then-is_live_mixed-clause-refused : goal.returns-then-is_live_mixed-clause-refused
returns-then-is_live_mixed-clause-refused c = (
  no_task_kinds (rows_in c.args.matches.now) c.args.form c.requires.form c.requires.sync,
  c.is_audit_mixed.ensures ∙ c.if-is_audit_mixed.false,
  c.is_live_mixed.ensures ∙ c.if-is_live_mixed.true,
)

pub returns-then-is_results_alone-clause-refused : goal.returns-then-is_results_alone-clause-refused
returns-then-is_results_alone-clause-refused c = (
  no_task_kinds (rows_in c.args.matches.now) c.args.form c.requires.form c.requires.sync,
  c.is_audit_mixed.ensures ∙ c.if-is_audit_mixed.false,
  c.is_live_mixed.ensures ∙ c.if-is_live_mixed.false,
  c.is_results_alone.ensures ∙ c.if-is_results_alone.true,
)

pub returns-then-is_live_missing-clause-refused : goal.returns-then-is_live_missing-clause-refused
returns-then-is_live_missing-clause-refused c = (
  no_task_kinds (rows_in c.args.matches.now) c.args.form c.requires.form c.requires.sync,
  c.is_audit_mixed.ensures ∙ c.if-is_audit_mixed.false,
  c.is_live_mixed.ensures ∙ c.if-is_live_mixed.false,
  c.is_results_alone.ensures ∙ c.if-is_results_alone.false,
  c.is_live_missing.ensures ∙ c.if-is_live_missing.true,
)

pub returns-then-is_journal_missing-clause-refused : goal.returns-then-is_journal_missing-clause-refused
returns-then-is_journal_missing-clause-refused c = (
  no_task_kinds (rows_in c.args.matches.now) c.args.form c.requires.form c.requires.sync,
  c.is_audit_mixed.ensures ∙ c.if-is_audit_mixed.false,
  c.is_live_mixed.ensures ∙ c.if-is_live_mixed.false,
  c.is_results_alone.ensures ∙ c.if-is_results_alone.false,
  c.is_live_missing.ensures ∙ c.if-is_live_missing.false,
  c.is_journal_missing.ensures ∙ c.if-is_journal_missing.true,
)

pub returns-clause-mixed : goal.returns-clause-mixed
returns-clause-mixed c = (
  c.is_audit_mixed.ensures ∙ c.if-is_audit_mixed.false,
  c.is_live_mixed.ensures ∙ c.if-is_live_mixed.false,
  c.is_results_alone.ensures ∙ c.if-is_results_alone.false,
  c.is_live_missing.ensures ∙ c.if-is_live_missing.false,
  c.is_journal_missing.ensures ∙ c.if-is_journal_missing.false,
)
