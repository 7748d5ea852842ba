-- Answers of `task_of` (src/task.rt): what the prover left open; rt looks here.
use Rattle.std.proofs.Common.{◌∙◌, Some, ap, codes, subst, sym}
use Rattle.clap.specs.Kinds.{HasKind, or_else}
use Rattle.clap.specs.Matches.{found_of}
use Rattle.settings.specs.OptionTexts.{rows_in}
use Rattle.settings.specs.Tasks.{RefusesTask, wanted_form, form_kinds, sync_in, sync_kinds, word_in}
use Rattle.settings.specs.declared.fault.ArgumentsFault.TheVariants.{Parse}
use Rattle.settings.specs.declared.types.Task.TheVariants.{Floor}
use Rattle.settings.proofs.Readings.{has_options}
use Rattle.settings.proofs.TaskLaws.{first_kinds, first_of-first_value, handed_on, task_at-run}
use Rattle.settings.proofs.task.task_of.Goals as goal

pub flag_of-live-requires : goal.flag_of-live-requires
flag_of-live-requires c = (has_options c.args.matches.now c.requires).live

pub flag_of-audit-requires : goal.flag_of-audit-requires
flag_of-audit-requires c = (has_options c.args.matches.now c.requires).audit

pub flag_of-results-requires : goal.flag_of-results-requires
flag_of-results-requires c = (has_options c.args.matches.now c.requires).results

pub flag_of-floor-requires : goal.flag_of-floor-requires
flag_of-floor-requires c = (has_options c.args.matches.now c.requires).floor

pub flag_of-history-requires : goal.flag_of-history-requires
flag_of-history-requires c = (has_options c.args.matches.now c.requires).history

pub returns-in_err-form-clause-refused : goal.returns-in_err-form-clause-refused
returns-in_err-form-clause-refused c =
    let word =
    first_of-first_value (found_of c.args.matches.now) (codes "print") c.get_str.result c.get_str.ensures in
    handed_on (RefusesTask (rows_in c.args.matches.now)) c.from_residual.result (Parse c.in_err-form.field-0.0)
    (first_kinds (form_kinds (word_in (rows_in c.args.matches.now))) (sync_kinds (sync_in (rows_in c.args.matches.now)))
    c.in_err-form.field-0.0
    (subst (λ w. HasKind (form_kinds w) c.in_err-form.field-0.0) (sym word) c.in_err-form.ensures.refused))
    c.from_residual.ensures.1

pub returns-in_err-refuse_sync-clause-refused : goal.returns-in_err-refuse_sync-clause-refused
returns-in_err-refuse_sync-clause-refused c =
    let rows = rows_in c.args.matches.now in
    let e = c.in_err-refuse_sync.field-0.0 in
    let form =
    ap form_kinds (first_of-first_value (found_of c.args.matches.now) (codes "print") c.get_str.result
    c.get_str.ensures) ∙ c.in_ok-form.ensures.refused in
    let word =
    first_of-first_value (found_of c.args.matches.now) (codes "sync") c.get_str-2.result c.get_str-2.ensures in
    handed_on (RefusesTask rows) c.from_residual-in_err-refuse_sync.result (Parse e)
    (subst (λ ks. HasKind (or_else ks (sync_kinds (sync_in rows))) e) (sym form)
    (subst (λ w. HasKind (sync_kinds w) e) (sym word) c.in_err-refuse_sync.ensures.refused))
    c.from_residual-in_err-refuse_sync.ensures.1

pub refuse_mix-requires-clause-sync : goal.refuse_mix-requires-clause-sync
refuse_mix-requires-clause-sync c =
    ap sync_kinds
    (first_of-first_value (found_of c.args.matches.now) (codes "sync") c.get_str-2.result c.get_str-2.ensures)
    ∙ c.in_ok-refuse_sync.ensures.none

pub refuse_mix-requires-clause-form : goal.refuse_mix-requires-clause-form
refuse_mix-requires-clause-form c =
    ap wanted_form
    (first_of-first_value (found_of c.args.matches.now) (codes "print") c.get_str.result c.get_str.ensures)
    ∙ c.in_ok-form.ensures.form

pub returns-then-floor-clause-task : goal.returns-then-floor-clause-task
returns-then-floor-clause-task c =
    task_at-run (rows_in c.args.matches.now) _ _ _ _
    (first_of-first_value (found_of c.args.matches.now) (codes "print") c.get_str.result c.get_str.ensures)
    c.in_ok-form.ensures.form
    (c.flag_of-floor.ensures ∙ c.if-floor.true) c.flag_of-history.ensures (c.flag_of-audit.ensures ∙ c.if-audit.false)
    (c.flag_of-live.ensures ∙ c.if-live.false)
    ∙ ap (λ form. Some (Floor form)) (sym c.floor_form.ensures)

pub returns-clause-task : goal.returns-clause-task
returns-clause-task c =
    task_at-run (rows_in c.args.matches.now) _ _ _ _
    (first_of-first_value (found_of c.args.matches.now) (codes "print") c.get_str.result c.get_str.ensures)
    c.in_ok-form.ensures.form
    (c.flag_of-floor.ensures ∙ c.if-floor.false) c.flag_of-history.ensures (c.flag_of-audit.ensures ∙ c.if-audit.false)
    (c.flag_of-live.ensures ∙ c.if-live.false)
