-- What the arguments ask for, from what was read of the matches of a parse.
use Rattle.std.proofs.Common.{◌≡◌, ◌∙◌, ap, Bool, true, false, refl, sym, subst, List, [], ◌∷◌, Option, Some, None}
use Rattle.std.proofs.Common.{codes, inl, inr, ℕ, ◌≤◌, arith}
use Rattle.std.specs.Prelude.{if◌then◌else◌, Result, Ok, Err, IfErr, IfOk, IfSome, IsErrAnd, is_some}
use Rattle.std.specs.Prelude.{option_map, unwrap_or}
use Rattle.auction_terms.specs.declared.limits.TheConstants.{MAX_CALLS}
use Rattle.std.specs.Borrow.{Bor}
use Rattle.clap.specs.Built.{IsParsedFrom}
use Rattle.clap.specs.Faults.{fault_of, is_simple_and_free}
use Rattle.clap.specs.Kinds.{FailsBy, HasKind, Kinds, or_else}
use Rattle.clap.specs.Matches.{first_value}
use Rattle.clap.specs.Simple.{HasMatchesOf, app_of, matches_of}
use Rattle.clap.specs.Walk.{Row, Text, first_of, rows_of}
use Rattle.clap.specs.declared.builder.command.Command.{Command}
use Rattle.clap.specs.declared.error.Error.{Error}
use Rattle.clap.specs.declared.error.kind.ErrorKind.TheVariants.{InvalidValue}
use Rattle.clap.specs.declared.parser.matches.ArgMatches.{ArgMatches}
use Rattle.clap.specs.declared.parser.matches.Found.{Found}
use Rattle.clap.proofs.WalkLemmas.{first_value-rows}
use Rattle.settings.specs.Options.{callboard}
use Rattle.settings.specs.CommandLine.{IsParseOf, RefusesArguments}
use Rattle.settings.specs.NumberTexts.{number_at}
use Rattle.settings.specs.OptionTexts.{IsParsed, MayHaveNumber, rows_in}
use Rattle.settings.specs.Ranges.{HasReserveInRange}
use Rattle.settings.specs.Tasks.{RefusesTask, wanted_form, form_kinds, is_given, is_live_mixed, is_audit_mixed, run_of}
use Rattle.settings.specs.Tasks.{is_journal_missing, is_live_missing, is_results_alone, reserve_at, sync_in, sync_kinds}
use Rattle.settings.specs.Tasks.{task_at, task_kinds, word_in}
use Rattle.settings.specs.declared.fault.ArgumentsFault.{ArgumentsFault}
use Rattle.settings.specs.declared.fault.ArgumentsFault.TheVariants.{Parse, AuditNotAlone, LiveNotAlone}
use Rattle.settings.specs.declared.fault.ArgumentsFault.TheVariants.{ResultsWithoutAudit, SyncWithoutJournal}
use Rattle.settings.specs.declared.fault.ArgumentsFault.TheVariants.{WithoutLive}
use Rattle.settings.specs.declared.types.Form.{Form}
use Rattle.settings.specs.declared.types.Task.{Task}
use Rattle.settings.specs.declared.types.Task.TheVariants.{Audit, Live}
use Rattle.settings.specs.declared.types.TheConstants.{USUAL_RESERVE}
use Rattle.settings.proofs.Readings.{at_most_if_some, free_command, no_fault, rows_are}

-- what a `?` hands on
pub handed_on : {T E : Type 0} (P : E → Type 0) (r : Result T E) (e : E) → P e → IsErrAnd r (λ x. x ≡ e) → IfErr r P
handed_on P (Ok x) e holds is = tt
handed_on P (Err f) e holds is = subst P (sym is) holds

-- ---- the arguments that options were given

pub first_of-first_value : (f : Found) (id : Text) (word : Option (Bor Text))
    → option_map (λ s. s.now) word ≡ first_value f id → first_of id (rows_of f) ≡ option_map (λ s. s.now) word
first_of-first_value f id word got = sym (first_value-rows f id) ∙ sym got

some_text : (word : Option (Bor Text)) → is_some (option_map (λ s. s.now) word) ≡ is_some word
some_text None = refl
some_text (Some w) = refl

pub is_some-first_of : (f : Found) (id : Text) (word : Option (Bor Text))
    → option_map (λ s. s.now) word ≡ first_value f id → is_some (first_of id (rows_of f)) ≡ is_some word
is_some-first_of f id word got = ap is_some (first_of-first_value f id word got) ∙ some_text word

-- ---- the task

pub task_at-run : (rows : List Row) (word : Option Text) (floor history : Bool) (form : Form) → word_in rows ≡ word
    → wanted_form word ≡ Some form
    → is_given (codes "floor") rows ≡ floor → is_given (codes "history") rows ≡ history
    → is_given (codes "audit") rows ≡ false
    → is_given (codes "live") rows ≡ false → task_at rows ≡ Some (run_of floor history form)
task_at-run rows word floor history form same asked is_floor is_history no_audit no_live =
    (λ i. if no_live i then Some (Live (reserve_at rows))
    else if no_audit i then Some (Audit (is_given (codes "results") rows))
    else option_map (run_of (is_floor i) (is_history i)) (wanted_form (same i)))
    ∙ ap (option_map (run_of floor history)) asked

-- the form that is wanted is one
pub no_kinds : (word : Option Text) (form : Form) → wanted_form word ≡ Some form → form_kinds word ≡ []
no_kinds word form is = ap (λ (w : Option Form). if is_some w then [] else InvalidValue ∷ []) is

-- and so is the word of `--sync`
pub no_task_kinds : (rows : List Row) (form : Form) → wanted_form (word_in rows) ≡ Some form
    → sync_kinds (sync_in rows) ≡ [] → task_kinds rows ≡ []
no_task_kinds rows form is none = (λ i. or_else (no_kinds (word_in rows) form is i) (none i))

-- ---- the calls that are kept for the operator

usual_or_less : (given : Option ℕ) → IfSome given (λ n. n ≤ MAX_CALLS) → unwrap_or given USUAL_RESERVE ≤ MAX_CALLS
usual_or_less None h = omega arith
usual_or_less (Some n) h = h

-- no other task keeps any
others_keep_none : (audit results floor history : Bool) (form : Option Form) (task : Task)
    → (if audit then Some (Audit results) else option_map (run_of floor history) form) ≡ Some task
    → HasReserveInRange task
others_keep_none true results floor history form task is =
    subst HasReserveInRange (ap (λ (t : Option Task). unwrap_or t task) is) tt
others_keep_none false results floor history None task is = absurd (cc (is))
others_keep_none false results true history (Some form) task is =
    subst HasReserveInRange (ap (λ (t : Option Task). unwrap_or t task) is) tt
others_keep_none false results false history (Some form) task is =
    subst HasReserveInRange (ap (λ (t : Option Task). unwrap_or t task) is) tt

pub reserve_in_range : (rows : List Row) (task : Task) → MayHaveNumber 0 MAX_CALLS (codes "reserve") rows
    → task_at rows ≡ Some task → HasReserveInRange task
reserve_in_range rows task has is = by_test (is_given (codes "live") rows) refl
  where
    by_test : (live : Bool) → is_given (codes "live") rows ≡ live → HasReserveInRange task
    by_test true e =
        let same : Live (reserve_at rows) ≡ task = ap (λ (t : Option Task). unwrap_or t task) (rw e at is) in
        subst HasReserveInRange same (usual_or_less (number_at (codes "reserve") rows)
        (at_most_if_some 0 MAX_CALLS (codes "reserve") rows (number_at (codes "reserve") rows) has refl))
    by_test false e =
        others_keep_none (is_given (codes "audit") rows) (is_given (codes "results") rows)
        (is_given (codes "floor") rows) (is_given (codes "history") rows) (wanted_form (word_in rows)) task
        (rw e at is)

-- ---- why arguments are refused

-- kinds that come first
pub first_kinds : (ks next : Kinds) (e : Error) → HasKind ks e → HasKind (or_else ks next) e
first_kinds [] next e (inl memory) = inl memory
first_kinds [] next e (inr none) = absurd none
first_kinds (k ∷ ks) next e has = has

pub refused_arguments : (c : Command) (arguments : List Text) (e : Error) → app_of c ≡ callboard
    → (is_simple_and_free (app_of c) ≡ true → HasKind (fault_of (app_of c) arguments) e)
    → RefusesArguments arguments (Parse e)
refused_arguments c arguments e same kinds =
    first_kinds (fault_of callboard arguments) (task_kinds (matches_of callboard arguments)) e
    (subst (λ a. HasKind (fault_of a arguments) e) same (kinds (free_command c same)))

-- what a parse of the arguments gives
pub refused_parse : (c : Command) (arguments : List Text) (r : Result ArgMatches Error) → app_of c ≡ callboard
    → (is_simple_and_free (app_of c) ≡ true → FailsBy (fault_of (app_of c) arguments) r)
    → IfErr r (λ e. RefusesArguments arguments (Parse e))
refused_parse c arguments (Ok m) same kinds = tt
refused_parse c arguments (Err e) same kinds = refused_arguments c arguments e same kinds

pub parsed_rows : (c : Command) (arguments : List Text) (r : Result ArgMatches Error) → app_of c ≡ callboard
    → (is_simple_and_free (app_of c) ≡ true → FailsBy (fault_of (app_of c) arguments) r)
    → IfOk r (HasMatchesOf (app_of c) arguments) → IfOk r (λ m. IsParseOf arguments (rows_in m))
parsed_rows c arguments (Ok m) same kinds has = (no_fault c arguments same kinds, rows_are c m arguments same has)
parsed_rows c arguments (Err e) same kinds has = tt

pub parsed_by : (c : Command) (r : Result ArgMatches Error) → app_of c ≡ callboard
    → IfOk r (λ m. IsParsedFrom c m) → IfOk r IsParsed
parsed_by c (Ok m) same parsed = (c, same, parsed)
parsed_by c (Err e) same parsed = tt

pub refused_task : (arguments : List Text) (rows : List Row) (f : ArgumentsFault) → fault_of callboard arguments ≡ []
    → rows ≡ matches_of callboard arguments → RefusesTask rows f → RefusesArguments arguments f
refused_task arguments rows (Parse e) none same has =
    subst (λ ks. HasKind (or_else ks (task_kinds (matches_of callboard arguments))) e) (sym none)
    (subst (λ rs. HasKind (task_kinds rs) e) same has)
refused_task arguments rows AuditNotAlone none same mixed = (
  (λ i. or_else (none i) (task_kinds (matches_of callboard arguments)))
      ∙ ap (λ rs. task_kinds rs) (sym same) ∙ mixed.0,
  ap is_audit_mixed (sym same) ∙ mixed.1,
)
refused_task arguments rows LiveNotAlone none same mixed = (
  (λ i. or_else (none i) (task_kinds (matches_of callboard arguments)))
      ∙ ap (λ rs. task_kinds rs) (sym same) ∙ mixed.0,
  ap is_audit_mixed (sym same) ∙ mixed.1,
  ap is_live_mixed (sym same) ∙ mixed.2,
)
refused_task arguments rows ResultsWithoutAudit none same alone = (
  (λ i. or_else (none i) (task_kinds (matches_of callboard arguments)))
      ∙ ap (λ rs. task_kinds rs) (sym same) ∙ alone.0,
  ap is_audit_mixed (sym same) ∙ alone.1,
  ap is_live_mixed (sym same) ∙ alone.2,
  ap is_results_alone (sym same) ∙ alone.3,
)
refused_task arguments rows WithoutLive none same missing = (
  (λ i. or_else (none i) (task_kinds (matches_of callboard arguments)))
      ∙ ap (λ rs. task_kinds rs) (sym same) ∙ missing.0,
  ap is_audit_mixed (sym same) ∙ missing.1,
  ap is_live_mixed (sym same) ∙ missing.2,
  ap is_results_alone (sym same) ∙ missing.3,
  ap is_live_missing (sym same) ∙ missing.4,
)
refused_task arguments rows SyncWithoutJournal none same missing = (
  (λ i. or_else (none i) (task_kinds (matches_of callboard arguments)))
      ∙ ap (λ rs. task_kinds rs) (sym same) ∙ missing.0,
  ap is_audit_mixed (sym same) ∙ missing.1,
  ap is_live_mixed (sym same) ∙ missing.2,
  ap is_results_alone (sym same) ∙ missing.3,
  ap is_live_missing (sym same) ∙ missing.4,
  ap is_journal_missing (sym same) ∙ missing.5,
)
