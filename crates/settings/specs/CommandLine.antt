-- What the arguments of the command line say.
use Rattle.std.specs.Prelude.{◌≡◌, true, false, List, [], Some, IfSome, codes, option_map}
use Rattle.clap.specs.Faults.{fault_of}
use Rattle.clap.specs.Kinds.{HasKind, Kinds, or_else}
use Rattle.clap.specs.Simple.{matches_of}
use Rattle.clap.specs.Walk.{Row, Text, first_of}
use Rattle.settings.specs.NumberTexts.{number_at}
use Rattle.settings.specs.Options.{callboard}
use Rattle.settings.specs.Tasks.{IsWellMixed, is_audit_mixed, is_journal_missing, is_live_missing, is_live_mixed}
use Rattle.settings.specs.Tasks.{is_results_alone, is_synced, task_at, task_kinds}
use Rattle.settings.specs.declared.fault.ArgumentsFault.{ArgumentsFault}
use Rattle.settings.specs.declared.fault.ArgumentsFault.TheVariants.{Parse, AuditNotAlone, LiveNotAlone}
use Rattle.settings.specs.declared.fault.ArgumentsFault.TheVariants.{ResultsWithoutAudit, SyncWithoutJournal}
use Rattle.settings.specs.declared.fault.ArgumentsFault.TheVariants.{WithoutLive}
use Rattle.settings.specs.declared.types.Settings.{Settings}

-- each setting is what its option says
pub record MatchesOptions (rows : List Row) (s : Settings) : Type 0 where
  pub low : number_at (codes "low") rows ≡ Some s.config.low
  pub high : number_at (codes "high") rows ≡ Some s.config.high
  pub reference : number_at (codes "reference") rows ≡ Some s.config.reference
  pub max_open : number_at (codes "open") rows ≡ Some s.config.max_open
  pub max_calls : number_at (codes "calls") rows ≡ Some s.config.max_calls
  pub range : number_at (codes "range") rows ≡ s.config.range
  pub members : number_at (codes "members") rows ≡ Some s.members
  pub task : task_at rows ≡ Some s.task
  pub journal : first_of (codes "journal") rows ≡ option_map (λ file. file.name.now) s.journal
  pub synced : IfSome s.journal (λ file. file.is_synced ≡ is_synced rows)

-- the arguments, the program's name first, have no fault, say these settings, and go together
abbrev pub AcceptsArguments : List Text → Settings → Type 0
AcceptsArguments arguments s = (fault_of callboard arguments ≡ []) × MatchesOptions (matches_of callboard arguments) s
    × IsWellMixed (matches_of callboard arguments)

-- the arguments have no fault, and these are the options that they give
abbrev pub IsParseOf : List Text → List Row → Type 0
IsParseOf arguments rows = (fault_of callboard arguments ≡ []) × (rows ≡ matches_of callboard arguments)

-- the kinds of fault of the arguments: those of the parse, and where it has none, of the arguments that options were
-- given
abbrev pub argument_kinds : List Text → Kinds
argument_kinds arguments = or_else (fault_of callboard arguments) (task_kinds (matches_of callboard arguments))

-- Why arguments are refused: a fault of theirs, refused memory aside; where they have none, an audit that isn't alone;
-- where it is, answers as records come that aren't; where they are, results without an audit; then what goes with
-- answers as records come alone, without them; and then how a journal is kept, without one.
abbrev pub RefusesArguments : List Text → ArgumentsFault → Type 0
RefusesArguments arguments (Parse error) = HasKind (argument_kinds arguments) error
RefusesArguments arguments AuditNotAlone = (argument_kinds arguments ≡ [])
    × (is_audit_mixed (matches_of callboard arguments) ≡ true)
RefusesArguments arguments LiveNotAlone = (argument_kinds arguments ≡ [])
    × (is_audit_mixed (matches_of callboard arguments) ≡ false)
    × (is_live_mixed (matches_of callboard arguments) ≡ true)
RefusesArguments arguments ResultsWithoutAudit =
    (argument_kinds arguments ≡ []) × (is_audit_mixed (matches_of callboard arguments) ≡ false)
    × (is_live_mixed (matches_of callboard arguments) ≡ false)
    × (is_results_alone (matches_of callboard arguments) ≡ true)
RefusesArguments arguments WithoutLive = (argument_kinds arguments ≡ [])
    × (is_audit_mixed (matches_of callboard arguments) ≡ false)
    × (is_live_mixed (matches_of callboard arguments) ≡ false)
    × (is_results_alone (matches_of callboard arguments) ≡ false)
    × (is_live_missing (matches_of callboard arguments) ≡ true)
RefusesArguments arguments SyncWithoutJournal = (argument_kinds arguments ≡ [])
    × (is_audit_mixed (matches_of callboard arguments) ≡ false)
    × (is_live_mixed (matches_of callboard arguments) ≡ false)
    × (is_results_alone (matches_of callboard arguments) ≡ false)
    × (is_live_missing (matches_of callboard arguments) ≡ false)
    × (is_journal_missing (matches_of callboard arguments) ≡ true)
