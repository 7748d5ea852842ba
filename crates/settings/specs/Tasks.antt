-- What the arguments ask to be done with the input.
use Rattle.std.specs.Prelude.{◌≡◌, ◌||◌, ◌&&◌, Bool, true, false, List, [], ◌∷◌, Option, Some, None, codes, is_some}
use Rattle.std.specs.Prelude.{ℕ, if◌then◌else◌, not, option_map, unwrap_or}
use Rattle.std.specs.Option.{option_map_or}
use Rattle.std.specs.Str.{bytes_eq}
use Rattle.clap.specs.Kinds.{HasKind, Kinds, or_else}
use Rattle.clap.specs.Walk.{Row, Text, first_of, one_of}
use Rattle.clap.specs.declared.error.kind.ErrorKind.TheVariants.{InvalidValue}
use Rattle.settings.specs.NumberTexts.{number_at}
use Rattle.settings.specs.declared.fault.ArgumentsFault.{ArgumentsFault}
use Rattle.settings.specs.declared.fault.ArgumentsFault.TheVariants.{Parse, AuditNotAlone, LiveNotAlone}
use Rattle.settings.specs.declared.fault.ArgumentsFault.TheVariants.{ResultsWithoutAudit, SyncWithoutJournal}
use Rattle.settings.specs.declared.fault.ArgumentsFault.TheVariants.{WithoutLive}
use Rattle.settings.specs.declared.types.FloorForm.{FloorForm}
use Rattle.settings.specs.declared.types.FloorForm.TheVariants as floor
use Rattle.settings.specs.declared.types.Form.{Form}
use Rattle.settings.specs.declared.types.Form.TheVariants.{Lines, Listing}
use Rattle.settings.specs.declared.types.Listing.TheVariants.{Journal, Trades, Book}
use Rattle.settings.specs.declared.types.Task.{Task}
use Rattle.settings.specs.declared.types.TheConstants.{USUAL_RESERVE}
use Rattle.settings.specs.declared.types.Task.TheVariants.{Run, Floor, Audit, Live}

-- the text of a flag, if it has one, says that it was given
abbrev pub is_yes : Option Text → Bool
is_yes text = option_map_or (λ t. bytes_eq t (codes "true")) text false

-- the flag of this name was given
abbrev pub is_given : Text → List Row → Bool
is_given name rows = is_yes (one_of name rows)

-- the form that a word names
abbrev pub form_of : Text → Option Form
form_of word =
    if bytes_eq word (codes "lines") then Some Lines
    else if bytes_eq word (codes "journal") then Some (Listing Journal)
    else if bytes_eq word (codes "trades") then Some (Listing Trades)
    else if bytes_eq word (codes "book") then Some (Listing Book)
    else None

-- the word of `--print`, where it was given
abbrev pub word_in : List Row → Option Text
word_in rows = first_of (codes "print") rows

-- the form that is asked for: the lines where none is
abbrev pub wanted_form : Option Text → Option Form
wanted_form word = option_map_or form_of word (Some Lines)

-- a word that names no form is an invalid value
abbrev pub form_kinds : Option Text → Kinds
form_kinds word = if is_some (wanted_form word) then [] else InvalidValue ∷ []

-- the word of `--sync`, where it was given
abbrev pub sync_in : List Row → Option Text
sync_in rows = first_of (codes "sync") rows

-- any other word than `none` is an invalid value
abbrev pub sync_kinds : Option Text → Kinds
sync_kinds None = []
sync_kinds (Some word) = if bytes_eq word (codes "none") then [] else InvalidValue ∷ []

-- what is kept is synced
abbrev pub is_synced : List Row → Bool
is_synced rows = not (is_some (sync_in rows))

-- the kinds of fault of the arguments that options were given
abbrev pub task_kinds : List Row → Kinds
task_kinds rows = or_else (form_kinds (word_in rows)) (sync_kinds (sync_in rows))

-- what is printed of a board's day: a listing in place of its tally, which its history follows where that is wanted
abbrev pub floor_form : Bool → Form → FloorForm
floor_form history (Listing listing) = floor.Listing listing
floor_form true Lines = floor.History
floor_form false Lines = floor.Tally

-- commands are called on a board, or applied to an auction
abbrev pub run_of : Bool → Bool → Form → Task
run_of true history form = Floor (floor_form history form)
run_of false history form = Run form

-- how many of the last calls are the operator's: as many as an option says, and else the usual number
abbrev pub reserve_at : List Row → ℕ
reserve_at rows = unwrap_or (number_at (codes "reserve") rows) USUAL_RESERVE

-- what is to be done: the answers as records come or an audit, where they are asked for, and else a run
abbrev pub task_at : List Row → Option Task
task_at rows =
    if is_given (codes "live") rows then Some (Live (reserve_at rows))
    else if is_given (codes "audit") rows then Some (Audit (is_given (codes "results") rows))
    else option_map (run_of (is_given (codes "floor") rows) (is_given (codes "history") rows))
    (wanted_form (word_in rows))

-- an audit was asked for beside something that only a run has
abbrev pub is_audit_mixed : List Row → Bool
is_audit_mixed rows = is_given (codes "audit") rows
    && (is_given (codes "floor") rows || (is_given (codes "history") rows || is_some (word_in rows)))

abbrev pub is_listing : Form → Bool
is_listing Lines = false
is_listing (Listing listing) = true

-- a listing was asked for in place of the lines
abbrev pub wants_listing : List Row → Bool
wants_listing rows = option_map_or is_listing (wanted_form (word_in rows)) false

-- answers as records come were asked for beside something that goes without them
abbrev pub is_live_mixed : List Row → Bool
is_live_mixed rows = is_given (codes "live") rows && (is_given (codes "audit") rows
    || (is_given (codes "floor") rows || (is_given (codes "history") rows || wants_listing rows)))

-- the results of a day were asked for without an audit
abbrev pub is_results_alone : List Row → Bool
is_results_alone rows = is_given (codes "results") rows && not (is_given (codes "audit") rows)

-- something that goes with answers as records come alone was asked for without them
abbrev pub is_live_missing : List Row → Bool
is_live_missing rows = (is_some (number_at (codes "reserve") rows)
    || (is_some (first_of (codes "journal") rows) || is_some (sync_in rows))) && not (is_given (codes "live") rows)

-- how a journal is kept was said without one
abbrev pub is_journal_missing : List Row → Bool
is_journal_missing rows = is_some (sync_in rows) && not (is_some (first_of (codes "journal") rows))

-- An audit is alone, and so are answers as records come; what goes with either isn't asked for without it.
abbrev pub IsWellMixed : List Row → Type 0
IsWellMixed rows = (is_audit_mixed rows ≡ false) × (is_live_mixed rows ≡ false) × (is_results_alone rows ≡ false)
    × (is_live_missing rows ≡ false) × (is_journal_missing rows ≡ false)

-- Why options that have no fault of their own say no task. The arguments that options were given come first, then what
-- is beside an audit, then what is beside answers as records come, then what goes with either and was asked for without
-- it.
abbrev pub RefusesTask : List Row → ArgumentsFault → Type 0
RefusesTask rows (Parse error) = HasKind (task_kinds rows) error
RefusesTask rows AuditNotAlone = (task_kinds rows ≡ []) × (is_audit_mixed rows ≡ true)
RefusesTask rows LiveNotAlone =
    (task_kinds rows ≡ []) × (is_audit_mixed rows ≡ false) × (is_live_mixed rows ≡ true)
RefusesTask rows ResultsWithoutAudit = (task_kinds rows ≡ []) × (is_audit_mixed rows ≡ false)
    × (is_live_mixed rows ≡ false) × (is_results_alone rows ≡ true)
RefusesTask rows WithoutLive = (task_kinds rows ≡ []) × (is_audit_mixed rows ≡ false)
    × (is_live_mixed rows ≡ false) × (is_results_alone rows ≡ false) × (is_live_missing rows ≡ true)
RefusesTask rows SyncWithoutJournal = (task_kinds rows ≡ []) × (is_audit_mixed rows ≡ false)
    × (is_live_mixed rows ≡ false) × (is_results_alone rows ≡ false) × (is_live_missing rows ≡ false)
    × (is_journal_missing rows ≡ true)
