-- Command lines, as the definitions read them.
use Rattle.std.proofs.Common.{◌≡◌, true, false, refl, List, [], ◌∷◌, Some, None, codes, ap, sym}
use Rattle.std.specs.Borrow.{Bor}
use Rattle.clap.specs.Walk.{Text}
use Rattle.clap.specs.Kinds.{Kinds}
use Rattle.clap.specs.declared.error.kind.ErrorKind.TheVariants as kind
use Rattle.clap.proofs.OnLiterals.{clap_on_literals}
use Rattle.settings.specs.Options.{callboard}
use Rattle.settings.specs.CommandLine.{AcceptsArguments, RefusesArguments, argument_kinds}
use Rattle.settings.specs.declared.fault.ArgumentsFault.TheVariants.{AuditNotAlone, LiveNotAlone, ResultsWithoutAudit}
use Rattle.settings.specs.declared.fault.ArgumentsFault.TheVariants.{SyncWithoutJournal, WithoutLive}
use Rattle.settings.specs.declared.types.FloorForm.TheVariants as floor
use Rattle.settings.specs.declared.types.Form.TheVariants.{Lines, Listing}
use Rattle.settings.specs.declared.types.Listing.TheVariants.{Journal, Trades, Book}
use Rattle.settings.specs.declared.types.Settings.{Settings}
use Rattle.settings.specs.declared.types.Task.TheVariants.{Audit, Floor, Live, Run}

-- the settings where no word is given
abbrev plain : Settings
plain = record {
  config = record { low = 1; high = 1000; reference = 200; max_open = 4096; max_calls = 65536; range = None };
  members = 4;
  task = Run Lines;
  journal = None;
}

-- no word
no_arguments : AcceptsArguments (codes "callboard" ∷ []) plain
unfolding callboard clap_on_literals
no_arguments = (
  refl,
  record {
    low = refl;
    high = refl;
    reference = refl;
    max_open = refl;
    max_calls = refl;
    range =
        refl;
    members = refl;
    task = refl;
    journal = refl;
    synced = tt;
  },
  (refl, refl, refl, refl, refl),
)

-- `--low 5 --floor`
low_and_floor : AcceptsArguments (codes "callboard" ∷ codes "--low" ∷ codes "5" ∷ codes "--floor" ∷ [])
    (record plain { config = record plain.config { low = 5 }; task = Floor floor.Tally })
unfolding callboard clap_on_literals
low_and_floor = (
  refl,
  record {
    low = refl;
    high = refl;
    reference = refl;
    max_open = refl;
    max_calls = refl;
    range =
        refl;
    members = refl;
    task = refl;
    journal = refl;
    synced = tt;
  },
  (refl, refl, refl, refl, refl),
)

-- `--range 0`
range_of_zero : AcceptsArguments (codes "callboard" ∷ codes "--range" ∷ codes "0" ∷ []) (record plain {
  config =
      record plain.config { range = Some 0 };
})
unfolding callboard clap_on_literals
range_of_zero = (
  refl,
  record {
    low = refl;
    high = refl;
    reference = refl;
    max_open = refl;
    max_calls = refl;
    range =
        refl;
    members = refl;
    task = refl;
    journal = refl;
    synced = tt;
  },
  (refl, refl, refl, refl, refl),
)

-- each option of a run
every_option : AcceptsArguments (codes "callboard" ∷ codes "--low" ∷ codes "5" ∷ codes "--high=6" ∷ codes "--reference"
    ∷ codes "1000000" ∷ codes "--members=64" ∷ codes "--open" ∷ codes "65536"
    ∷ codes "--calls" ∷ codes "1048576" ∷ codes "--range=7" ∷ codes "--floor" ∷ codes "--history"
    ∷ codes "--print=journal" ∷ [])
    (record {
      config = record { low = 5; high = 6; reference = 1000000; max_open = 65536; max_calls = 1048576; range = Some 7 };
      members = 64;
      task = Floor (floor.Listing Journal);
      journal = None;
    })
unfolding callboard clap_on_literals
every_option = (
  refl,
  record {
    low = refl;
    high = refl;
    reference = refl;
    max_open = refl;
    max_calls = refl;
    range =
        refl;
    members = refl;
    task = refl;
    journal = refl;
    synced = tt;
  },
  (refl, refl, refl, refl, refl),
)

-- `--print lines`
lines_asked_for : AcceptsArguments (codes "callboard" ∷ codes "--print" ∷ codes "lines" ∷ []) plain
unfolding callboard clap_on_literals
lines_asked_for = (
  refl,
  record {
    low = refl;
    high = refl;
    reference = refl;
    max_open = refl;
    max_calls = refl;
    range =
        refl;
    members = refl;
    task = refl;
    journal = refl;
    synced = tt;
  },
  (refl, refl, refl, refl, refl),
)

-- `--print trades`
trades_asked_for : AcceptsArguments (codes "callboard" ∷ codes "--print" ∷ codes "trades" ∷ []) (record plain {
  task =
      Run (Listing Trades);
})
unfolding callboard clap_on_literals
trades_asked_for = (
  refl,
  record {
    low = refl;
    high = refl;
    reference = refl;
    max_open = refl;
    max_calls = refl;
    range =
        refl;
    members = refl;
    task = refl;
    journal = refl;
    synced = tt;
  },
  (refl, refl, refl, refl, refl),
)

-- `--floor --print book`
book_of_a_floor : AcceptsArguments (codes "callboard" ∷ codes "--floor" ∷ codes "--print" ∷ codes "book" ∷ [])
    (record plain { task = Floor (floor.Listing Book) })
unfolding callboard clap_on_literals
book_of_a_floor = (
  refl,
  record {
    low = refl;
    high = refl;
    reference = refl;
    max_open = refl;
    max_calls = refl;
    range =
        refl;
    members = refl;
    task = refl;
    journal = refl;
    synced = tt;
  },
  (refl, refl, refl, refl, refl),
)

-- `--floor --history`
floor_and_history : AcceptsArguments (codes "callboard" ∷ codes "--floor" ∷ codes "--history" ∷ []) (record plain {
  task =
      Floor floor.History;
})
unfolding callboard clap_on_literals
floor_and_history = (
  refl,
  record {
    low = refl;
    high = refl;
    reference = refl;
    max_open = refl;
    max_calls =
        refl;
    range = refl;
    members = refl;
    task = refl;
    journal = refl;
    synced = tt;
  },
  (refl, refl, refl, refl, refl),
)

-- `--history` alone: without a board there is no history to print
history_alone : AcceptsArguments (codes "callboard" ∷ codes "--history" ∷ []) plain
unfolding callboard clap_on_literals
history_alone = (
  refl,
  record {
    low = refl;
    high = refl;
    reference = refl;
    max_open = refl;
    max_calls = refl;
    range =
        refl;
    members = refl;
    task = refl;
    journal = refl;
    synced = tt;
  },
  (refl, refl, refl, refl, refl),
)

-- `--audit`
audit_alone : AcceptsArguments (codes "callboard" ∷ codes "--audit" ∷ codes "--members" ∷ codes "2" ∷ [])
    (record plain { members = 2; task = Audit false })
unfolding callboard clap_on_literals
audit_alone = (
  refl,
  record {
    low = refl;
    high = refl;
    reference = refl;
    max_open = refl;
    max_calls = refl;
    range =
        refl;
    members = refl;
    task = refl;
    journal = refl;
    synced = tt;
  },
  (refl, refl, refl, refl, refl),
)

-- and its results too
audit_with_results : AcceptsArguments
    (codes "callboard" ∷ codes "--results" ∷ codes "--audit" ∷ codes "--members" ∷ codes "2" ∷ [])
    (record plain { members = 2; task = Audit true })
unfolding callboard clap_on_literals
audit_with_results = (
  refl,
  record {
    low = refl;
    high = refl;
    reference = refl;
    max_open = refl;
    max_calls = refl;
    range =
        refl;
    members = refl;
    task = refl;
    journal = refl;
    synced = tt;
  },
  (refl, refl, refl, refl, refl),
)

-- `--live`, also with the lines
live_asked_for : AcceptsArguments
    (codes "callboard" ∷ codes "--live" ∷ codes "--print" ∷ codes "lines" ∷ codes "--range"
    ∷ codes "3" ∷ [])
    (record plain { config = record plain.config { range = Some 3 }; task = Live 16 })
unfolding callboard clap_on_literals
live_asked_for = (
  refl,
  record {
    low = refl;
    high = refl;
    reference = refl;
    max_open = refl;
    max_calls = refl;
    range =
        refl;
    members = refl;
    task = refl;
    journal = refl;
    synced = tt;
  },
  (refl, refl, refl, refl, refl),
)

-- `--live --reserve 3`
reserve_asked_for : AcceptsArguments (codes "callboard" ∷ codes "--live" ∷ codes "--reserve" ∷ codes "3" ∷ [])
    (record plain { task = Live 3 })
unfolding callboard clap_on_literals
reserve_asked_for = (
  refl,
  record {
    low = refl;
    high = refl;
    reference = refl;
    max_open = refl;
    max_calls = refl;
    range =
        refl;
    members = refl;
    task = refl;
    journal = refl;
    synced = tt;
  },
  (refl, refl, refl, refl, refl),
)

-- `--live --journal day.csv`, also with `--sync none`
journal_asked_for : (name : Bor Text) → name.now ≡ codes "day.csv"
    → AcceptsArguments (codes "callboard" ∷ codes "--live" ∷ codes "--journal" ∷ codes "day.csv" ∷ [])
    (record plain { task = Live 16; journal = Some (record { name = name; is_synced = true }) })
unfolding callboard clap_on_literals
journal_asked_for name is = (
  refl,
  record {
    low = refl;
    high = refl;
    reference = refl;
    max_open = refl;
    max_calls = refl;
    range =
        refl;
    members = refl;
    task = refl;
    journal = ap (λ (t : Text). Some t) (sym is);
    synced = refl;
  },
  (refl, refl, refl, refl, refl),
)

unsynced_asked_for : (name : Bor Text) → name.now ≡ codes "day.csv"
    → AcceptsArguments
    (codes "callboard" ∷ codes "--live" ∷ codes "--sync" ∷ codes "none" ∷ codes "--journal=day.csv" ∷ [])
    (record plain { task = Live 16; journal = Some (record { name = name; is_synced = false }) })
unfolding callboard clap_on_literals
unsynced_asked_for name is = (
  refl,
  record {
    low = refl;
    high = refl;
    reference = refl;
    max_open = refl;
    max_calls = refl;
    range =
        refl;
    members = refl;
    task = refl;
    journal = ap (λ (t : Text). Some t) (sym is);
    synced = refl;
  },
  (refl, refl, refl, refl, refl),
)

-- ---- arguments that are refused

-- the kinds of fault of the arguments after the program's name
abbrev faults : List Text → Kinds
faults arguments = argument_kinds (codes "callboard" ∷ arguments)

-- one member too many
members_65 : faults (codes "--members" ∷ codes "65" ∷ []) ≡ kind.ValueValidation ∷ []
unfolding callboard clap_on_literals
members_65 = refl

-- no tick is 0
low_0 : faults (codes "--low=0" ∷ []) ≡ kind.ValueValidation ∷ []
unfolding callboard clap_on_literals
low_0 = refl

-- an option without its number
low_alone : faults (codes "--low" ∷ []) ≡ kind.InvalidValue ∷ []
unfolding callboard clap_on_literals
low_alone = refl

-- a flag takes no word
floor_x : faults (codes "--floor" ∷ codes "x" ∷ []) ≡ kind.UnknownArgument ∷ []
unfolding callboard clap_on_literals
floor_x = refl

-- an option that there is not
nonsense : faults (codes "--nonsense" ∷ []) ≡ kind.UnknownArgument ∷ []
unfolding callboard clap_on_literals
nonsense = refl

-- an option twice
low_twice : faults (codes "--low" ∷ codes "5" ∷ codes "--low" ∷ codes "6" ∷ []) ≡ kind.ArgumentConflict ∷ []
unfolding callboard clap_on_literals
low_twice = refl

-- the help
help : faults (codes "--help" ∷ []) ≡ kind.DisplayHelp ∷ []
unfolding callboard clap_on_literals
help = refl

-- the version
version : faults (codes "--version" ∷ []) ≡ kind.DisplayVersion ∷ []
unfolding callboard clap_on_literals
version = refl

-- a form that there is not
print_nonsense : faults (codes "--print" ∷ codes "nonsense" ∷ []) ≡ kind.InvalidValue ∷ []
unfolding callboard clap_on_literals
print_nonsense = refl

-- an option without its word
print_alone : faults (codes "--print" ∷ []) ≡ kind.InvalidValue ∷ []
unfolding callboard clap_on_literals
print_alone = refl

-- an audit beside each option that it doesn't go with
audit_and_floor : RefusesArguments (codes "callboard" ∷ codes "--audit" ∷ codes "--floor" ∷ []) AuditNotAlone
unfolding callboard clap_on_literals
audit_and_floor = (refl, refl)

audit_and_history : RefusesArguments (codes "callboard" ∷ codes "--history" ∷ codes "--audit" ∷ []) AuditNotAlone
unfolding callboard clap_on_literals
audit_and_history = (refl, refl)

audit_and_lines : RefusesArguments (codes "callboard" ∷ codes "--audit" ∷ codes "--print=lines" ∷ []) AuditNotAlone
unfolding callboard clap_on_literals
audit_and_lines = (refl, refl)

-- and answers as records come beside each option that they don't go with
live_and_floor : RefusesArguments (codes "callboard" ∷ codes "--live" ∷ codes "--floor" ∷ []) LiveNotAlone
unfolding callboard clap_on_literals
live_and_floor = (refl, refl, refl)

live_and_history : RefusesArguments (codes "callboard" ∷ codes "--history" ∷ codes "--live" ∷ []) LiveNotAlone
unfolding callboard clap_on_literals
live_and_history = (refl, refl, refl)

live_and_audit : RefusesArguments (codes "callboard" ∷ codes "--live" ∷ codes "--audit" ∷ []) LiveNotAlone
unfolding callboard clap_on_literals
live_and_audit = (refl, refl, refl)

live_and_journal : RefusesArguments (codes "callboard" ∷ codes "--live" ∷ codes "--print=journal" ∷ []) LiveNotAlone
unfolding callboard clap_on_literals
live_and_journal = (refl, refl, refl)

-- the results of a day without its audit
results_alone : RefusesArguments (codes "callboard" ∷ codes "--results" ∷ []) ResultsWithoutAudit
unfolding callboard clap_on_literals
results_alone = (refl, refl, refl, refl)

-- and calls kept for the operator without answers as records come
reserve_alone : RefusesArguments (codes "callboard" ∷ codes "--reserve" ∷ codes "0" ∷ []) WithoutLive
unfolding callboard clap_on_literals
reserve_alone = (refl, refl, refl, refl, refl)

-- a journal without answers as records come, and how it is kept without one
journal_alone : RefusesArguments (codes "callboard" ∷ codes "--journal" ∷ codes "day.csv" ∷ []) WithoutLive
unfolding callboard clap_on_literals
journal_alone = (refl, refl, refl, refl, refl)

sync_alone : RefusesArguments (codes "callboard" ∷ codes "--live" ∷ codes "--sync" ∷ codes "none" ∷ [])
    SyncWithoutJournal
unfolding callboard clap_on_literals
sync_alone = (refl, refl, refl, refl, refl, refl)

-- it isn't kept in another way
sync_all : faults (codes "--live" ∷ codes "--journal" ∷ codes "day.csv" ∷ codes "--sync" ∷ codes "all" ∷ [])
    ≡ kind.InvalidValue ∷ []
unfolding callboard clap_on_literals
sync_all = refl

-- one call too many
reserve_1048577 : faults (codes "--live" ∷ codes "--reserve" ∷ codes "1048577" ∷ []) ≡ kind.ValueValidation ∷ []
unfolding callboard clap_on_literals
reserve_1048577 = refl
