-- What is known of an open file of the file system: the calls that were made on it, and whether it is synced.
use Rattle.std.specs.Prelude.{Bool, true, false}
use Rattle.journal_file.specs.declared.file.Opened.{Opened}
use Rattle.journal_file.specs.declared.file.Syncing.{Syncing}
use Rattle.journal_file.specs.declared.file.Syncing.TheVariants.{Each, Never}
use Rattle.journal_file.specs.declared.raw_file.RawFile.{Ghosts}
use Rattle.journal_file.specs.declared.tracked.Tracked.{Tracked}

abbrev pub opened_file : Ghosts Opened
opened_file = record { calls = λ file. file.calls.events }

abbrev pub is_each : Syncing → Bool
is_each Each = true
is_each Never = false

-- each sync that is asked of it is made
abbrev pub has_syncs : Tracked Opened → Bool
has_syncs device = is_each device.file.handle.syncing
