-- The line that is printed of options that don't go together.
use Rattle.std.specs.Prelude.{ℕ, List, Option, Some, None, codes}
use Rattle.settings.specs.declared.fault.ArgumentsFault.{ArgumentsFault}
use Rattle.settings.specs.declared.fault.ArgumentsFault.TheVariants.{Parse, AuditNotAlone, LiveNotAlone}
use Rattle.settings.specs.declared.fault.ArgumentsFault.TheVariants.{ResultsWithoutAudit, SyncWithoutJournal}
use Rattle.settings.specs.declared.fault.ArgumentsFault.TheVariants.{WithoutLive}

-- the text of a parse is that of `clap`, of which no definition says what it is
abbrev pub arguments_fault_line : ArgumentsFault → Option (List ℕ)
arguments_fault_line (Parse error) = None
arguments_fault_line AuditNotAlone = Some (codes "--audit goes with none of --floor, --history and --print")
arguments_fault_line LiveNotAlone = Some (codes "--live prints lines, without --floor, --history or --audit")
arguments_fault_line ResultsWithoutAudit = Some (codes "--results goes with --audit")
arguments_fault_line WithoutLive = Some (codes "--reserve, --journal and --sync go with --live")
arguments_fault_line SyncWithoutJournal = Some (codes "--sync goes with --journal")
