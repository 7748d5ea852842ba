-- What a day on a board comes to, on which members play scripts.
use Rattle.std.specs.Prelude.{◌≡◌, ◌⊎◌, ℕ, List, All, length, slice_index, sum, Option, Some, None}
use Rattle.auction_terms.specs.declared.Config.{Config}
use Rattle.auction_terms.specs.Day.{IsLegal, calls_of}
use Rattle.auction.specs.declared.OpenFault.TheVariants.{NoMemory}
use Rattle.board_terms.specs.declared.closing.Closing.{Closing}
use Rattle.member_board.specs.declared.script.Script.{Script}
use Rattle.member_board.specs.declared.threads.RunFault.{RunFault}
use Rattle.member_board.specs.declared.threads.RunFault.TheVariants as run
use Rattle.member_board.specs.PlaysScript.{PlayedScript}
use Rattle.program_runs.specs.declared.fault.Fault.{Fault}
use Rattle.program_runs.specs.declared.fault.Fault.TheVariants as fault
use Rattle.program_runs.specs.BoardRun.{commands_of}

-- the script was played to its end
abbrev pub IsWhole : PlayedScript → Type 0
IsWhole p = p.fault ≡ None

-- Why the day isn't to be closed after a run, if there is a reason. What keeps it open, a thread that couldn't be
-- started or a call that wasn't recorded, comes before refused memory.
abbrev pub IsFaultAfter : Option RunFault → List PlayedScript → Option Fault → Type 0
IsFaultAfter refused played None = (refused ≡ None) × All IsWhole played
IsFaultAfter refused played (Some fault.NotClosed) = (refused ≡ Some run.NoThread) ⊎ (All IsWhole played → ⊥)
IsFaultAfter refused played (Some fault.NoMemory) = (refused ≡ Some run.NoMemory) × All IsWhole played
IsFaultAfter refused played (Some f) = ⊥

-- Why the day wasn't closed after a run. A member that is missing or ahead keeps it open too.
abbrev pub IsUnclosedFault : Option RunFault → List PlayedScript → Fault → Type 0
IsUnclosedFault refused played f =
    IsFaultAfter refused played (Some f) ⊎ (IsFaultAfter refused played None × (f ≡ fault.NotClosed))

-- Each script was played from its first command to its last: the history is legal and has no other calls, and of each
-- script's member it has the script's commands, in their order.
pub record IsPlayedOut (config : Config) (members : ℕ) (scripts : List Script) (closing : Closing) : Type 0 where
  pub legal : IsLegal config closing.history.items
  pub whole : length closing.history.items ≡ sum closing.calls.items
  pub wide : length closing.calls.items ≡ members
  pub counts : All (λ (s : Script). slice_index closing.calls.items s.member ≡ length s.commands.items) scripts
  pub commands : All (λ (s : Script). commands_of s.member (calls_of closing.history.items) ≡ s.commands.items) scripts

-- a fault of a day that has begun
abbrev pub IsOfBoard : Fault → Type 0
IsOfBoard fault.NoMemory = Unit {0}
IsOfBoard fault.NotClosed = Unit {0}
IsOfBoard f = ⊥

-- a fault of a day, from its beginning to its closing
abbrev pub IsOfDay : Fault → Type 0
IsOfDay (fault.Open f) = f ≡ NoMemory
IsOfDay fault.NoMemory = Unit {0}
IsOfDay fault.NotClosed = Unit {0}
IsOfDay f = ⊥

-- a fault neither of the file nor of a write
abbrev pub IsOfOpeningOrDay : Fault → Type 0
IsOfOpeningOrDay (fault.File f) = ⊥
IsOfOpeningOrDay fault.WriteFailed = ⊥
IsOfOpeningOrDay f = Unit {0}
