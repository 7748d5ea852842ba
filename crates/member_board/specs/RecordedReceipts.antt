-- What receipts are in the history of a closed board.
use Rattle.std.specs.Prelude.{◌≡◌, ℕ, ◌+◌, List, [], ◌∷◌, Some, slice_get}
use Rattle.auction_terms.specs.declared.Config.{Config}
use Rattle.auction_terms.specs.declared.Command.{Command}
use Rattle.auction_terms.specs.declared.Entry.{Entry}
use Rattle.auction_terms.specs.Day.{IsLegal, calls_of}
use Rattle.board_terms.specs.MemberView.{MemberView}
use Rattle.board_terms.specs.CallsAndLooks.{entry}
use Rattle.board_terms.specs.Closings.{IsAccount}
use Rattle.board_terms.specs.declared.calls.Receipt.{Receipt}
use Rattle.member_board.specs.PlaysScript.{PlayedScript, PlaysScript}

-- the entry at this number, from 1
abbrev pub IsEntryAt : List Entry → ℕ → Entry → Type 0
IsEntryAt history number e = (k : ℕ) × (number ≡ k + 1) × (slice_get history k ≡ Some e)

-- at each receipt's number the history has the member's command with the receipt's reply
abbrev pub AreRecorded : List Entry → ℕ → List Receipt → List Command → Type 0
AreRecorded history m [] xs = Unit {0}
AreRecorded history m (r ∷ rs) [] = ⊥
AreRecorded history m (r ∷ rs) (x ∷ xs) =
    IsEntryAt history r.number (entry m x r.reply) × AreRecorded history m rs xs

-- the receipts of a script are entries of each legal history that has an account of its member, as a closing has
abbrev pub ReceiptsAreRecorded : Type 0
ReceiptsAreRecorded = (c : Config) (old : MemberView) (commands : List Command) (run : PlayedScript)
    (history : List Entry)
    → PlaysScript c old commands run → IsLegal c history → IsAccount (calls_of history) run.member
    → AreRecorded history old.number run.receipts commands
