-- What playing scripts owes.
use Rattle.std.specs.Prelude.{◌≡◌, ◌≢◌, ◌⊎◌, ℕ, ◌+◌, ◌<◌, ◌≤◌, List, [], ◌∷◌, ◌++◌, All, length, map, take, drop}
use Rattle.std.specs.Prelude.{Option, None, Some}
use mathlib.Core.List.{IsPrefix}
use Rattle.auction_terms.specs.declared.limits.TheConstants.{MAX_CALLS}
use Rattle.auction_terms.specs.declared.Config.{Config}
use Rattle.auction_terms.specs.declared.Call.{Call}
use Rattle.auction_terms.specs.declared.Command.{Command}
use Rattle.auction_terms.specs.declared.Entry.{Entry}
use Rattle.auction_terms.specs.Day.{calls_of}
use Rattle.board_terms.specs.MemberView.{MemberView, PlacedCall, placed_call}
use Rattle.board_terms.specs.CallsAndLooks.{EndsWithCall}
use Rattle.board_terms.specs.declared.calls.Receipt.{Receipt}
use Rattle.board_terms.specs.declared.calls.CallFault.{CallFault}
use Rattle.board_terms.specs.declared.calls.CallFault.TheVariants.{HistoryFull, OutOfStep}
use Rattle.member_board.specs.declared.script.Script.{Script}

-- the calls of these receipts, each at its place
abbrev pub recorded_calls : List Receipt → List Command → List PlacedCall
recorded_calls [] xs = []
recorded_calls (r ∷ rs) [] = []
recorded_calls (r ∷ rs) (x ∷ xs) = placed_call r.number x ∷ recorded_calls rs xs

-- a legal history that begins with all that a member had seen, and ends with its call and the reply, at the receipt's
-- number
pub record EndsWithReceipt (c : Config) (seen : List Call) (m : ℕ) (x : Command) (r : Receipt) (h : List Entry) : Type 0
  where
    pub ends : EndsWithCall c h m x r
    pub begins : IsPrefix seen (calls_of ends.before)

-- The receipts answer the first of these commands, each by the history that its member had seen then. The first begins
-- with what the member had seen before its script, each other one with the one before it, and what the member has seen
-- at the end with the last.
abbrev pub AreAnswered : Config → ℕ → List Call → List Receipt → List Command → List Call → Type 0
AreAnswered c m before [] xs after = IsPrefix before after
AreAnswered c m before (r ∷ rs) [] after = ⊥
AreAnswered c m before (r ∷ rs) (x ∷ xs) after =
    (h : List Entry) × EndsWithReceipt c before m x r h × AreAnswered c m (calls_of h) rs xs after

-- what came of a script
pub record PlayedScript : Type 0 where
  pub member : MemberView
  pub receipts : List Receipt
  pub fault : Option CallFault

-- The member's calls are those of the receipts, and what it has seen has grown by them and by others' calls. Without a
-- fault the script was played to its end; where the history was full the member has seen a full history, and where it
-- was out of step it has seen more than the history has, or counted other calls.
pub record PlaysScript (c : Config) (old : MemberView) (commands : List Command) (run : PlayedScript) : Type 0 where
  pub number : run.member.number ≡ old.number
  pub calls : run.member.calls ≡ old.calls + length run.receipts
  pub mine : run.member.mine ≡ old.mine ++ recorded_calls run.receipts commands
  pub answered : AreAnswered c old.number old.seen run.receipts commands run.member.seen
  pub whole : run.fault ≡ None → length run.receipts ≡ length commands
  pub full : run.fault ≡ Some HistoryFull → c.max_calls ≤ length run.member.seen
  pub out_of_step : (h k : ℕ) → run.fault ≡ Some (OutOfStep h k) → (h < length run.member.seen) ⊎ (run.member.calls ≢ k)

-- a member with its script's commands
pub record MemberScript : Type 0 where
  pub member : MemberView
  pub commands : List Command

-- what came of each of these
abbrev pub EachPlaysScript : Config → List MemberScript → List PlayedScript → Type 0
EachPlaysScript c [] [] = Unit {0}
EachPlaysScript c [] (r ∷ rs) = ⊥
EachPlaysScript c (t ∷ ts) [] = ⊥
EachPlaysScript c (t ∷ ts) (r ∷ rs) = PlaysScript c t.member t.commands r × EachPlaysScript c ts rs

-- a script is no longer than a history may be
abbrev pub FitsHistory : Script → Type 0
FitsHistory script = length script.commands.items ≤ MAX_CALLS

-- the script at each place has the number of the member there
abbrev pub HaveSameNumbers : List MemberView → List Script → Type 0
HaveSameNumbers [] [] = Unit {0}
HaveSameNumbers [] (s ∷ ss) = ⊥
HaveSameNumbers (m ∷ ms) [] = ⊥
HaveSameNumbers (m ∷ ms) (s ∷ ss) = (m.number ≡ s.member) × HaveSameNumbers ms ss

-- the scripts are those of the members, and none is too long
pub record FitsMembers (members : List MemberView) (scripts : List Script) : Type 0 where
  pub numbers : HaveSameNumbers members scripts
  pub few : All FitsHistory scripts

-- what came of each script, in the same order
abbrev pub AllPlayScripts : Config → List MemberView → List Script → List PlayedScript → Type 0
AllPlayScripts c [] [] [] = Unit {0}
AllPlayScripts c [] [] (r ∷ rs) = ⊥
AllPlayScripts c [] (s ∷ ss) rs = ⊥
AllPlayScripts c (m ∷ ms) [] rs = ⊥
AllPlayScripts c (m ∷ ms) (s ∷ ss) [] = ⊥
AllPlayScripts c (m ∷ ms) (s ∷ ss) (r ∷ rs) = PlaysScript c m s.commands.items r × AllPlayScripts c ms ss rs

-- all scripts were played, and no member is left
abbrev pub HasPlayedAll : Config → List MemberView → List Script → List PlayedScript → List MemberView → Type 0
HasPlayedAll c members scripts played unplayed = (unplayed ≡ []) × AllPlayScripts c members scripts played

-- the scripts before a member that was lost were played, and the members after it are left
abbrev pub HasPlayedSome : Config → List MemberView → List Script → List PlayedScript → List MemberView → Type 0
HasPlayedSome c members scripts played unplayed =
    (n : ℕ) × AllPlayScripts c (take n members) (take n scripts) played × (unplayed ≡ drop (n + 1) members)

-- the same of tasks
abbrev pub HasPlayedAllTasks : Config → List MemberScript → List PlayedScript → List MemberView → Type 0
HasPlayedAllTasks c tasks played unplayed = (unplayed ≡ []) × EachPlaysScript c tasks played

abbrev pub HasPlayedSomeTasks : Config → List MemberScript → List PlayedScript → List MemberView → Type 0
HasPlayedSomeTasks c tasks played unplayed =
    (n : ℕ) × EachPlaysScript c (take n tasks) played
    × (unplayed ≡ map (λ (t : MemberScript). t.member) (drop (n + 1) tasks))
