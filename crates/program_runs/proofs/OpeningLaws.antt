-- An auction or a board that was opened, or refused.
use Rattle.std.specs.Prelude.{if◌then◌else◌}
use Rattle.std.proofs.Common.{◌≡◌, ◌≤◌, ◌||◌, ◌==◌, ℕ, nat_lt, Bool, true, false, Option, Some, None, Result, Ok, Err}
use Rattle.std.proofs.Common.{IfErr, IfSome, refl, ap, sym, ◌∙◌, unwrap_or}
use Rattle.std.proofs.lemmas.Bool.{ltb-false, or_parts}
use Rattle.auction.specs.declared.OpenFault.{OpenFault}
use Rattle.auction.specs.declared.OpenFault.TheVariants.{BadBounds, BadReference, BadCapacity, NoMemory}
use Rattle.auction.specs.ConfigFault.{has_bad_bounds, has_bad_capacity, has_bad_reference, open_fault}
use Rattle.auction_terms.specs.declared.Config.{Config}
use Rattle.auction_terms.specs.declared.limits.TheConstants.{MAX_CALLS, MAX_OPEN_ORDERS}
use Rattle.board_terms.specs.BoardOpening.{board_fault, has_bad_members}
use Rattle.program_runs.specs.declared.fault.Fault.{Fault}
use Rattle.program_runs.specs.declared.fault.Fault.TheVariants as fault
use Rattle.program_runs.specs.FileRun.{OpensUnless}
use Rattle.program_runs.specs.PlayedDay.{IsOfDay}

-- an opening that wasn't refused had no fault
pub none_refused : {X : Type 0} (o : Option OpenFault) (r : Result X OpenFault) (x : X) → r ≡ Ok x
    → IfSome o (λ fault. r ≡ Err fault) → o ≡ None
none_refused None r x is refused = refl
none_refused (Some fault) r x is refused = absurd cc

-- what was opened had nothing against it, whatever came of its day
pub opens_board : {X : Type 0} (reason : Option OpenFault) (r : Result X Fault) → reason ≡ None → IfErr r IsOfDay
    → OpensUnless reason r
opens_board reason (Ok x) none h = none
opens_board reason (Err (fault.File f)) none h = tt
opens_board reason (Err (fault.Open f)) none h = h ∙ ap (λ o. unwrap_or o NoMemory) (sym none)
opens_board reason (Err fault.NoMemory) none h = none
opens_board reason (Err fault.NotClosed) none h = none
opens_board reason (Err fault.WriteFailed) none h = none

none_holds : (b r l : Bool) → (if b then Some BadBounds else if r then Some BadReference else if l then Some BadCapacity
    else None) ≡ None → l ≡ false
none_holds true r l e = absurd cc
none_holds false true l e = absurd cc
none_holds false false true e = absurd cc
none_holds false false false e = refl

-- how many calls a board has at most
pub few_calls : (config : Config) (members : ℕ) → board_fault config members ≡ None → config.max_calls ≤ MAX_CALLS
unfolding board_fault
few_calls config members none =
    let limits : (has_bad_capacity config || has_bad_members members) ≡ false =
    none_holds (has_bad_bounds config) (has_bad_reference config) (has_bad_capacity config
    || has_bad_members members) none in
    let all = or_parts (has_bad_capacity config) (has_bad_members members) limits in
    let last =
    or_parts ((config.max_open == 0) || nat_lt MAX_OPEN_ORDERS config.max_open || (config.max_calls == 0))
    (nat_lt MAX_CALLS config.max_calls) all.0 in
    ltb-false MAX_CALLS config.max_calls last.1

auction_opens : (b r l m : Bool)
    → (if b then Some BadBounds else if r then Some BadReference else if l || m then Some BadCapacity else None) ≡ None
    → (if b then Some BadBounds else if r then Some BadReference else if l then Some BadCapacity else None) ≡ None
auction_opens true r l m e = absurd cc
auction_opens false true l m e = absurd cc
auction_opens false false true m e = absurd cc
auction_opens false false false m e = refl

-- what a board can be opened with, an auction can
pub opens_auction : (config : Config) (members : ℕ) → board_fault config members ≡ None → open_fault config ≡ None
unfolding board_fault open_fault
opens_auction config members none =
    auction_opens (has_bad_bounds config) (has_bad_reference config) (has_bad_capacity config) (has_bad_members members)
    none
