-- The entries that were heard of a day.
use Rattle.std.proofs.Common.{◌≡◌, ◌++◌, ◌∷◌, ◌∙◌, [], List, map, Result, Ok, Err, refl, ap, subst}
use Rattle.auction_terms.specs.declared.Call.{Call}
use Rattle.auction_terms.specs.declared.Config.{Config}
use Rattle.auction_terms.specs.Day.{State, step}
use Rattle.auction_terms.specs.Results.{◌>>=◌}
use Rattle.auction_terms.specs.Auxiliary.RunningAuction.{RunningAuction}
use Rattle.journal.specs.EntryRecord.{RecordedCall, call_part}
use Rattle.journal.proofs.EntryLaws.{fails-alike}
use Rattle.order_file.specs.File.{FailsAsWanted}
use Rattle.order_file.specs.declared.fault.FileFault.{FileFault}
use Rattle.day_road.specs.Heard.{HeardEntry, HearsAll, after_all, heard_from}
use Rattle.day_road.specs.Inputs.{silent, silent_all}
use Rattle.program_runs.specs.RecordedEntries.{entries_heard}
use Rattle.day_tables.specs.AnsweredCalls.{entry_of}
use Rattle.program_runs.specs.Printed.{entries_from}

-- what was heard of calls
pub heard-entries : (config : Config) (state : State) (rs : List RecordedCall)
    → entries_heard (heard_from config state rs) ≡ entries_from config state (map call_part rs)
heard-entries config state [] = refl
heard-entries config state (r ∷ rs) =
    ap (λ es. entry_of r.call (step config state r.call).1 ∷ es)
    (heard-entries config (step config state r.call).0 rs)

-- ---- the calls of an order file

pub silent-calls : (calls : List Call) → map call_part (map silent calls) ≡ calls
silent-calls [] = refl
silent-calls (call ∷ calls) = ap (λ cs. call ∷ cs) (silent-calls calls)

pub heard-calls : (P : List HeardEntry → Type 0) (before : List HeardEntry) (old new : RunningAuction)
    (wanted : Result (List Call) FileFault) → HearsAll P before old new (wanted >>= silent_all) (Ok tt)
    → (calls : List Call) × (wanted ≡ Ok calls) × (new ≡ after_all old (map silent calls))
    × P (before ++ heard_from old.config old.state (map silent calls))
heard-calls P before old new (Ok calls) (recordings, is, came, holds) =
    let same : recordings ≡ map silent calls = cc (is) in (
      calls,
      refl,
      came ∙ ap (after_all old) same,
      subst P (ap (λ rs. before ++ heard_from old.config old.state rs) same) holds,
    )
heard-calls P before old new (Err e) (recordings, is, came, holds) = absurd (cc is)

pub heard-fault : (f : FileFault) (wanted : Result (List Call) FileFault) → FailsAsWanted f (wanted >>= silent_all)
    → FailsAsWanted f wanted
heard-fault f (Ok calls) fails =
    fails-alike f (Ok (map silent calls)) (Ok calls) (λ (e : Ok (map silent calls) ≡ Err f). absurd (cc e)) fails
heard-fault f (Err e) fails = fails-alike f (Err e) (Err e) (λ (is : Err e ≡ Err f). ap Err (cc is)) fails
