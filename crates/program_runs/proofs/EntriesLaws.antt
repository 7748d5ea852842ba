-- The history of calls, entry by entry.
use Rattle.std.proofs.Common.{◌≡◌, ◌≤◌, List, [], ◌∷◌, length, map, ◌∙◌, refl, sym, ap, suc, arith}
use Rattle.std.proofs.lemmas.Grind.{common_steps}
use Rattle.auction_terms.specs.declared.Entry.{Entry}
use Rattle.auction_terms.specs.declared.Call.{Call}
use Rattle.auction_terms.specs.declared.Config.{Config}
use Rattle.auction_terms.specs.Day.{IsLegal, State, call_of, calls_of, opening_state, replay, replies_from, step}
use Rattle.program_runs.specs.Printed.{entries_from, history_of, reply_in}

-- its replies are those of the replay
history-replies : (config : Config) (state : State) (calls : List Call)
    → map reply_in (entries_from config state calls) ≡ replies_from config state calls
history-replies config state [] = refl
history-replies config state (call ∷ calls) =
    λ i. (step config state call).1 ∷ history-replies config (step config state call).0 calls i

-- its calls are these, and it has an entry for each
entries-calls : (config : Config) (state : State) (calls : List Call) → calls_of (entries_from config state calls)
    ≡ calls
entries-calls config state [] = refl
entries-calls config state (call ∷ calls) = λ i. call ∷ entries-calls config (step config state call).0 calls i

pub history-calls : (config : Config) (calls : List Call) → calls_of (history_of config calls) ≡ calls
history-calls config calls = entries-calls config (opening_state config) calls

entries-length : (config : Config) (state : State) (calls : List Call) → length (entries_from config state calls)
    ≡ length calls
entries-length config state [] = refl
entries-length config state (call ∷ calls) = ap suc (entries-length config (step config state call).0 calls)

-- and where there aren't too many, it is legal
pub history_legal : (config : Config) (calls : List Call) → length calls ≤ config.max_calls
    → IsLegal config (history_of config calls)
history_legal config calls few = record {
  few = rw (entries-length config (opening_state config) calls) few;
  replies =
      history-replies config (opening_state config) calls
      ∙ ap (λ cs. (replay config cs).1) (sym (history-calls config calls));
}

-- ---- a legal history

-- the entries of its calls are its own
entries-again : (config : Config) (state : State) (entries : List Entry)
    → map reply_in entries ≡ replies_from config state (calls_of entries)
    → entries_from config state (calls_of entries) ≡ entries
entries-again config state [] e = refl
entries-again config state (entry ∷ entries) e =
    let first : entry.reply ≡ (step config state (call_of entry)).1 = grind (arith, common_steps) in
    let rest : map reply_in entries ≡ replies_from config (step config state (call_of entry)).0 (calls_of entries) =
    grind (arith, common_steps) in
    rw (← first) (ap (λ es. entry ∷ es) (entries-again config (step config state (call_of entry)).0 entries rest))

pub legal-history : (config : Config) (entries : List Entry) → IsLegal config entries
    → history_of config (calls_of entries) ≡ entries
legal-history config entries legal = entries-again config (opening_state config) entries legal.replies
