-- A day that was closed.
use Rattle.std.proofs.Common.{◌≡◌, ℕ, ◌+◌, ◌<◌, ◌≤◌, List, [], ◌∷◌, ◌++◌, All, get_or, length, map}
use Rattle.std.proofs.Common.{slice_index, sum, take, drop, length-append, inl, inr, ◌⊎◌, Option, None, Some}
use Rattle.std.proofs.Common.{MatchOption, Result, Ok, Err, IfOk, refl, ap, sym, subst, ◌∙◌, arith}
use Rattle.std.specs.Prelude.{IfErr}
use Rattle.std.proofs.lemmas.Bool.{cases_lt}
use Rattle.std.proofs.lemmas.List.{length-map, take-append-drop}
use Rattle.std.proofs.lemmas.List.Elements.{All-cons, All-head, All-nil, All-tail}
use Rattle.std.proofs.lemmas.List.FromFn.{fill_by_all, get_or-map-range_with_len, length-map-range_with_len}
use Rattle.order_file.specs.File.{IsBelow}
use Rattle.auction_terms.specs.declared.Call.{Call}
use Rattle.auction_terms.specs.declared.Config.{Config}
use Rattle.auction_terms.specs.declared.Entry.{Entry}
use Rattle.auction_terms.specs.Day.{State, IsLegal, call_of, calls_of, opening_state, replies_from, step}
use Rattle.auction.specs.Audits.{IsFirstBad}
use Rattle.board_terms.specs.Closings.{IsAccount, IsClosing}
use Rattle.board_terms.specs.BoardOpening.{newcomers}
use Rattle.board_terms.specs.MemberView.{PlacedCall, MemberView}
use Rattle.board_terms.specs.declared.closing.Closing.{Closing}
use Rattle.member_board.specs.declared.script.Script.{Script}
use Rattle.member_board.specs.declared.threads.RunFault.{RunFault}
use Rattle.member_board.specs.PlaysScript.{AllPlayScripts, FitsMembers, PlayedScript, PlaysScript, HaveSameNumbers}
use Rattle.member_board.specs.PlaysScript.{recorded_calls}
use Rattle.program_runs.specs.declared.fault.Fault.{Fault}
use Rattle.program_runs.specs.declared.fault.Fault.TheVariants as fault
use Rattle.program_runs.specs.BoardRun.{IsDayOf, IsSplit, commands_of, calls_of_members}
use Rattle.program_runs.specs.PlayedDay.{IsFaultAfter, IsOfBoard, IsPlayedOut, IsUnclosedFault, IsWhole}
use Rattle.program_runs.proofs.SplitLaws.{IsNewMember, all_new, at_each, calls_of_from, none_beyond, none_from}
use Rattle.program_runs.proofs.SplitLaws.{own_commands, recorded_commands, sum_counts}

-- ---- the end of a run

of_board : (refused : Option RunFault) (rs : List PlayedScript) (f : Fault) → IsUnclosedFault refused rs f → IsOfBoard f
of_board refused rs fault.NoMemory h = tt
of_board refused rs fault.NotClosed h = tt
of_board refused rs fault.WriteFailed (inl h) = absurd h
of_board refused rs fault.WriteFailed (inr h) = absurd (cc (h.1))
of_board refused rs (fault.File f) (inl h) = absurd h
of_board refused rs (fault.File f) (inr h) = absurd (cc (h.1))
of_board refused rs (fault.Open f) (inl h) = absurd h
of_board refused rs (fault.Open f) (inr h) = absurd (cc (h.1))

pub unclosed : {X : Type 0} (refused : Option RunFault) (rs : List PlayedScript) (r : Result X Fault)
    → IfErr r (IsUnclosedFault refused rs) → IfErr r IsOfBoard
unclosed refused rs (Ok x) h = tt
unclosed refused rs (Err f) h = of_board refused rs f h

-- ---- what the closing has of each script

-- the count is the member's, and its calls in the story are its own
abbrev HasCountedCalls : List ℕ → List Call → MemberView → Type 0
HasCountedCalls counts story m = (slice_index counts m.number ≡ m.calls) × IsAccount story m

-- the count and the calls of the script's member are those of the script
abbrev HasScriptCalls : List ℕ → List Call → Script → Type 0
HasScriptCalls counts story s =
    (slice_index counts s.member ≡ length s.commands.items) × (commands_of s.member story ≡ s.commands.items)

played_script-calls : (c : Config) (counts : List ℕ) (story : List Call) (m : MemberView) (s : Script)
    (r : PlayedScript) → PlaysScript c m s.commands.items r → m.number ≡ s.member → IsNewMember m → IsWhole r
    → HasCountedCalls counts story r.member → HasScriptCalls counts story s
played_script-calls c counts story m s r plays same new whole told =
    let many : length r.receipts ≡ length s.commands.items = plays.whole whole in
    let number : r.member.number ≡ s.member = plays.number ∙ same in
    let count : slice_index counts r.member.number ≡ length s.commands.items =
    omega (arith, told.0, plays.calls, new.0, many) in
    let mine : r.member.mine ≡ recorded_calls r.receipts s.commands.items =
    plays.mine ∙ ap (λ t. t ++ recorded_calls r.receipts s.commands.items) new.1 in
    let commands : commands_of r.member.number story ≡ s.commands.items =
    sym (own_commands 1 story r.member.number) ∙ ap (map (λ (y : PlacedCall). y.command)) (told.1.own_calls ∙ mine)
    ∙ recorded_commands r.receipts s.commands.items many in (
      subst (λ (k : ℕ). slice_index counts k ≡ length s.commands.items) number count,
      subst (λ (k : ℕ). commands_of k story ≡ s.commands.items) number commands,
    )

all-played_script-calls : (c : Config) (counts : List ℕ) (story : List Call) (ms : List MemberView) (ss : List Script)
    (rs : List PlayedScript)
    → AllPlayScripts c ms ss rs → HaveSameNumbers ms ss → All IsNewMember ms → All IsWhole rs
    → All (HasCountedCalls counts story) (map (λ (p : PlayedScript). p.member) rs)
    → All (HasScriptCalls counts story) ss
all-played_script-calls c counts story [] [] rs plays same new whole told = All-nil (HasScriptCalls counts story)
all-played_script-calls c counts story [] (s ∷ ss) rs plays same new whole told = absurd same
all-played_script-calls c counts story (m ∷ ms) [] rs plays same new whole told = absurd same
all-played_script-calls c counts story (m ∷ ms) (s ∷ ss) [] plays same new whole told = absurd plays
all-played_script-calls c counts story (m ∷ ms) (s ∷ ss) (r ∷ rs) plays same new whole told =
    let members : List MemberView = map (λ (p : PlayedScript). p.member) rs in
    All-cons (HasScriptCalls counts story) s ss
    (played_script-calls c counts story m s r plays.0 same.0 (All-head IsNewMember m ms new)
    (All-head IsWhole r rs whole)
    (All-head (HasCountedCalls counts story) r.member members told))
    (all-played_script-calls c counts story ms ss rs plays.1 same.1 (All-tail IsNewMember m ms new)
    (All-tail IsWhole r rs whole) (All-tail (HasCountedCalls counts story) r.member members told))

pub as_many : (c : Config) (ms : List MemberView) (ss : List Script) (rs : List PlayedScript)
    → AllPlayScripts c ms ss rs → length rs ≡ length ms
as_many c [] [] [] plays = refl
as_many c [] [] (r ∷ rs) plays = absurd plays
as_many c [] (s ∷ ss) rs plays = absurd plays
as_many c (m ∷ ms) [] rs plays = absurd plays
as_many c (m ∷ ms) (s ∷ ss) [] plays = absurd plays
as_many c (m ∷ ms) (s ∷ ss) (r ∷ rs) plays = omega (arith, as_many c ms ss rs plays.1)

played_out : (c : Config) (n : ℕ) (ms : List MemberView) (ss : List Script) (rs : List PlayedScript) (closing : Closing)
    → ms ≡ newcomers n → FitsMembers ms ss → AllPlayScripts c ms ss rs → All IsWhole rs
    → IsClosing c n (map (λ (p : PlayedScript). p.member) rs) closing
    → All (IsAccount (calls_of closing.history.items)) (map (λ (p : PlayedScript). p.member) rs)
    → IsPlayedOut c n ss closing
played_out c n ms ss rs closing is_new fit plays whole closed accounts =
    let counts : List ℕ = closing.calls.items in
    let story : List Call = calls_of closing.history.items in
    let told : All (HasCountedCalls counts story) (map (λ (p : PlayedScript). p.member) rs) =
    λ j d lt. (closed.each j d lt, accounts j d lt) in
    let all : All (HasScriptCalls counts story) ss =
    all-played_script-calls c counts story ms ss rs plays fit.numbers (subst (All IsNewMember) (sym is_new) (all_new n))
    whole told in
    record {
      legal = closed.legal;
      whole = closed.whole;
      wide = closed.counts;
      counts = λ j d lt. (all j d lt).0;
      commands = λ j d lt. (all j d lt).1;
    }

pub closed_out : {U : Type 0} (c : Config) (n : ℕ) (ms : List MemberView) (ss : List Script) (f : Option RunFault)
    (rs : List PlayedScript) (r : Result Closing Fault)
    → ms ≡ newcomers n → FitsMembers ms ss → (f ≡ None → U × AllPlayScripts c ms ss rs)
    → IfOk r (λ _. IsFaultAfter f rs None)
    → IfOk r (IsClosing c n (map (λ (p : PlayedScript). p.member) rs))
    → IfOk r (λ closing. All (IsAccount (calls_of closing.history.items)) (map (λ (p : PlayedScript). p.member) rs))
    → IfOk r (IsPlayedOut c n ss)
closed_out c n ms ss f rs (Ok closing) is_new fit all none closed accounts =
    played_out c n ms ss rs closing is_new fit (all none.0).1 none.1 closed accounts
closed_out c n ms ss f rs (Err e) is_new fit all none closed accounts = tt

-- ---- the closing of a day of a file's calls

abbrev count_in : List Call → ℕ → ℕ
count_in calls k = length (commands_of k calls)

-- the same commands of each member are as many
same_counts : (n : ℕ) (xs ys : List Call) → ((k : ℕ) → k < n → commands_of k ys ≡ commands_of k xs)
    → calls_of_members n ys ≡ calls_of_members n xs
same_counts n xs ys same =
    fill_by_all (count_in xs) (calls_of_members n ys) n 0 (length-map-range_with_len (count_in ys) 0 n)
    (λ k lt. get_or-map-range_with_len (count_in ys) 0 n k k 0 lt (omega arith) ∙ ap length (same k lt))

same_commands : (n k : ℕ) (xs ys : List Call) → ((j : ℕ) → j < n → commands_of j ys ≡ commands_of j xs)
    → length (calls_of_from n xs) ≡ 0 → length (calls_of_from n ys) ≡ 0 → (k < n) ⊎ (n ≤ k)
    → commands_of k ys ≡ commands_of k xs
same_commands n k xs ys same none_x none_y (inl lt) = same k lt
same_commands n k xs ys same none_x none_y (inr le) = none_beyond n k ys le none_y ∙ sym (none_beyond n k xs le none_x)

day_of_closing : (c : Config) (n : ℕ) (calls : List Call) (ss : List Script) (closing : Closing) → IsSplit n calls ss
    → All (IsBelow n) calls → IsPlayedOut c n ss closing → IsDayOf c n calls closing
day_of_closing c n calls ss closing split below out =
    let counts : List ℕ = closing.calls.items in
    let entries : List Entry = closing.history.items in
    let story : List Call = calls_of entries in
    let count : (k : ℕ) → k < n → get_or counts k 0 ≡ count_in calls k =
    at_each (λ k. get_or counts k 0 ≡ count_in calls k) n ss split.numbers (λ j d lt. out.counts j d lt
    ∙ ap length (split.commands j d lt)) in
    let same : (k : ℕ) → k < n → commands_of k story ≡ commands_of k calls =
    at_each (λ k. commands_of k story ≡ commands_of k calls) n ss split.numbers (λ j d lt. out.commands j d lt
    ∙ split.commands j d lt) in
    let is_counts : counts ≡ calls_of_members n calls = fill_by_all (count_in calls) counts n 0 out.wide count in
    let none : length (calls_of_from n calls) ≡ 0 = none_from n calls below in
    let all : sum counts ≡ length calls = omega (arith, ap sum is_counts, sum_counts n calls, none) in
    let told : length story ≡ length entries = length-map {B = Call} entries call_of in
    let others : length (calls_of_from n story) ≡ 0 =
    omega (arith, sum_counts n story, ap sum (same_counts n calls story same), ap sum is_counts, told, out.whole) in
    record {
      history = record {
        legal = out.legal;
        commands = λ k. same_commands n k calls story same none others (cases_lt k n);
      };
      entries = omega (arith, out.whole, all);
      counts = is_counts;
    }

pub days_of : (c c' : Config) (n n' : ℕ) (calls : List Call) (ss : List Script) (r : Result Closing Fault) → c' ≡ c
    → n' ≡ n → IsSplit n calls ss → All (IsBelow n) calls → IfOk r (IsPlayedOut c' n' ss) → IfOk r (IsDayOf c n calls)
days_of c c' n n' calls ss (Ok closing) same many split below out =
    day_of_closing c n calls ss closing split below
    (subst (λ (m : ℕ). IsPlayedOut c m ss closing) many (subst (λ (d : Config). IsPlayedOut d n' ss closing) same out))
days_of c c' n n' calls ss (Err f) same many split below out = tt

-- ---- the audit

begins_so : (c : Config) (state : State) (xs ys : List Entry) → map (λ (e : Entry). e.reply) (xs ++ ys)
    ≡ replies_from c state (calls_of (xs ++ ys)) → map (λ (e : Entry). e.reply) xs ≡ replies_from c state (calls_of xs)
begins_so c state [] ys e = refl
begins_so c state (x ∷ xs) ys e =
    let next : State = (step c state (call_of x)).0 in
    let first : x.reply ≡ (step c state (call_of x)).1 = cc (e) in
    let rest : map (λ (y : Entry). y.reply) (xs ++ ys) ≡ replies_from c next (calls_of (xs ++ ys)) = cc (e) in
    λ i. first i ∷ begins_so c next xs ys rest i

-- the beginning of a legal history is legal
legal_take : (c : Config) (n : ℕ) (entries : List Entry) → IsLegal c entries → IsLegal c (take n entries)
legal_take c n entries h =
    let whole : take n entries ++ drop n entries ≡ entries = take-append-drop n entries in
    record {
      few = omega (arith, h.few, ap length whole, length-append (take n entries) (drop n entries));
      replies =
          begins_so c (opening_state c) (take n entries) (drop n entries)
          (subst (λ xs. map (λ (e : Entry). e.reply) xs ≡ replies_from c (opening_state c) (calls_of xs)) (sym whole)
          h.replies);
    }

-- of a legal history no entry is found bad
pub none_bad : (c : Config) (entries : List Entry) (place : Option ℕ) → IsLegal c entries
    → MatchOption place (IsLegal c entries) (IsFirstBad c entries) → place ≡ None
none_bad c entries None legal found = refl
none_bad c entries (Some place) legal found = absurd (found.broken (legal_take c (place + 1) entries legal))
