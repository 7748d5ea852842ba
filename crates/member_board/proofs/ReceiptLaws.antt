-- A receipt more.
use Rattle.std.proofs.Common.{◌≡◌, ◌≢◌, ℕ, ◌<◌, List, [], ◌∷◌, ◌++◌, length, get_or, refl, ap, sym, subst, ◌∙◌}
use Rattle.std.proofs.Common.{append_assoc, arith}
use Rattle.std.proofs.lemmas.List.{append_cancel_right, map-append}
use mathlib.Core.List.{IsPrefix}
use Rattle.auction_terms.specs.declared.Config.{Config}
use Rattle.auction_terms.specs.declared.Call.{Call}
use Rattle.auction_terms.specs.declared.Command.{Command}
use Rattle.auction_terms.specs.declared.Entry.{Entry}
use Rattle.auction_terms.specs.Day.{call_of, calls_of}
use Rattle.auction.specs.AuctionState.{call_by}
use Rattle.board_terms.specs.MemberView.{MemberView, PlacedCall, placed_call}
use Rattle.board_terms.specs.CallsAndLooks.{CallsOnce, EndsWithCall, SeesFullHistory, entry}
use Rattle.board_terms.specs.declared.calls.CallFault.{CallFault}
use Rattle.board_terms.specs.declared.calls.CallFault.TheVariants.{HistoryFull, Overtaken, OutOfStep}
use Rattle.board_terms.specs.declared.calls.Receipt.{Receipt}
use Rattle.board_terms.proofs.PrefixLaws.{prefix_self, prefix_trans}
use Rattle.member_board.specs.PlaysScript.{recorded_calls, AreAnswered, EndsWithReceipt}

pub recorded_calls-push : (rs : List Receipt) (xs : List Command) (r : Receipt) (d : Command) → length rs < length xs
    → recorded_calls (rs ++ r ∷ []) xs ≡ recorded_calls rs xs ++ placed_call r.number (get_or xs (length rs) d) ∷ []
recorded_calls-push [] [] r d lt = absurd (omega arith)
recorded_calls-push [] (x ∷ xs) r d lt = refl
recorded_calls-push (y ∷ rs) [] r d lt = absurd (omega arith)
recorded_calls-push (y ∷ rs) (x ∷ xs) r d lt =
    ap (λ t. placed_call y.number x ∷ t) (recorded_calls-push rs xs r d (omega arith))

-- a history with what the member has seen after its call ends with the receipt
pub EndsWithReceipt-called : (c : Config) (old new : MemberView) (x : Command) (r : Receipt) (h : List Entry)
    → CallsOnce c old new x r → calls_of h ≡ new.seen → EndsWithCall c h old.number x r
    → EndsWithReceipt c old.seen old.number x r h
EndsWithReceipt-called c old new x r h once seen ends =
    let call : List Call = call_by old.number x ∷ [] in
    let same : calls_of ends.before ++ call ≡ (old.seen ++ once.between) ++ call =
    sym (map-append call_of ends.before (entry old.number x r.reply ∷ [])) ∙ ap calls_of (sym ends.last) ∙ seen
    ∙ once.seen in
    record {
      ends = ends;
      begins = (once.between, sym (append_cancel_right (calls_of ends.before) (old.seen ++ once.between) call same));
    }

pub AreAnswered-push : (c : Config) (m : ℕ) (before mid : List Call) (rs : List Receipt) (xs : List Command)
    (r : Receipt) (d : Command) (h : List Entry)
    → length rs < length xs → AreAnswered c m before rs xs mid → EndsWithReceipt c mid m (get_or xs (length rs) d) r h
    → AreAnswered c m before (rs ++ r ∷ []) xs (calls_of h)
AreAnswered-push c m before mid [] [] r d h lt was ends = absurd (omega arith)
AreAnswered-push c m before mid [] (x ∷ xs) r d h lt was ends = (
  h,
  record { ends = ends.ends; begins = prefix_trans before mid (calls_of ends.ends.before) was ends.begins },
  prefix_self (calls_of h),
)
AreAnswered-push c m before mid (y ∷ rs) [] r d h lt was ends = absurd was
AreAnswered-push c m before mid (y ∷ rs) (x ∷ xs) r d h lt was ends =
    (was.0, was.1, AreAnswered-push c m (calls_of was.0) mid rs xs r d h (omega arith) was.2 ends)

-- the member has seen more since
pub AreAnswered-longer : (c : Config) (m : ℕ) (before mid after : List Call) (rs : List Receipt) (xs : List Command)
    → AreAnswered c m before rs xs mid → IsPrefix mid after → AreAnswered c m before rs xs after
AreAnswered-longer c m before mid after [] xs was more = prefix_trans before mid after was more
AreAnswered-longer c m before mid after (r ∷ rs) [] was more = absurd was
AreAnswered-longer c m before mid after (r ∷ rs) (x ∷ xs) was more =
    (was.0, was.1, AreAnswered-longer c m (calls_of was.0) mid after rs xs was.2 more)

pub recorded_calls-next : (rs rs' : List Receipt) (xs : List Command) (r : Receipt) (d : Command) (i : ℕ)
    (first before after : List PlacedCall)
    → length rs ≡ i → i < length xs → rs' ≡ rs ++ r ∷ [] → before ≡ first ++ recorded_calls rs xs
    → after ≡ before ++ placed_call r.number (get_or xs i d) ∷ [] → after ≡ first ++ recorded_calls rs' xs
recorded_calls-next rs rs' xs r d i first before after at lt is_rs is_before is_after =
    let next : recorded_calls rs' xs ≡ recorded_calls rs xs ++ placed_call r.number (get_or xs i d) ∷ [] =
    ap (λ ys. recorded_calls ys xs) is_rs ∙ recorded_calls-push rs xs r d (omega (arith, at))
    ∙ ap (λ (k : ℕ). recorded_calls rs xs ++ placed_call r.number (get_or xs k d) ∷ []) at in
    is_after ∙ ap (λ t. t ++ placed_call r.number (get_or xs i d) ∷ []) is_before
    ∙ append_assoc first (recorded_calls rs xs) (placed_call r.number (get_or xs i d) ∷ [])
    ∙ ap (λ t. first ++ t) (sym next)

pub AreAnswered-next : (c : Config) (first old new : MemberView) (rs rs' : List Receipt) (xs : List Command)
    (r : Receipt) (d : Command) (i : ℕ)
    → length rs ≡ i → i < length xs → rs' ≡ rs ++ r ∷ [] → old.number ≡ first.number
    → AreAnswered c first.number first.seen rs xs old.seen → CallsOnce c old new (get_or xs i d) r
    → (h : List Entry) × (calls_of h ≡ new.seen) × EndsWithCall c h old.number (get_or xs i d) r
    → AreAnswered c first.number first.seen rs' xs new.seen
AreAnswered-next c first old new rs rs' xs r d i at lt is_rs is_number was once by_history =
    let h = by_history.0 in
    let EndsHere : ℕ → ℕ → Type 0 = λ k m. EndsWithReceipt c old.seen m (get_or xs k d) r h in
    let ends : EndsHere i old.number =
    EndsWithReceipt-called c old new (get_or xs i d) r h once by_history.1 by_history.2 in
    let here : EndsHere (length rs) first.number =
    subst (λ (k : ℕ). EndsHere k first.number) (sym at) (subst (EndsHere i) is_number ends) in
    let all : AreAnswered c first.number first.seen (rs ++ r ∷ []) xs (calls_of h) =
    AreAnswered-push c first.number first.seen old.seen rs xs r d h (omega (arith, at)) was here in
    subst (λ ys. AreAnswered c first.number first.seen ys xs new.seen) (sym is_rs)
    (subst (AreAnswered c first.number first.seen (rs ++ r ∷ []) xs) by_history.1 all)

unchanged : (old new : MemberView) → new ≡ old
    → (new.number ≡ old.number) × (new.calls ≡ old.calls) × (new.mine ≡ old.mine) × IsPrefix old.seen new.seen
unchanged old new is = (
  ap (λ (m : MemberView). m.number) is,
  ap (λ (m : MemberView). m.calls) is,
  ap (λ (m : MemberView). m.mine) is,
  subst (λ (m : MemberView). IsPrefix old.seen m.seen) (sym is) (prefix_self old.seen),
)

-- after a fault a member has seen no less, and is else as it was
pub after_fault : (c : Config) (fault : CallFault) (old new : MemberView)
    → (fault ≡ HistoryFull → SeesFullHistory c old new) → (fault ≢ HistoryFull → new ≡ old)
    → (new.number ≡ old.number) × (new.calls ≡ old.calls) × (new.mine ≡ old.mine) × IsPrefix old.seen new.seen
after_fault c HistoryFull old new full same = let f = full refl in (f.number, f.calls, f.mine, f.begins)
after_fault c Overtaken old new full same = unchanged old new (same (λ e. cc))
after_fault c (OutOfStep history counted) old new full same = unchanged old new (same (λ e. cc))
