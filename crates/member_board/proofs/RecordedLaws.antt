-- Receipts in the history of a closed board.
use Rattle.std.proofs.Common.{◌≡◌, ℕ, List, [], ◌∷◌, ◌++◌, length, map, Some, refl, ap, sym, ◌∙◌, append_assoc}
use Rattle.std.proofs.Common.{arith, length-append}
use Rattle.std.proofs.lemmas.List.{map-append}
use Rattle.std.specs.Prelude.{slice_get}
use mathlib.Core.List.{IsPrefix}
use Rattle.auction_terms.specs.declared.Config.{Config}
use Rattle.auction_terms.specs.declared.Call.{Call}
use Rattle.auction_terms.specs.declared.Command.{Command}
use Rattle.auction_terms.specs.declared.Entry.{Entry}
use Rattle.auction_terms.specs.Day.{IsLegal, State, opening_state, step, replies_from, call_of, calls_of}
use Rattle.board_terms.specs.MemberView.{MemberView}
use Rattle.board_terms.specs.CallsAndLooks.{entry}
use Rattle.board_terms.specs.Closings.{IsAccount}
use Rattle.board_terms.specs.declared.calls.Receipt.{Receipt}
use Rattle.board_terms.proofs.PrefixLaws.{prefix_trans}
use Rattle.member_board.specs.PlaysScript.{AreAnswered, EndsWithReceipt, PlayedScript, PlaysScript}
use Rattle.member_board.specs.RecordedReceipts.{AreRecorded, IsEntryAt}

-- ---- a legal history whose calls begin another's begins it

same_entry : (e f : Entry) → call_of e ≡ call_of f → e.reply ≡ f.reply → e ≡ f
same_entry e f calls replies = λ i. record {
  member = (calls i).member;
  command = (calls i).command;
  reply = replies i;
}

replies-begin : (c : Config) (s : State) (xs ys : List Entry)
    → map (λ (e : Entry). e.reply) xs ≡ replies_from c s (calls_of xs)
    → map (λ (e : Entry). e.reply) ys ≡ replies_from c s (calls_of ys) → IsPrefix (calls_of xs) (calls_of ys)
    → IsPrefix xs ys
replies-begin c s [] ys p q begins = (ys, refl)
replies-begin c s (x ∷ xs) [] p q begins = absurd (cc (begins.1))
replies-begin c s (x ∷ xs) (y ∷ ys) p q begins =
    let call : call_of x ≡ call_of y = cc (begins.1) in
    let reply : x.reply ≡ y.reply = cc (p, q, ap (λ (a : Call). (step c s a).1) call) in
    let rest : IsPrefix xs ys =
    replies-begin c (step c s (call_of x)).0 xs ys (cc (p)) (cc (q)) (begins.0, cc (begins.1)) in
    (rest.0, λ i. same_entry x y call reply i ∷ rest.1 i)

history-begins : (c : Config) (h history : List Entry) → IsLegal c h → IsLegal c history
    → IsPrefix (calls_of h) (calls_of history) → IsPrefix h history
history-begins c h history legal whole begins =
    replies-begin c (opening_state c) h history legal.replies whole.replies begins

-- ---- the entry of a receipt

slice_get-seam : (xs : List Entry) (e : Entry) (ys : List Entry) → slice_get (xs ++ e ∷ ys) (length xs) ≡ Some e
slice_get-seam [] e ys = refl
slice_get-seam (x ∷ xs) e ys = slice_get-seam xs e ys

last_entry : (h before history : List Entry) (e : Entry) (number : ℕ) → length h ≡ number → h ≡ before ++ e ∷ []
    → IsPrefix h history → IsEntryAt history number e
last_entry h before history e number long last begins =
    let split : history ≡ before ++ e ∷ begins.0 =
    sym begins.1 ∙ ap (λ t. t ++ begins.0) last ∙ append_assoc before (e ∷ []) begins.0 in (
      length before,
      omega (arith, long, ap length last, length-append before (e ∷ [])),
      ap (λ t. slice_get t (length before)) split ∙ slice_get-seam before e begins.0,
    )

-- ---- what was seen before a script begins what is seen after it

call-follows : (c : Config) (seen : List Call) (m : ℕ) (x : Command) (r : Receipt) (h : List Entry)
    → EndsWithReceipt c seen m x r h → IsPrefix seen (calls_of h)
call-follows c seen m x r h ends =
    let e : Entry = entry m x r.reply in
    let split : calls_of ends.ends.before ++ calls_of (e ∷ []) ≡ calls_of h =
    sym (map-append call_of ends.ends.before (e ∷ [])) ∙ ap calls_of (sym ends.ends.last) in
    prefix_trans seen (calls_of ends.ends.before) (calls_of h) ends.begins (calls_of (e ∷ []), split)

answered-follows : (c : Config) (m : ℕ) (before : List Call) (rs : List Receipt) (xs : List Command) (after : List Call)
    → AreAnswered c m before rs xs after → IsPrefix before after
answered-follows c m before [] xs after answered = answered
answered-follows c m before (r ∷ rs) [] after answered = absurd answered
answered-follows c m before (r ∷ rs) (x ∷ xs) after answered =
    prefix_trans before (calls_of answered.0) after (call-follows c before m x r answered.0 answered.1)
    (answered-follows c m (calls_of answered.0) rs xs after answered.2)

-- ---- all receipts

answered-recorded : (c : Config) (history : List Entry) (m : ℕ) (before : List Call) (rs : List Receipt)
    (xs : List Command) (after : List Call)
    → IsLegal c history → AreAnswered c m before rs xs after → IsPrefix after (calls_of history)
    → AreRecorded history m rs xs
answered-recorded c history m before [] xs after legal answered begins = tt
answered-recorded c history m before (r ∷ rs) [] after legal answered begins = absurd answered
answered-recorded c history m before (r ∷ rs) (x ∷ xs) after legal answered begins =
    let h = answered.0 in
    let ends = answered.1.ends in
    let follows : IsPrefix (calls_of h) (calls_of history) =
    prefix_trans (calls_of h) after (calls_of history) (answered-follows c m (calls_of h) rs xs after answered.2)
    begins in (
      last_entry h ends.before history (entry m x r.reply) r.number ends.number ends.last
          (history-begins c h history ends.legal legal follows),
      answered-recorded c history m (calls_of h) rs xs after legal answered.2 begins,
    )

pub receipts_recorded : (c : Config) (old : MemberView) (commands : List Command) (run : PlayedScript)
    (history : List Entry)
    → PlaysScript c old commands run → IsLegal c history → IsAccount (calls_of history) run.member
    → AreRecorded history old.number run.receipts commands
receipts_recorded c old commands run history plays legal account =
    answered-recorded c history old.number old.seen run.receipts commands run.member.seen legal plays.answered
    account.begins
