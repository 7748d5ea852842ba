-- Answers of `close` (src/closing.rt): what the prover left open; rt looks here.
use Rattle.std.proofs.Common.{arith, ◌≡◌, ◌∙◌, inr, refl, sym, ap, subst, List, All, sum, length, Option}
use Rattle.auction_terms.specs.declared.Entry.{Entry}
use Rattle.auction_terms.specs.Day.{calls_of}
use Rattle.board_terms.specs.declared.closing.Closing.{Closing}
use Rattle.board_terms.specs.MemberView.{MemberView}
use Rattle.board_terms.specs.Closings.{HasEachNumberOnce, HasSeenBeginning, IsKeptBack, kept_calls, kept_parts}
use Rattle.board_terms.proofs.AccountLaws.{accounts, complete, closes, all_follow, is_ahead}
use Rattle.member_board.proofs.closing.close.Goals as goal

pub returns-then-not-are_complete-clause-missing : goal.returns-then-not-are_complete-clause-missing
returns-then-not-are_complete-clause-missing g c =
    let move : HasEachNumberOnce g.K.Ledger.parts c.args.members.items
    → HasEachNumberOnce c.board.inside.members c.deref.result.now =
    complete c.board.inside.members g.K.Ledger.parts c.deref.result.now c.args.members.items
    (sym c.board.invariant) (sym c.deref.ensures.value) in
    (λ e h. absurd cc (sym c.if-not-are_complete.true ∙ c.are_complete.ensures.1 (move h)), λ h. refl)

pub returns-in-None-clause-missing : goal.returns-in-None-clause-missing
returns-in-None-clause-missing g c = (
  λ e h. absurd cc,
  λ h. absurd
      (h (complete g.K.Ledger.parts c.board.inside.members c.args.members.items c.deref.result.now c.board.invariant
      c.deref.ensures.value (c.are_complete.ensures.0 c.if-not-are_complete.false))),
)

pub returns-in-None-clause-closing : goal.returns-in-None-clause-closing
returns-in-None-clause-closing g c =
    let n = g.K.Ledger.parts in
    let ended = c.end-history.ensures in
    let no_calls : kept_calls c.gather-calls.result.kept ≡ 0 = ap kept_calls c.in-None.is in
    let no_parts : kept_parts c.gather-calls.result.kept ≡ 0 = ap kept_parts c.in-None.is in
    let once =
    complete n c.board.inside.members c.args.members.items c.deref.result.now c.board.invariant
    c.deref.ensures.value (c.are_complete.ensures.0 c.if-not-are_complete.false) in
    let parts : c.gather-calls.result.joined.parts ≡ n =
    omega (arith, c.gather-calls.ensures.parts, no_parts, once.0) in
    closes g.K.BoardIdentity.config n c.args.members.items _ _ c.end-history.result.1.total once
    c.gather-calls.ensures.counts ended.closing.legal (ended.book ∙ ap length (sym ended.history))
    (omega (arith, no_calls, c.audit.ensures.whole parts, c.gather-calls.ensures.book))

pub returns-in-None-clause-accounts : goal.returns-in-None-clause-accounts
returns-in-None-clause-accounts g c =
    let n = g.K.Ledger.parts in
    let ms = c.args.members.items in
    let locked = c.into_inner-locked.result in
    let ended = c.end-history.ensures in
    let closing = c.end-history.result.0 in
    let h = c.gather-calls.ensures.counts in
    let no_calls : kept_calls c.gather-calls.result.kept ≡ 0 = ap kept_calls c.in-None.is in
    let no_parts : kept_parts c.gather-calls.result.kept ≡ 0 = ap kept_parts c.in-None.is in
    let once =
    complete n c.board.inside.members ms c.deref.result.now c.board.invariant c.deref.ensures.value
    (c.are_complete.ensures.0 c.if-not-are_complete.false) in
    let parts : c.gather-calls.result.joined.parts ≡ n =
    omega (arith, c.gather-calls.ensures.parts, no_parts, once.0) in
    let end : c.len.result ≡ length locked = omega (arith, c.len.ensures, ap length ended.history, closing.history.ok.0)
    in
    let none =
    subst (λ (k : Option MemberView). IsKeptBack c.first_ahead-ahead.result c.len.result ms k) c.in-None.is
    c.gather-calls.ensures.kept in
    let follow : All (HasSeenBeginning n (calls_of closing.history.items)) ms =
    subst (λ (h : List Entry). All (HasSeenBeginning n (calls_of h)) ms) (sym ended.history)
    (all_follow n c.len.result (length locked) (calls_of locked) ms c.deref-2.result.now c.first_ahead-ahead.result end
    c.deref-2.ensures.value none c.first_ahead-ahead.ensures.none c.first_ahead-ahead.ensures.some) in
    let same : sum c.gather-calls.result.counts.items ≡ sum closing.calls.items =
    omega (
      arith,
      h.whole,
      no_calls,
      c.audit.ensures.whole parts,
      c.gather-calls.ensures.book,
      ended.book,
      ap length ended.history,
      ended.closing.whole,
    ) in
    accounts n (calls_of closing.history.items) ms c.gather-calls.result.counts.items closing.calls.items _ once h
    follow ended.closing.counts ended.closing.each same

pub returns-clause-missing : goal.returns-clause-missing
returns-clause-missing g c = (
  λ e h. absurd cc,
  λ h. absurd
      (h (complete g.K.Ledger.parts c.board.inside.members c.args.members.items c.deref.result.now c.board.invariant
      c.deref.ensures.value (c.are_complete.ensures.0 c.if-not-are_complete.false))),
)

pub returns-clause-fault : goal.returns-clause-fault
returns-clause-fault g c =
    let n = g.K.Ledger.parts in
    let config = g.K.BoardIdentity.config in
    let ms = c.args.members.items in
    let locked = c.into_inner-locked.result in
    let ended = c.end-history.ensures in
    let history = c.end-history.result.0.history in
    let closing : Closing = record { history = history; calls = c.gather-calls.result.counts } in
    let calls : kept_calls c.gather-calls.result.kept ≡ c.in-Some.member.calls = ap kept_calls c.in-Some.is in
    let once =
    complete n c.board.inside.members ms c.deref.result.now c.board.invariant c.deref.ensures.value
    (c.are_complete.ensures.0 c.if-not-are_complete.false) in
    let closed =
    closes config n ms closing _ c.end-history.result.1.total once c.gather-calls.ensures.counts
    ended.closing.legal (ended.book ∙ ap length (sym ended.history))
    (omega (arith, calls, c.settle.ensures.whole, c.gather-calls.ensures.book)) in
    let back =
    subst (λ (k : Option MemberView). IsKeptBack c.first_ahead-ahead.result c.len.result ms k) c.in-Some.is
    c.gather-calls.ensures.kept in
    let end : c.len.result ≡ length locked = omega (arith, c.len.ensures, ap length ended.history, history.ok.0) in
    inr (
      c.settle.new.self,
      c.seen_len-seen.result,
      closing,
      refl,
      is_ahead config n c.len.result (length locked) ms c.deref-2.result.now c.first_ahead-ahead.result
          c.in-Some.member c.settle.new.self c.seen_len-seen.result closing closed end c.deref-2.ensures.value back
          c.settle.ensures.same c.seen_len-seen.ensures (ap length (sym ended.history))
          c.first_ahead-ahead.ensures.first,
    )
