-- Answers of `gather` (src/closing.rt): what the prover left open; rt looks here.
use Rattle.std.proofs.Common.{rules, arith, ap, sym, subst, ◌∙◌, ◌≡◌, ◌+◌, [], ◌∷◌, ◌++◌, length, length-append, ◌<◌}
use Rattle.std.proofs.Common.{None, Some}
use Rattle.std.proofs.lemmas.List.Elements.{Contains-push}
use Rattle.board_terms.specs.MemberView.{MemberView}
use Rattle.board_terms.specs.Closings.{IsKeptBack, kept_calls, kept_parts}
use Rattle.board_terms.proofs.AccountLaws.{AreMemberCounts-more, keeps}
use Rattle.member_board.proofs.closing.gather.Goals.{else-is_none-via-then-is_none+then-eq+else-seen_len-end}
use Rattle.member_board.proofs.closing.gather.Goals.{else-is_none-via-then-is_none+else-eq}
use Rattle.member_board.proofs.closing.gather.Goals.{else-is_none-via-else-is_none}
use Rattle.member_board.proofs.closing.gather.Goals as goal

pub loop-member-preserved-then-seen_len-end : goal.loop-member-preserved-then-seen_len-end
loop-member-preserved-then-seen_len-end g c =
    let m = c.in-Some.member in
    let was = c.loop-member.invariant in
    let none : c.loop-member.kept ≡ None = search rules in
    let no_calls : kept_calls c.loop-member.kept ≡ 0 = ap kept_calls none in
    let no_parts : kept_parts c.loop-member.kept ≡ 0 = ap kept_parts none in
    let same : c.audit.new.self ≡ m = c.audit.ensures.same.0 in
    let number : c.number-number.result ≡ m.number = c.number-number.ensures.number in
    let calls : c.calls.result ≡ m.calls = c.calls.ensures ∙ ap (λ (s : MemberView). s.calls) same in
    let held_calls : c.audit.new.self.calls ≡ m.calls = ap (λ (s : MemberView). s.calls) same in
    let amount : c.loop-member.joined.amount + c.audit.new.self.calls
    ≡ (c.loop-member.joined.amount + kept_calls c.loop-member.kept) + c.calls.result =
    omega (arith, no_calls, calls, held_calls) in
    let below : c.from.result < g.K.Ledger.parts =
    omega (arith, number, c.number-number.ensures.one_of, c.from.ensures) in
    let asked : c.args.ahead ≡ Some c.number-number.result = search rules in
    let more : c.args.end < c.seen_len.result = search rules in
    let long : c.seen_len.result ≡ length m.seen = c.seen_len.ensures ∙ ap (λ (s : MemberView). length s.seen) same in
    record {
      parts = omega (arith, was.parts, no_parts, length-append c.loop-member.yielded (m ∷ []));
      book = c.audit.ensures.same.1 ∙ was.book;
      counts =
          AreMemberCounts-more g.K.Ledger.parts c.loop-member.yielded m c.loop-member.counts.items c.from.result
          c.index_mut.result.now c.calls.result _ _ was.counts below (c.from.ensures ∙ number) calls
          c.index_mut.ensures.value amount;
      most = omega (arith, was.most, c.audit.ensures.same.1);
      kept_calls_most = omega (arith, held_calls, c.audit.ensures.most, c.audit.ensures.same.1);
      kept =
          subst (λ (s : MemberView). IsKeptBack c.args.ahead c.args.end (c.loop-member.yielded ++ m ∷ []) (Some s))
          (sym same) (asked ∙ ap Some number, omega (arith, more, long), Contains-push c.loop-member.yielded m);
    }

pub loop-member-preserved : goal.loop-member-preserved
loop-member-preserved g c =
    let m = c.in-Some.member in
    let was = c.loop-member.invariant in
    let same : c.audit.new.self ≡ m = c.audit.ensures.same.0 in
    let number : c.number-number.result ≡ m.number = c.number-number.ensures.number in
    let calls : c.calls.result ≡ m.calls = c.calls.ensures ∙ ap (λ (s : MemberView). s.calls) same in
    let amount : c.audit-else-is_none.new.share.amount + kept_calls c.loop-member.kept
    ≡ (c.loop-member.joined.amount + kept_calls c.loop-member.kept) + c.calls.result =
    omega (
      arith,
      c.audit-else-is_none.ensures.amount,
      c.merge.ensures.amount,
      c.into_share.ensures.1,
      c.calls.ensures,
    ) in
    let below : c.from.result < g.K.Ledger.parts =
    omega (arith, number, c.number-number.ensures.one_of, c.from.ensures) in
    let total : c.audit-else-is_none.new.self.total ≡ c.loop-member.book.total =
    c.audit-else-is_none.ensures.total ∙ c.audit.ensures.same.1 in
    record {
      parts =
          omega (
            arith,
            c.audit-else-is_none.ensures.parts,
            c.merge.ensures.parts,
            c.into_share.ensures.0,
            was.parts,
            length-append c.loop-member.yielded (m ∷ []),
          );
      book = total ∙ was.book;
      counts =
          AreMemberCounts-more g.K.Ledger.parts c.loop-member.yielded m c.loop-member.counts.items c.from.result
          c.index_mut.result.now c.calls.result _ _ was.counts below (c.from.ensures ∙ number) calls
          c.index_mut.ensures.value amount;
      most =
          omega (
            arith,
            c.audit-else-is_none.ensures.bound,
            c.audit-else-is_none.ensures.amount,
            c.audit-else-is_none.ensures.total,
          );
      kept_calls_most = omega (arith, was.kept_calls_most, total);
      kept =
          keeps c.args.ahead c.args.end c.loop-member.yielded m c.loop-member.kept was.kept
          (elim c.else-is_none.branch [
            | else-is_none-via-then-is_none+then-eq+else-seen_len-end w ↦
                λ none is. omega (
                  arith,
                  w.if-seen_len-end.false,
                  w.seen_len.ensures,
                  ap (λ (s : MemberView). length s.seen) same,
                )
            | else-is_none-via-then-is_none+else-eq w ↦ λ none is. absurd (search rules)
            | else-is_none-via-else-is_none w ↦ λ none is. absurd (search rules)
          ]);
    }
