-- Answers of `play` (src/played.rt): what the prover left open; rt looks here.
use Rattle.std.proofs.Common.{arith, ap, sym, ◌∙◌, ◌∷◌, [], length, length-append, Err, inl, inr}
use Rattle.board_terms.proofs.PrefixLaws.{prefix_length}
use Rattle.member_board.proofs.ReceiptLaws.{recorded_calls-next, AreAnswered-next, AreAnswered-longer, after_fault}
use Rattle.member_board.proofs.played.play.Goals as goal

pub loop-i-preserved : goal.loop-i-preserved
loop-i-preserved g c =
    let was = c.loop-i.invariant in
    let once = c.in-Ok.ensures.call in
    let r = c.in-Ok.receipt in
    let rs = c.loop-i.receipts.items in
    let rs' = c.push_reserved.new.self.items in
    let xs = c.args.commands.now in
    record {
      receipts = omega (arith, ap length c.push_reserved.ensures.items, length-append rs (r ∷ []), was.receipts);
      room = omega (arith, was.room, c.push_reserved.ensures.capacity);
      number = once.number ∙ was.number;
      calls = omega (arith, once.calls, was.calls);
      mine =
          recorded_calls-next rs rs' xs r _ c.loop-i.i c.args.member.mine c.loop-i.member.mine
          c.call-answer.new.self.mine was.receipts c.loop-i-test.true c.push_reserved.ensures.items was.mine once.mine;
      answered =
          AreAnswered-next g.K.BoardIdentity.config c.args.member c.loop-i.member c.call-answer.new.self rs rs' xs r _
          c.loop-i.i was.receipts c.loop-i-test.true c.push_reserved.ensures.items was.number was.answered once
          c.in-Ok.ensures.by_history;
    }

pub returns-in-Err : goal.returns-in-Err
returns-in-Err g c =
    let was = c.loop-i.invariant in
    let told = c.in-Err.ensures in
    let old = c.loop-i.member in
    let new = c.call-answer.new.self in
    let fault = c.in-Err.fault in
    let after =
    after_fault g.K.BoardIdentity.config fault old new (λ e. told.full (ap Err e)) told.fault in
    record {
      number = after.0 ∙ was.number;
      calls = omega (arith, after.1, was.calls, was.receipts);
      mine = after.2 ∙ was.mine;
      answered =
          AreAnswered-longer g.K.BoardIdentity.config c.args.member.number c.args.member.seen old.seen new.seen
          c.loop-i.receipts.items c.args.commands.now was.answered after.3;
      whole = λ none. absurd (cc (none));
      full = λ is. (told.full (cc (is))).all_calls;
      out_of_step =
          λ h k is.
          elim (told.out_of_step h k (cc (is))) [
            | inl more ↦ inl (omega (arith, more, prefix_length old.seen new.seen after.3))
            | inr other ↦ inr (λ same. other (sym after.1 ∙ same))
          ];
    }
