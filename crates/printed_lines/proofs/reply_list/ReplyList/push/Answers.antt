-- Answers of `ReplyList::push` (src/reply_list.rt): what the prover left open; rt looks here.
use Rattle.printed_lines.proofs.ReplyListLaws.{kept-push, replies-pushed}
use Rattle.printed_lines.proofs.reply_list.ReplyList.push.Goals as goal

pub invariant_of-self-2 : goal.invariant_of-self-2
invariant_of-self-2 c =
    kept-push _ _ c.in_ok-code.ensures.kept.0 _ _ _ _ _ c.self.invariant c.in_ok-code.ensures.kept.1
    c.in_ok-reserve.ensures.items c.push_reserved.ensures.items _ c.entered_after-self-inside.ensures
    c.in_ok-code.ensures.shown

pub returns-clause-pushed : goal.returns-clause-pushed
returns-clause-pushed c =
    replies-pushed _ _ c.in_ok-code.ensures.kept.0 _ _ _ _ _ c.self.invariant c.in_ok-code.ensures.kept.1
    c.in_ok-reserve.ensures.items c.push_reserved.ensures.items _ _ c.self.view_is c.in_ok-code.ensures.said
