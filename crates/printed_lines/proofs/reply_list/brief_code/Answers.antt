-- Answers of `brief_code` (src/reply_list.rt): what the prover left open; rt looks here.
use Rattle.std.proofs.Common.{◌∙◌, ap, arith, subst, sym}
use Rattle.auction_terms.specs.declared.Reply.TheVariants as replies
use Rattle.printed_lines.specs.ReplyList.{IsCoded, brief_reply}
use Rattle.printed_lines.proofs.ReplyListLaws.{brief-coded, entered-coded}
use Rattle.printed_lines.proofs.reply_list.brief_code.Goals as goal

pub returns-in-Deleted : goal.returns-in-Deleted
unfolding brief_reply
returns-in-Deleted c = brief-coded _ 0 _ (omega arith) (sym c.in-Deleted.is)

pub returns-in-Refused : goal.returns-in-Refused
returns-in-Refused c =
    brief-coded _ _ _ c.refusal_code.ensures.brief (c.refusal_code.ensures.code ∙ sym c.in-Refused.is)

pub returns-then-kept : goal.returns-then-kept
unfolding brief_reply
returns-then-kept c =
    brief-coded _ 10 _ (omega arith) (ap (λ b. replies.Changed b) (sym c.if-kept.true) ∙ sym c.in-Changed.is)

pub returns-else-kept : goal.returns-else-kept
unfolding brief_reply
returns-else-kept c =
    brief-coded _ 11 _ (omega arith) (ap (λ b. replies.Changed b) (sym c.if-kept.false) ∙ sym c.in-Changed.is)

pub returns-in-Entered : goal.returns-in-Entered
returns-in-Entered c =
    subst (IsCoded c.args.entered 12) (ap (λ n. replies.Entered n) (sym c.if-id-entered.true) ∙ sym c.in-Entered.is)
    (entered-coded c.args.entered)
