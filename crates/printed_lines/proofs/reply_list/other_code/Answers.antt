-- Answers of `other_code` (src/reply_list.rt): what the prover left open; rt looks here.
use Rattle.printed_lines.proofs.ReplyListLaws.{again-says, other-says}
use Rattle.printed_lines.proofs.reply_list.other_code.Goals as goal

pub returns-then-ends_with-clause-said : goal.returns-then-ends_with-clause-said
returns-then-ends_with-clause-said c = λ entered.
    again-says _ entered _ (rw c.as_slice.ensures.value at (c.ends_with.ensures c.if-ends_with.true))

pub returns-clause-said : goal.returns-clause-said
returns-clause-said c = λ entered. other-says _ _ entered _ c.in_ok-push.ensures.items
