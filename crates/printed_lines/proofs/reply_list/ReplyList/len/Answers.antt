-- Answers of `ReplyList::len` (src/reply_list.rt): what the prover left open; rt looks here.
use Rattle.std.proofs.Common.{arith}
use Rattle.std.proofs.lemmas.Grind.{common_steps}
use Rattle.printed_lines.proofs.ReplyListLaws.{length-replies}
use Rattle.printed_lines.proofs.reply_list.ReplyList.len.Goals as goal

pub returns : goal.returns
returns c = grind (arith, common_steps, length-replies)
