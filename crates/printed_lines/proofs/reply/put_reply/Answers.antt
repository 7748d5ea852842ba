-- Answers of `put_reply` (src/reply.rt): what the prover left open; rt looks here.
use Rattle.std.proofs.Common.{codes}
use Rattle.printed_lines.specs.ReplyWords.{price_words}
use Rattle.printed_lines.proofs.PageLaws.{put-more}
use Rattle.printed_lines.proofs.reply.put_reply.Goals as goal

pub returns-in-Interrupted-clause-text : goal.returns-in-Interrupted-clause-text
returns-in-Interrupted-clause-text c =
    rw c.in-Interrupted.is
    (put-more c.args.page.now c.put-in-Interrupted.new.self c.put_price.new.page (codes "interrupted ")
    (price_words c.in-Interrupted.price) c.put-in-Interrupted.ensures.text c.put_price.ensures.text)
