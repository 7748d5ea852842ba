-- Answers of `put_display` (src/reply.rt): what the prover left open; rt looks here.
use Rattle.std.proofs.Common.{[], ◌∷◌, codes}
use Rattle.printed_lines.specs.ReplyWords.{number_word}
use Rattle.printed_lines.proofs.PageLaws.{put-last, put-more}
use Rattle.printed_lines.proofs.reply.put_display.Goals as goal

pub returns-in-Unpriced-clause-text : goal.returns-in-Unpriced-clause-text
returns-in-Unpriced-clause-text c =
    let bid = number_word c.in-Unpriced.best_bid in
    let ask = number_word c.in-Unpriced.best_ask in
    let new = c.put_number_word-in-Unpriced.new.page in
    let last = put-last c.put-in-Unpriced.new.self new ask c.put_number_word-in-Unpriced.ensures.text in
    let third =
    put-more c.put_number_word.new.page c.put-in-Unpriced.new.self new (codes " ask ") (ask ∷ [])
    c.put-in-Unpriced.ensures.text last in
    let second =
    put-more c.put.new.self c.put_number_word.new.page new bid (codes " ask " ∷ ask ∷ [])
    c.put_number_word.ensures.text third in
    rw c.in-Unpriced.is
    (put-more c.args.page.now c.put.new.self new (codes "no price bid ") (bid ∷ codes " ask " ∷ ask ∷ [])
    c.put.ensures.text second)
