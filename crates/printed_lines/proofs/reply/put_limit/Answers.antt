-- Answers of `put_limit` (src/reply.rt): what the prover left open; rt looks here.
use Rattle.std.proofs.Common.{[], ◌∷◌, codes, decimal}
use Rattle.printed_lines.proofs.PageLaws.{put-last, put-more}
use Rattle.printed_lines.proofs.reply.put_limit.Goals as goal

pub returns-in-Market-clause-text : goal.returns-in-Market-clause-text
returns-in-Market-clause-text c =
    let visible = decimal c.args.visible in
    let last = put-last c.put.new.self c.put_number.new.self visible c.put_number.ensures.text in
    rw c.in-Market.is (put-more c.args.page.now c.put.new.self c.put_number.new.self (codes " market visible ")
    (visible ∷ []) c.put.ensures.text last)

pub returns-in-At-clause-text : goal.returns-in-At-clause-text
returns-in-At-clause-text c =
    let visible = decimal c.args.visible in
    let new = c.put_number-in-At-2.new.self in
    let last = put-last c.put-in-At-2.new.self new visible c.put_number-in-At-2.ensures.text in
    let third =
    put-more c.put_number-in-At.new.self c.put-in-At-2.new.self new (codes " visible ") (visible ∷ [])
    c.put-in-At-2.ensures.text last in
    let tick = decimal c.in-At.tick in
    let second =
    put-more c.put-in-At.new.self c.put_number-in-At.new.self new tick (codes " visible " ∷ visible ∷ [])
    (rw c.from.ensures at c.put_number-in-At.ensures.text) third in
    rw c.in-At.is
    (put-more c.args.page.now c.put-in-At.new.self new (codes " at ") (tick ∷ codes " visible " ∷ visible ∷ [])
    c.put-in-At.ensures.text second)
