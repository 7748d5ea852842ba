-- Answers of `is_quote_open` (src/line.rt): what the prover left open; rt looks here.
-- Of `is_quote_open`: the line end comes after the line, in the form that `rt` wants.
use Rattle.std.proofs.Common.{◌≡◌, false, is_some, rules, sym}
use Rattle.live_session.proofs.InputLineLaws.{no-quote-open, quote-open}
use Rattle.live_session.proofs.line.is_quote_open.Goals as goal

pub returns : goal.returns
returns c = quote-open _ _ _ _ _ c.without_mark.ensures c.spot_behind.ensures c.after.ensures c.is_open.ensures

pub returns-then-is_none : goal.returns-then-is_none
returns-then-is_none c =
    let none : is_some c.memchr.result ≡ false = search rules in
    sym (no-quote-open c.args.line.now c.memchr.result c.memchr.ensures none)
