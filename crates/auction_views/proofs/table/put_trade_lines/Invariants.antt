-- Invariants of the loops of `put_trade_lines` (src/table.rt); rt looks here.
use Rattle.std.proofs.Common.{◌≡◌, ◌++◌, drop}
use Rattle.printed_lines.specs.KeptText.{kept_text}
use Rattle.printed_lines.specs.ReplyWords.{words_text}
use Rattle.auction_views.specs.TableLines.{trade_lines}
use Rattle.auction_views.proofs.table.put_trade_lines.Given as goal

-- the lines so far were put, and they and those that are left are all
abbrev pub invariant-loop-place : goal.invariant-loop-place
invariant-loop-place l = kept_text l.text ++ words_text (trade_lines l.place (drop l.place l.tape))
    ≡ kept_text l.fn.text ++ words_text (trade_lines l.fn.from (drop l.fn.from l.fn.tape))
