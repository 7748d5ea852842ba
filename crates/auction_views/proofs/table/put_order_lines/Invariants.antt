-- Invariants of the loops of `put_order_lines` (src/table.rt); rt looks here.
use Rattle.std.proofs.Common.{◌≡◌, ◌++◌, drop, map}
use Rattle.printed_lines.specs.KeptText.{kept_text}
use Rattle.printed_lines.specs.ReplyWords.{words_text}
use Rattle.auction_views.specs.TableLines.{order_line}
use Rattle.auction_views.proofs.table.put_order_lines.Given as goal

-- the lines so far were put, and they and those that are left are all
abbrev pub invariant-loop-order : goal.invariant-loop-order
invariant-loop-order l = kept_text l.text ++ words_text (map order_line (drop l.order-index l.listed))
    ≡ kept_text l.fn.text ++ words_text (map order_line l.fn.listed)
