-- Invariants of the loops of `put_rows` (src/table.rt); rt looks here.
use Rattle.std.proofs.Common.{◌≡◌, ◌++◌, drop, map}
use Rattle.printed_lines.specs.KeptText.{kept_text}
use Rattle.printed_lines.specs.ReplyWords.{words_text}
use Rattle.auction_views.specs.TableLines.{ladder_line}
use Rattle.auction_views.proofs.table.put_rows.Given as goal

-- the lines so far were put, and they and those that are left are all
abbrev pub invariant-loop-row : goal.invariant-loop-row
invariant-loop-row l = kept_text l.text ++ words_text (map ladder_line (drop l.row-index l.rows))
    ≡ kept_text l.fn.text ++ words_text (map ladder_line l.fn.rows)
