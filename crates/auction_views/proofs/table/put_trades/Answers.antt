-- Answers of `put_trades` (src/table.rt): what the prover left open; rt looks here.
use Rattle.std.proofs.Common.{append_assoc}
use Rattle.auction_views.proofs.TableLaws.{trades_counted}
use Rattle.auction_views.proofs.table.put_trades.Goals as goal

pub returns : goal.returns
returns c =
    rw (trades_counted, ← c.saturating_sub-lines.ensures, ← append_assoc, ← c.in_ok-put_heading.ensures)
    c.put_trade_lines.ensures
