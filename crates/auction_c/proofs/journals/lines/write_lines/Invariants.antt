-- Invariants of the loops of `write_lines` (src/journals/lines.rt); rt looks here.
use Rattle.auction_c.proofs.JournalLineLaws.{HasLines}
use Rattle.auction_c.proofs.journals.lines.write_lines.Given as goal

abbrev pub invariant-structs : goal.invariant-structs
invariant-structs l = HasLines l.entries l.fn.text l.text l.i l.written
