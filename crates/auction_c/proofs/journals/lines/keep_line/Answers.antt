-- Answers of `keep_line` (src/journals/lines.rt): what the prover left open; rt looks here.
use Rattle.std.proofs.Common.{List, ℕ, [], subst, sym}
use Rattle.journal.specs.KeptLines.{HasEntryLines}
use Rattle.journal.proofs.KeptLineLaws.{holds-none}
use Rattle.auction_c.proofs.JournalLineLaws.{line-of-one}
use Rattle.auction_c.proofs.journals.lines.keep_line.Goals as goal

pub returns : goal.returns
returns c =
    let none = subst (λ (text : List ℕ). HasEntryLines text []) (sym c.clear.ensures) holds-none in
    line-of-one c.keep_entry.result _ c.args.entry (c.keep_entry.ensures [] none)
