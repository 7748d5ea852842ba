-- Answers of `piece_len` (src/journal.rt): what the prover left open; rt looks here.
use Rattle.std.proofs.Common.{List, ℕ, length, take, ◌∙◌, ap}
use Rattle.journal_file.specs.Committed.{committed}
use Rattle.journal_file.specs.declared.committed.TheConstants.{LONGEST_WRITE}
use Rattle.journal_file.proofs.Pieces.{take_min}
use Rattle.journal_file.proofs.journal.piece_len.Goals as goal

pub returns : goal.returns
returns c =
    let lines = c.args.lines.now in
    let front = c.split_at.ensures.front ∙ ap (λ (n : ℕ). take n lines) c.min.ensures ∙ take_min LONGEST_WRITE lines in
    c.committed_len.ensures.count ∙ ap (λ (l : List ℕ). length (committed l)) front
