-- Answers of `committed_len` (src/committed.rt): what the prover left open; rt looks here.
use Rattle.std.proofs.Common.{ap, length, sym, subst, ℕ}
use Rattle.journal_file.proofs.Scan.{IsTextBeforeNul, text-is, lines-none, front-of-lines, end-of-lines}
use Rattle.journal_file.proofs.committed.committed_len.Goals as goal

pub returns-in-Some-clause-count : goal.returns-in-Some-clause-count
returns-in-Some-clause-count c =
    let xs = c.args.bytes.now in
    let n = c.unwrap_or-text.result in
    let text =
    subst (λ (m : ℕ). IsTextBeforeNul m xs) (sym c.unwrap_or-text.ensures) (text-is xs c.memchr.result c.memchr.ensures)
    in end-of-lines n xs text c.in-Some.last c.in-Some.ensures

pub returns-in-Some-clause-front : goal.returns-in-Some-clause-front
returns-in-Some-clause-front c =
    let xs = c.args.bytes.now in
    let n = c.unwrap_or-text.result in
    let text =
    subst (λ (m : ℕ). IsTextBeforeNul m xs) (sym c.unwrap_or-text.ensures) (text-is xs c.memchr.result c.memchr.ensures)
    in front-of-lines n xs text c.in-Some.last c.in-Some.ensures

pub returns-in-None-clause-front : goal.returns-in-None-clause-front
returns-in-None-clause-front c =
    let xs = c.args.bytes.now in
    let n = c.unwrap_or-text.result in
    let text =
    subst (λ (m : ℕ). IsTextBeforeNul m xs) (sym c.unwrap_or-text.ensures) (text-is xs c.memchr.result c.memchr.ensures)
    in sym (lines-none n xs text c.in-None.ensures)

pub returns-in-None-clause-count : goal.returns-in-None-clause-count
returns-in-None-clause-count c = ap length (returns-in-None-clause-front c)
