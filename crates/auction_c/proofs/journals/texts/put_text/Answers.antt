-- Answers of `put_text` (src/journals/texts.rt): what the prover left open; rt looks here.
use Rattle.std.proofs.Common.{List, ◌++◌, ◌∙◌, ℕ, ap, rules}
use Rattle.auction_c.proofs.JournalLineLaws.{two-parts}
use Rattle.auction_c.proofs.journals.texts.put_text.Goals as goal

pub returns-clause-put : goal.returns-clause-put
returns-clause-put c =
    let kept =
    ap (λ (text : List ℕ). text ++ c.as_slice-page.result.now) c.as_slice-full.ensures.value
    ∙ ap (λ (text : List ℕ). c.args.lines.now.full.items ++ text) c.as_slice-page.ensures in
    λ _. two-parts c.args.text.now c.put_part.new.text c.put_part-2.new.text _ _ _ c.args.written.now _ _ kept
    c.requires (search rules) (search rules) c.put_part.ensures c.put_part-2.ensures
