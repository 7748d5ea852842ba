-- Answers of `Page::put_bytes` (src/page.rt): what the prover left open; rt looks here.
use Rattle.std.proofs.Common.{refl, arith}
use Rattle.std.proofs.lemmas.Slice.{take-put_mid}
use Rattle.printed_lines.proofs.page.Page.put_bytes.Goals as goal

pub returns-clause-text : goal.returns-clause-text
returns-clause-text c =
    rw (c.copy_from_slice.ensures.after, ← c.self.view_is)
    (take-put_mid c.self.inside.len _ c.self.inside.bytes c.args.text.now _ refl
    (omega (arith, c.self.invariant, c.self.told)))
