-- Answers of `Page::put_first` (src/page.rt): what the prover left open; rt looks here.
use Rattle.std.proofs.Common.{◌+◌, ◌-◌, arith, length-take-le}
use Rattle.std.proofs.lemmas.Slice.{take-put_mid}
use Rattle.printed_lines.proofs.PageLaws.{put-beginning}
use Rattle.printed_lines.proofs.page.Page.put_first.Goals as goal

pub returns-clause-text : goal.returns-clause-text
returns-clause-text c =
    let inside = c.self.inside in
    let fits = c.self.invariant in
    let all = take-put_mid inside.len (inside.len + 100 - inside.len) inside.bytes c.args.text.now (inside.len + 100)
    (omega (arith, c.copy_from_slice.ensures.len)) (omega (arith, fits, c.self.told)) in
    let put = put-beginning _ _ _ inside.len c.args.count _ all
    (length-take-le inside.len inside.bytes (omega (arith, fits, c.self.told))) (omega (arith, c.requires.count)) in
    rw (c.copy_from_slice.ensures.after, ← c.self.view_is) put
