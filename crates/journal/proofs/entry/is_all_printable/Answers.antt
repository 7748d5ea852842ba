-- Answers of `is_all_printable` (src/entry.rt): what the prover left open; rt looks here.
use Rattle.std.proofs.Common.{◌≡◌, ◌+◌, ◌∙◌, ◌&&◌, ap, drop, arith}
use Rattle.std.proofs.lemmas.Grind.{common_steps}
use Rattle.std.proofs.lemmas.List.Folds.{list_all-append}
use Rattle.std.proofs.lemmas.Simd.{chunk-drop}
use Rattle.std.specs.List.{list_all}
use Rattle.std.specs.Simd.Lanes.{chunk}
use Rattle.journal.specs.EntryRecord.{is_printable}
use Rattle.journal.proofs.entry.is_all_printable.Goals as goal

pub eights-preserved : goal.eights-preserved
eights-preserved c =
    let text = c.args.text.now in
    let at = c.eights.at in
    let parts : list_all is_printable (drop at text)
    ≡ (list_all is_printable (chunk at 8 text) && list_all is_printable (drop (at + 8) text)) =
    ap (list_all is_printable) (chunk-drop at 8 text)
    ∙ list_all-append is_printable (chunk at 8 text) (drop (at + 8) text) in
    grind (arith, common_steps)
