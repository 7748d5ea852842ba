-- Answers of `record_difference` (src/printing.rt): what the prover left open; rt looks here.
use Rattle.std.proofs.Common.{◌∙◌, append_assoc}
use Rattle.printed_lines.specs.KeptText.{kept_text}
use Rattle.day_audit.proofs.FoundLaws.{put-more}
use Rattle.day_audit.proofs.printing.record_difference.Goals as goal

pub returns : goal.returns
returns c =
    let first = put-more _ _ _ _ _ c.make_room.ensures.text c.put_recorded_words.ensures in
    let second = put-more _ _ _ _ _ (c.make_room-2.ensures.text ∙ first) c.put_bytes.ensures.text in
    let third = put-more _ _ _ _ _ (c.make_room-3.ensures.text ∙ second) c.put_lawful_words.ensures in
    third ∙ append_assoc _ c.args.text.now _ ∙ append_assoc (kept_text c.args.lines.now) _ _
