-- Answers of `FrontText::put_short` (src/front_text.rt): what the prover left open; rt looks here.
use Rattle.std.proofs.Common.{◌≡◌, ◌+◌, ◌-◌, drop, refl, arith, ◌∙◌}
use Rattle.std.proofs.lemmas.List.{drop-drop}
use Rattle.std.proofs.lemmas.Slice.{between_to_end}
use Rattle.day_tables.proofs.FrontTextLaws.{put-before, all-bytes}
use Rattle.day_tables.proofs.front_text.FrontText.put_short.Goals as goal

pub returns-clause-text : goal.returns-clause-text
returns-clause-text c =
    let s = c.self.inside.start in
    let t = c.short.inside.start in
    let a = all-bytes c.self.inside.bytes c.args.self.now s c.self.view_is (omega (arith, c.self.told)) in
    let b = all-bytes c.short.inside.bytes c.args.short.now t c.short.view_is (omega (arith, c.short.told)) in
    let last : c.copy_from_slice.new.self ≡ drop 224 c.short.inside.bytes =
    c.copy_from_slice.ensures.after ∙ between_to_end c.short.inside.bytes 224 256 (omega (arith, c.short.told)) in
    let on : 224 + (t - 224) ≡ t = omega (arith, b, c.short.told) in
    let to : s - 32 + (s - (s - 32)) ≡ s = omega (arith, a, c.self.told) in
    rw (
      put-before (s - 32) (s - (s - 32)) c.self.inside.bytes c.copy_from_slice.new.self (s - (256 - t)) (t - 224)
          (omega (arith, c.self.told)) (omega (arith, b, c.short.told, c.copy_from_slice.ensures.len))
          (omega (arith, a, b, c.self.told, c.short.told)),
      last,
      drop-drop (t - 224) 224 c.short.inside.bytes,
      on,
      to,
      ← c.self.view_is,
      ← c.short.view_is,
    ) refl
