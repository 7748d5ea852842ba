-- Answers of `lesser_lanes` (src/choices.rt): what the prover left open; rt looks here.
use Rattle.std.proofs.Common.{ltb, ap, ◌∙◌, w64}
use Rattle.std.specs.Simd.Lanes.{sel_l}
use Rattle.std.proofs.lemmas.Simd.{tops_compared}
use Rattle.lanes.proofs.LaneLaws.{sel_lesser}
use Rattle.lanes.proofs.choices.lesser_lanes.Goals as goal

pub returns : goal.returns
returns c =
    ap (λ ms. sel_l ms c.args.a c.args.b) (tops_compared w64 ltb c.args.a c.args.b) ∙ sel_lesser c.args.a c.args.b
