-- Answers of `keep_above_lanes` (src/choices.rt): what the prover left open; rt looks here.
use Rattle.std.proofs.Common.{ltb, replicate, ap, ◌∙◌, w64}
use Rattle.std.specs.Simd.Lanes.{sel_l}
use Rattle.std.proofs.lemmas.Simd.{tops_compared}
use Rattle.lanes.proofs.LaneLaws.{sel_above}
use Rattle.lanes.proofs.choices.keep_above_lanes.Goals as goal

pub returns : goal.returns
returns c = ap (λ ms. sel_l ms c.args.flags (replicate 8 0)) (tops_compared w64 ltb c.args.b c.args.a)
    ∙ sel_above c.args.a c.args.b c.args.flags c.requires.eight_a c.requires.eight_b c.requires.eight_flags
