-- Answers of `keep_equal_lanes` (src/choices.rt): what the prover left open; rt looks here.
use Rattle.std.proofs.Common.{eqb, replicate, ap, ◌∙◌, w64}
use Rattle.std.specs.Simd.Lanes.{sel_l}
use Rattle.std.proofs.lemmas.Simd.{tops_compared}
use Rattle.lanes.proofs.LaneLaws.{sel_equal}
use Rattle.lanes.proofs.choices.keep_equal_lanes.Goals as goal

pub returns : goal.returns
returns c =
    ap (λ ms. sel_l ms c.args.flags (replicate 8 0)) (tops_compared w64 eqb c.args.values (replicate 8 c.args.wanted))
    ∙ sel_equal c.args.values c.args.flags c.args.wanted c.requires.eight_values c.requires.eight_flags
