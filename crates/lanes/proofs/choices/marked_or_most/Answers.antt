-- Answers of `marked_or_most` (src/choices.rt): what the prover left open; rt looks here.
use Rattle.std.proofs.Common.{eqb, replicate, ap, ◌∙◌, w64}
use Rattle.std.specs.Simd.Lanes.{sel_l}
use Rattle.std.proofs.lemmas.Simd.{tops_compared}
use Rattle.lanes.proofs.LaneLaws.{sel_most}
use Rattle.lanes.proofs.choices.marked_or_most.Goals as goal

pub returns : goal.returns
returns c =
    ap (λ ms. sel_l ms c.args.values (replicate 8 18446744073709551615))
    (tops_compared w64 eqb c.args.flags (replicate 8 1)) ∙ sel_most c.args.values c.args.flags c.requires.eight_values
    c.requires.eight_flags
