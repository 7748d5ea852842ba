-- Answers of `has_positive` (src/choices.rt): what the prover left open; rt looks here.
use Rattle.std.proofs.Common.{◌≡◌, ℕ, false, not, eqb, get_or, sym, ◌∙◌, arith, w64}
use lib.Lanes.{chunk}
use Rattle.std.proofs.lemmas.Simd.{length-chunk, bitmask_splat, none_from_empty_mask}
use Rattle.std.proofs.lemmas.Bool.Decides.{nat_tests}
use Rattle.lanes.proofs.choices.has_positive.Goals as goal

zero_of : (m : ℕ) → not (eqb m 0) ≡ false → m ≡ 0
zero_of m h = grind (arith, nat_tests)

pub returns : goal.returns
returns c e k lo hi =
    let vs = c.args.values.now in
    let long = length-chunk c.args.at 8 vs c.requires in
    let hits = bitmask_splat w64 (λ x y. not (eqb x y)) (chunk c.args.at 8 vs) 8 0 long (omega arith) in
    zero_of (get_or vs k 0)
    (none_from_empty_mask (λ x. not (eqb x 0)) vs c.args.at 8 0 c.requires (sym hits ∙ zero_of _ e) k lo hi)
