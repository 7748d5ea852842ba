-- Answers of `has_flag` (src/choices.rt): what the prover left open; rt looks here.
use Rattle.std.proofs.Common.{◌≡◌, ℕ, false, not, eqb, get_or, sym, ◌∙◌, arith, w64}
use lib.Lanes.{chunk}
use Rattle.std.proofs.lemmas.Simd.{length-chunk, bitmask_splat, none_from_empty_mask}
use Rattle.std.proofs.lemmas.Bool.Decides.{nat_tests}
use Rattle.lanes.proofs.choices.has_flag.Goals as goal

zero_of : (m : ℕ) → not (eqb m 0) ≡ false → m ≡ 0
zero_of m h = grind (arith, nat_tests)

pub returns : goal.returns
returns c e k lo hi is =
    let fs = c.args.flags.now in
    let long = length-chunk c.args.at 8 fs c.requires in
    let hits = bitmask_splat w64 eqb (chunk c.args.at 8 fs) 8 1 long (omega arith) in
    let no : eqb (get_or fs k 0) 1 ≡ false =
    none_from_empty_mask (λ x. eqb x 1) fs c.args.at 8 0 c.requires (sym hits ∙ zero_of _ e) k lo hi in
    grind (arith, nat_tests)
