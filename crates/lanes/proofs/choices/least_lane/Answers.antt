-- Answers of `least_lane` (src/choices.rt): what the prover left open; rt looks here.
use Rattle.std.proofs.Common.{◌≡◌, Fits, w64, get_or, min, ap, arith}
use Rattle.std.proofs.lemmas.Simd.{Each1-get_or}
use Rattle.lanes.proofs.Eight.{eight}
use Rattle.lanes.proofs.choices.least_lane.Goals as goal

pub returns : goal.returns
returns c =
    let h = Each1-get_or (Fits w64) c.args.lanes 7 0 (omega arith) c.fits-lanes.1 in
    let v = eight c.args.lanes c.requires in
    let small = rw v.is at h.fits in
    let e0 : get_or c.args.lanes 0 0 ≡ v.a = ap (λ l. get_or l 0 0) v.is in
    let e1 : get_or c.args.lanes 1 0 ≡ v.b = ap (λ l. get_or l 1 0) v.is in
    let e2 : get_or c.args.lanes 2 0 ≡ v.c = ap (λ l. get_or l 2 0) v.is in
    let e3 : get_or c.args.lanes 3 0 ≡ v.d = ap (λ l. get_or l 3 0) v.is in
    let e4 : get_or c.args.lanes 4 0 ≡ v.e = ap (λ l. get_or l 4 0) v.is in
    let e5 : get_or c.args.lanes 5 0 ≡ v.f = ap (λ l. get_or l 5 0) v.is in
    let e6 : get_or c.args.lanes 6 0 ≡ v.g = ap (λ l. get_or l 6 0) v.is in
    let e7 : get_or c.args.lanes 7 0 ≡ v.h = ap (λ l. get_or l 7 0) v.is in
    rw v.is (simp (
      c.min-7.ensures,
      c.min-6.ensures,
      c.min-5.ensures,
      c.min-4.ensures,
      c.min-3.ensures,
      c.min-2.ensures,
      c.min.ensures,
      e0,
      e1,
      e2,
      e3,
      e4,
      e5,
      e6,
      e7,
    ) (let t : min v.h 18446744073709551615 ≡ v.h =
    omega (arith, small) in rw t))
