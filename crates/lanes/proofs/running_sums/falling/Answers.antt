-- Answers of `falling` (src/running_sums.rt): what the prover left open; rt looks here.
use Rattle.std.proofs.Common.{◌≡◌, ◌+◌, ◌-◌, drop, sum, arith, ap}
use Rattle.std.proofs.lemmas.List.Sums.{sum_by-drop_more}
use Rattle.lanes.proofs.RunningSumLaws.{sum_drop_chunk, sum_drop_le, falling_eights}
use Rattle.lanes.proofs.running_sums.falling.Goals as goal

pub falling_eight-carry-requires-clause-fits : goal.falling_eight-carry-requires-clause-fits
falling_eight-carry-requires-clause-fits c =
    let src = c.args.src.now in
    let at = c.eights.at - 8 in
    let back : at + 8 ≡ c.eights.at = omega arith in
    let same : sum (drop (at + 8) src) ≡ sum (drop c.eights.at src) = ap (λ n. sum (drop n src)) back in
    omega (arith, sum_drop_chunk at 8 src, sum_drop_le at src)

pub eights-preserved : goal.eights-preserved
eights-preserved c =
    let src = c.args.src.now in
    let at = c.eights.at - 8 in
    let back : at + 8 ≡ c.eights.at = omega arith in
    let same : sum (drop (at + 8) src) ≡ sum (drop c.eights.at src) = ap (λ n. sum (drop n src)) back in
    record {
      within = omega arith;
      carried = omega (arith, sum_drop_chunk at 8 src, c.falling_eight-carry.ensures.carry);
      done =
          rw c.falling_eight-carry.ensures.written
          (falling_eights c.args.start c.eights.carry at c.eights.at src c.eights.out (omega arith) (omega arith)
          (omega arith) c.eights.invariant.carried c.eights.invariant.done);
    }

pub overflow_add-carry : goal.overflow_add-carry
overflow_add-carry c =
    let src = c.args.src.now in
    let at = c.rest.at - 1 in
    let back : at + 1 ≡ c.rest.at = omega arith in
    let same : sum (drop (at + 1) src) ≡ sum (drop c.rest.at src) = ap (λ n. sum (drop n src)) back in
    record { fits = omega (arith, sum_by-drop_more (λ n. n) src at 0 (omega arith), sum_drop_le at src) }
