-- Answers of `scan_up` (src/running_sums.rt): what the prover left open; rt looks here.
use Rattle.std.proofs.Common.{arith}
use Rattle.lanes.proofs.Eight.{eight, same_eight}
use Rattle.lanes.proofs.running_sums.scan_up.Goals as goal

pub overflow_add-pairs : goal.overflow_add-pairs
overflow_add-pairs c =
    let v = eight c.args.lanes c.requires.eight in
    let h = rw v.is at c.requires.fits in
    rw v.is (
      record { fits = omega arith },
      (
        record { fits = omega arith },
        (
          record { fits = omega arith },
          (
            record { fits = omega arith },
            (
              record { fits = omega arith },
              (
                record {
                  fits =
                      omega arith;
                },
                (record { fits = omega arith }, (record { fits = omega arith }, tt)),
              ),
            ),
          ),
        ),
      ),
    )

pub overflow_add-fours : goal.overflow_add-fours
overflow_add-fours c =
    let v = eight c.args.lanes c.requires.eight in
    let h = rw v.is at c.requires.fits in
    rw v.is (
      record { fits = omega arith },
      (
        record { fits = omega arith },
        (
          record { fits = omega arith },
          (
            record { fits = omega arith },
            (
              record { fits = omega arith },
              (
                record {
                  fits =
                      omega arith;
                },
                (record { fits = omega arith }, (record { fits = omega arith }, tt)),
              ),
            ),
          ),
        ),
      ),
    )

pub overflow_add-result : goal.overflow_add-result
overflow_add-result c =
    let v = eight c.args.lanes c.requires.eight in
    let h = rw v.is at c.requires.fits in
    rw v.is (
      record { fits = omega arith },
      (
        record { fits = omega arith },
        (
          record { fits = omega arith },
          (
            record { fits = omega arith },
            (
              record { fits = omega arith },
              (
                record {
                  fits =
                      omega arith;
                },
                (record { fits = omega arith }, (record { fits = omega arith }, tt)),
              ),
            ),
          ),
        ),
      ),
    )

pub returns : goal.returns
returns c =
    let v = eight c.args.lanes c.requires.eight in
    rw v.is (same_eight _ _ _ _ _ _ _ _ _ _ _ _ _ _ _ _ (omega arith) (omega arith) (omega arith) (omega arith)
    (omega arith) (omega arith) (omega arith) (omega arith))
