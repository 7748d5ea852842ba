-- Answers of `put_broken` (src/printing.rt): what the prover left open; rt looks here.
use Rattle.std.proofs.Common.{append_assoc}
use Rattle.day_audit.proofs.printing.put_broken.Goals as goal

pub returns : goal.returns
returns c =
    rw (
      c.put-3.ensures.text,
      c.put_number-2.ensures.text,
      c.put-2.ensures.text,
      c.put_number.ensures.text,
      c.put.ensures.text,
    ) (simp append_assoc)
