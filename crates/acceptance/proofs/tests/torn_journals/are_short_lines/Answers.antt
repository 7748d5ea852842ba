-- Answers of `are_short_lines` (src/tests/torn_journals.rt): what the prover left open; rt looks here.
use Rattle.std.proofs.Common.{◌<◌, get_or, length, take, arith}
use Rattle.std.proofs.lemmas.List.{take_more}
use Rattle.acceptance.proofs.ShortLines.{byte-read, end-read}
use Rattle.acceptance.proofs.tests.torn_journals.are_short_lines.Goals as goal
use Rattle.acceptance.proofs.tests.torn_journals.are_short_lines.Goals.{then-byte-eq10, else-byte-eq10}

pub loop-byte-preserved : goal.loop-byte-preserved
loop-byte-preserved c =
    let xs = c.args.lines.now in
    let i = c.loop-byte.byte-index in
    let lt : i < length xs = c.loop-byte-test.true in
    let more = take_more xs i 0 lt in
    elim c.if-byte-eq10.branch [
      | then-byte-eq10 w ↦
          rw (w.count-is, more) (end-read (take i xs) c.loop-byte.count (get_or xs i 0) c.loop-byte.invariant
          w.if-byte-eq10.true)
      | else-byte-eq10 w ↦
          rw (w.count-is, more) (byte-read (take i xs) c.loop-byte.count (get_or xs i 0) c.loop-byte.invariant
          c.if-byte-eq0.false w.if-byte-eq10.false (omega (arith, c.if-count-ge-LONGEST_WRITE.false)))
    ]
