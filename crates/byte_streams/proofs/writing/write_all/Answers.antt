-- Answers of `write_all` (src/writing.rt): what the prover left open; rt looks here.
use Rattle.std.proofs.Common.{rules}
use Rattle.byte_streams.proofs.StreamLaws.{appends-more, done-more}
use Rattle.byte_streams.proofs.writing.write_all.Goals as goal

pub writes-preserved : goal.writes-preserved
writes-preserved g c =
    let inv = c.writes.invariant in (
      search rules,
      _,
      rw c.split_at.ensures.back (done-more _ _ _ c.in-Ok.count inv.2),
      appends-more _ _ _ _ _ inv.3 c.in-Ok.ensures.bytes,
    )
