-- Invariants of the loops of `fill_down` (src/filling.rt); rt looks here.
use Rattle.std.proofs.Common.{◌≡◌, ◌≤◌, ◌+◌, ◌++◌, drop, vec_len, vec_capacity}
use Rattle.allocation.specs.Claim.{filled_by}
use Rattle.allocation.proofs.filling.fill_down.Given as goal

abbrev pub invariant-loop-claim : goal.invariant-loop-claim
invariant-loop-claim l = record {
  items : l.fills.items ++ filled_by l.left (drop l.claim-index l.claims) ≡ l.fn.fills.items
      ++ filled_by l.volume l.claims;
  room : vec_len l.fills ≤ vec_len l.fn.fills + l.claim-index;
  capacity : vec_capacity l.fills ≡ vec_capacity l.fn.fills;
}
