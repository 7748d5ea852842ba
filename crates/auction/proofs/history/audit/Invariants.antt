-- Invariants of the loops of `audit` (src/history.rt); rt looks here.
use Rattle.std.proofs.Common.{take}
use Rattle.auction.proofs.AuditLaws.{IsAudited}
use Rattle.auction.proofs.history.audit.Given as goal

abbrev pub invariant-loop-place : goal.invariant-loop-place
invariant-loop-place l = IsAudited l.fn.config (take l.place l.entries) l.auction
