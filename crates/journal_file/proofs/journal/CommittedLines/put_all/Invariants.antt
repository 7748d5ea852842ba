-- Invariants of the loop of `CommittedLines::put_all` (src/journal.rt); rt looks here.
use Rattle.std.proofs.Common.{length, ◌≡◌}
use Rattle.journal_file.proofs.Pieces.{HasPut}
use Rattle.journal_file.proofs.journal.CommittedLines.put_all.Given as goal

abbrev pub invariant-pieces : goal.invariant-pieces
invariant-pieces g l =
    HasPut g.D.Device.seen g.D.Device.may_leave g.D.Device.moment g.D.Device.left_since g.D.Device.faults l.fn.self
    l.self l.lines l.rest
    × (g.D.Device.aside l.self.device ≡ g.D.Device.aside l.fn.self.device)

abbrev pub decreases-pieces : goal.decreases-pieces
decreases-pieces g l = length l.rest
