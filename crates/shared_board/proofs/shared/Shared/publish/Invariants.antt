-- Invariants of the loops of `Shared::publish` (src/shared.rt); rt looks here.
use Rattle.board_terms.specs.BoardViews.{IsSnapshotOf}
use Rattle.shared_board.proofs.shared.Shared.publish.Given as goal

abbrev pub invariant-loop : goal.invariant-loop
invariant-loop l = IsSnapshotOf l.self.locked l.view.front l.view.shown
