-- Answers of `BoardView::again` (src/versions.rt): what the prover would search for long; rt looks here.
use Rattle.std.proofs.Common.{◌∙◌}
use Rattle.member_board.proofs.versions.BoardView.again.Goals as goal

pub of-requires : goal.of-requires
of-requires g c = rw c.again.ensures c.self.invariant

pub returns : goal.returns
returns g c = c.of.ensures ∙ rw c.again.ensures c.self.view_is
