-- Answers of `add_to_line` (src/line.rt): what the prover left open; rt looks here.
-- Of `add_to_line`: as many bytes as there is room for, in the form that `rt` wants.
use Rattle.std.proofs.Common.{◌+◌, ◌∙◌, rules}
use Rattle.live_session.proofs.InputLineLaws.{filled}
use Rattle.live_session.specs.declared.line.TheConstants.{MAX_RECORD_BYTES}
use Rattle.live_session.proofs.line.add_to_line.Goals as goal

pub returns : goal.returns
returns c = λ le.
    c.in_ok-extend_from_slice.ensures.items
    ∙ filled (MAX_RECORD_BYTES + 1) c.saturating_sub-room.result c.min.result c.args.line.now.items c.args.bytes.now _
    le
    (search rules) (search rules) c.split_at.ensures.front
