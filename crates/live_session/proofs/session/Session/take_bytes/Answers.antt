-- Answers of `Session::take_bytes` (src/session.rt): what the prover left open; rt looks here.
-- Of `Session::take_bytes`: the line is longer, in the form that `rt` wants.
use Rattle.std.proofs.Common.{◌+◌, ◌++◌, List, ℕ, length, take, ap, arith, ◌∙◌}
use Rattle.live_session.specs.declared.line.TheConstants.{MAX_RECORD_BYTES}
use Rattle.live_session.proofs.InputLineLaws.{take-short, take-twice}
use Rattle.live_session.proofs.session.Session.take_bytes.Goals as goal

pub returns : goal.returns
returns c = λ terms start lines given committed h. record {
  applied = h.applied;
  gathers = h.gathers;
  text = h.text;
  waiting = h.waiting;
  closed = h.closed;
  answers = h.answers;
  line = c.in_ok-add_to_line.ensures (omega (arith, ap length h.line, take-short (MAX_RECORD_BYTES + 1) lines.at_hand))
      ∙ ap (λ (x : List ℕ). take (MAX_RECORD_BYTES + 1) (x ++ c.args.bytes.now)) h.line
      ∙ take-twice (MAX_RECORD_BYTES + 1) lines.at_hand c.args.bytes.now;
}
