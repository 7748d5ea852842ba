-- A text that goes to a sink.
use Rattle.std.specs.Prelude.{ℕ, List, Result}
use Rattle.byte_streams.specs.Streams.{ReportsFailure, AppendsOrBegins}
use Rattle.byte_streams.specs.declared.sink.Sink.{Ghosts}
use Rattle.byte_streams.specs.declared.writing.WriteFailed.{WriteFailed}

-- the sink took the whole text, or failed after a beginning of it
pub record WritesAll {S : Type 0} (sink : Ghosts S) (old new : S) (r : Result (Unit {0}) WriteFailed)
    (bytes : List ℕ) : Type 0 where
  pub text : AppendsOrBegins (sink.written old) (sink.written new) r bytes
  pub failed : ReportsFailure (sink.failures old) (sink.failures new) r
