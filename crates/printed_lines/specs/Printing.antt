-- What is printed by way of a page.
use Rattle.std.specs.Prelude.{◌≡◌, ℕ, [], ◌++◌, List, Option, Result, MatchResult}
use Rattle.std.specs.Borrow.{MutBor}
use Rattle.std.specs.Io.KnownBytes.{Appends}
use Rattle.byte_streams.specs.Streams.{AppendsBeginning, ReportsFailure}
use Rattle.byte_streams.specs.declared.sink.Sink.{Ghosts}
use Rattle.byte_streams.specs.declared.writing.WriteFailed.{WriteFailed}
use Rattle.printed_lines.specs.declared.printer.Printer.{Printer}

-- a new printer for a sink, with nothing on its page
pub record IsFresh {S : Type 0} (sink : MutBor S) (printer : Printer S) : Type 0 where
  pub sink_is : printer.sink ≡ sink
  pub page_is : printer.page ≡ []

-- some of a text was written, and the rest of it is on the page
abbrev pub KeepsOnPage : Option (List ℕ) → Option (List ℕ) → List ℕ → List ℕ → Type 0
KeepsOnPage old new page text = (done : List ℕ) × (done ++ page ≡ text) × Appends old new done

-- A text was printed: what was on the page and the text were written but for what is now on the page, or at a failure a
-- beginning of both. It failed where the count of failures rose.
pub record Prints {S : Type 0} (sink : Ghosts S) (old new : Printer S) (r : Result (Unit {0}) WriteFailed)
    (lines : List ℕ) : Type 0 where
  pub same_sink : new.sink.ghost_name ≡ old.sink.ghost_name
  pub text : MatchResult r
      (λ _. KeepsOnPage (sink.written old.sink.now) (sink.written new.sink.now) new.page (old.page ++ lines))
      (λ _. AppendsBeginning (sink.written old.sink.now) (sink.written new.sink.now) (old.page ++ lines))
  pub failed : ReportsFailure (sink.failures old.sink.now) (sink.failures new.sink.now) r
