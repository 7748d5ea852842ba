-- A live session on the program's ends.
use Rattle.std.proofs.Common.{◌≡◌, ◌<◌, ℕ, Option, None, Some, Ok, Err, IfSome, refl, ap₂, sym, subst, ◌∙◌}
use Rattle.std.specs.Prelude.{Result}
use Rattle.auction_terms.specs.Auxiliary.RunningAuction.{RunningAuction, opened_auction}
use Rattle.auction.specs.ConfigFault.{open_fault}
use Rattle.auction.specs.declared.OpenFault.{OpenFault}
use Rattle.journal.specs.declared.day.DayHeader.{DayHeader}
use Rattle.live_session.proofs.JournaledRunLaws.{as-ends, seen_as}
use Rattle.live_session.specs.Talk.{EndsSession}
use Rattle.live_session.specs.declared.conversation.Conversation.{Ghosts}
use Rattle.live_session.specs.declared.fault.Ending.{Ending}
use Rattle.live_session.specs.declared.fault.LiveFault.{LiveFault}
use Rattle.live_session.specs.declared.terms.SessionTerms.{SessionTerms}
use Rattle.byte_streams.specs.declared.sink.Sink as sink
use Rattle.byte_streams.specs.declared.source.Source as source
use Rattle.program_runs.specs.FileRun.{Ends, ends_of}
use Rattle.program_runs.specs.LiveRun.{HasRunSession, RunsLive, as_session, terms_of}

-- a device before and after a session, as the ends of a run
abbrev pub ends_between : {C : Type 0} → Ghosts C → C → C → Ends
ends_between c old new = record {
  left = c.left old;
  rest = c.left new;
  old = c.written old;
  new = c.written new;
  ReadFailed = c.read_failures old < c.read_failures new;
  WriteFailed = c.write_failures old < c.write_failures new;
}

-- what a session does, by its ends alone
ran-session : {C : Type 0} (c : Ghosts C) (terms : SessionTerms) (start : RunningAuction) (old new : C)
    (ended : Result Ending LiveFault)
    → EndsSession c terms start old new ended → HasRunSession terms start (ends_between c old new) ended
ran-session c terms start old new ended h = record {
  before = seen_as c old;
  after = seen_as c new;
  session = as-ends c terms start old new ended h;
  left = refl;
  rest = refl;
  old = refl;
  new = refl;
  read_failed = (λ f. f, λ f. f);
  write_failed = (λ f. f, λ f. f);
}

ran-live : {C : Type 0} (c : Ghosts C) (day : DayHeader) (reserve : ℕ) (old new : C)
    (ended : Result Ending LiveFault) → open_fault day.config ≡ None
    → EndsSession c (terms_of day reserve) (opened_auction day.config) old new ended
    → RunsLive day reserve (ends_between c old new) (as_session ended)
ran-live c day reserve old new (Ok ending) opens h = (opens, ran-session c _ _ old new (Ok ending) h)
ran-live c day reserve old new (Err f) opens h = (opens, ran-session c _ _ old new (Err f) h)

-- by the reader and the writer that a session was given, and what they are at last
pub ran-by : {C R O : Type 0} (c : Ghosts C) (day : DayHeader) (reserve : ℕ) (start : RunningAuction) (old new : C)
    (ended : Result Ending LiveFault) → open_fault day.config ≡ None → start ≡ opened_auction day.config
    → EndsSession c (terms_of day reserve) start old new ended
    → (reads : source.Ghosts R) (writes : sink.Ghosts O) (reader last_reader read : R) (out last_out written : O)
    → ends_between c old new ≡ ends_of reads writes reader read out written → last_reader ≡ read → last_out ≡ written
    → RunsLive day reserve (ends_of reads writes reader last_reader out last_out) (as_session ended)
ran-by {R = R} {O = O} c day reserve start old new ended opens begun ran reads writes reader last_reader read out
    last_out written same is_read is_written =
    subst (λ (ends : Ends). RunsLive day reserve ends (as_session ended))
    (same ∙ sym (ap₂ (λ (r : R) (w : O). ends_of reads writes reader r out w) is_read is_written))
    (ran-live c day reserve old new ended opens
    (subst (λ (a : RunningAuction). EndsSession c (terms_of day reserve) a old new ended) begun ran))

-- an auction was opened only where there is no reason against it
pub opened-well : (reason : Option OpenFault) (auction : RunningAuction)
    → IfSome reason (λ f. Ok auction ≡ Err f) → reason ≡ None
opened-well None auction h = refl
opened-well (Some f) auction h = absurd (cc (h))
