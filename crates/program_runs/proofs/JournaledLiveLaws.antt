-- A session with a journal.
use Rattle.std.proofs.Common.{◌≡◌, ◌<◌, ◌≤◌, ℕ, Bool, true, false, Some, None, Result, Ok, Err, IfOk, refl, inl, inr}
use Rattle.std.proofs.Common.{IfErr, arith}
use Rattle.auction.specs.ConfigFault.{open_fault}
use Rattle.auction_terms.specs.Auxiliary.RunningAuction.{RunningAuction}
use Rattle.byte_streams.specs.declared.sink.Sink as sink
use Rattle.byte_streams.specs.declared.source.Source as source
use Rattle.journal.specs.declared.day.DayHeader.{DayHeader}
use Rattle.journal_file.specs.declared.file.OpenFileFault.TheVariants.{Busy, Failed, Foreign, NotRegular, Stream}
use Rattle.journal_file.specs.declared.file.OpenFileFault.TheVariants.{Shared}
use Rattle.journal_file.specs.declared.journal.CommittedLines.{CommittedLines}
use Rattle.live_session.specs.Begun.{HasBegun}
use Rattle.live_session.specs.JournaledRun.{SessionEnds, ends_at, kept_ends}
use Rattle.live_session.specs.declared.beginning.Begun.{Begun}
use Rattle.live_session.specs.declared.begin_fault.BeginFault.{BeginFault}
use Rattle.live_session.specs.declared.begin_fault.BeginFault.TheVariants as begin
use Rattle.live_session.specs.declared.begin_fault.ResumeFault.{ResumeFault}
use Rattle.live_session.specs.declared.begin_fault.ResumeFault.TheVariants as resume
use Rattle.live_session.specs.Talk.{EndsSession}
use Rattle.live_session.specs.declared.fault.Ending.{Ending}
use Rattle.live_session.specs.declared.fault.Ending.TheVariants.{AllGood, SomeBad}
use Rattle.live_session.specs.declared.fault.LiveFault.{LiveFault}
use Rattle.live_session.specs.declared.terms.SessionTerms.{SessionTerms}
use Rattle.settings.specs.declared.types.JournalFile.{JournalFile}
use Rattle.program_runs.specs.FileRun.{ends_of}
use Rattle.program_runs.specs.JournaledLive.{EndsWithStatus, IsBegunFor, IsReason, IsRefusedOn, JournalFiles}
use Rattle.program_runs.specs.JournaledLive.{RunsJournaledSession, RunsToEnd}
use Rattle.program_runs.specs.JournaledLive.{begin_status, journaled_status, resume_status}
use Rattle.program_runs.specs.LiveRun.{terms_of}
use Rattle.program_runs.specs.declared.journaling.JournaledFault.{JournaledFault}
use Rattle.program_runs.specs.declared.journaling.JournaledFault.TheVariants as journaled
use Rattle.program_runs.proofs.ServedLaws.{file-small, open-small}

resume-small : (f : ResumeFault) → resume_status f ≤ 4
resume-small (resume.File f) = file-small f
resume-small (resume.AnotherDay day) = omega arith
resume-small (resume.Unlawful entry recorded) = omega arith

begin-small : (f : BeginFault) → begin_status f ≤ 4
begin-small begin.NotAJournal = omega arith
begin-small (begin.Resume f) = resume-small f
begin-small (begin.Damaged number bytes) = omega arith
begin-small (begin.Device error) = omega arith
begin-small begin.NoMemory = omega arith

journaled-small : (f : JournaledFault) → journaled_status f ≤ 4
journaled-small (journaled.Day f) = open-small f
journaled-small (journaled.Opening Busy) = omega arith
journaled-small (journaled.Opening NotRegular) = omega arith
journaled-small (journaled.Opening Foreign) = omega arith
journaled-small (journaled.Opening Stream) = omega arith
journaled-small (journaled.Opening Shared) = omega arith
journaled-small (journaled.Opening (Failed error)) = omega arith
journaled-small (journaled.Begin f) = begin-small f

ended-small : (ended : Result Ending LiveFault) (is_closed : Bool) (status : ℕ) → EndsWithStatus ended is_closed status
    → status ≤ 4
ended-small ended false status is = omega (arith, is)
ended-small (Ok AllGood) true status is = omega (arith, is)
ended-small (Ok SomeBad) true status is = omega (arith, is)
ended-small (Err f) true status is = omega (arith, is)

never-two : (ended : Result Ending LiveFault) (is_closed : Bool) (status : ℕ) → EndsWithStatus ended is_closed status
    → status ≡ 2 → ⊥
never-two ended false status is two = omega (arith, is, two)
never-two (Ok AllGood) true status is two = omega (arith, is, two)
never-two (Ok SomeBad) true status is two = omega (arith, is, two)
never-two (Err f) true status is two = omega (arith, is, two)

failed-read : (terms : SessionTerms) (start : RunningAuction) (before after : SessionEnds)
    (ended : Result Ending LiveFault) (is_closed : Bool) (status : ℕ)
    → EndsSession kept_ends terms start before after ended → EndsWithStatus ended is_closed status
    → before.read_failures < after.read_failures → status ≡ 3
failed-read terms start before after ended false status h is f = is
failed-read terms start before after (Ok ending) true status h is f =
    let same = h.reads in absurd (omega (arith, same, f))
failed-read terms start before after (Err fault) true status h is f = is

failed-write : (terms : SessionTerms) (start : RunningAuction) (before after : SessionEnds)
    (ended : Result Ending LiveFault) (is_closed : Bool) (status : ℕ)
    → EndsSession kept_ends terms start before after ended → EndsWithStatus ended is_closed status
    → before.write_failures < after.write_failures → status ≡ 3
failed-write terms start before after ended false status h is f = is
failed-write terms start before after (Ok ending) true status h is f =
    let same = h.answered.writes in absurd (omega (arith, same, f))
failed-write terms start before after (Err fault) true status h is f = is

module _ {D : Type 0} (files : JournalFiles D) (file : JournalFile) (day : DayHeader) where
  -- it began on a file that was opened, or didn't
  pub begun-for : (r : Result (Begun D) JournaledFault) (opened : D) → open_fault day.config ≡ None
      → files.Opens file opened
      → IfOk r (λ begun. HasBegun files.device day opened begun.journal begun.auction begun.cut)
      → IfOk r (λ begun. IsBegunFor files file day begun.journal begun.auction)
  begun-for (Ok begun) opened opens was_opened h =
      record { opens = opens; device = opened; cut = begun.cut; opened = was_opened; begun = h }
  begun-for (Err f) opened opens was_opened h = tt

  pub refused-on : (r : Result (Begun D) JournaledFault) (opened : D) → open_fault day.config ≡ None
      → files.Opens file opened → IfErr r (IsRefusedOn files.device day opened files.left)
      → IfErr r (IsReason files file day)
  refused-on (Ok begun) opened opens was_opened h = tt
  refused-on (Err (journaled.Day f)) opened opens was_opened h = absurd h
  refused-on (Err (journaled.Opening f)) opened opens was_opened h = absurd h
  refused-on (Err (journaled.Begin f)) opened opens was_opened (last, left, why) =
      record { opens = opens; device = opened; opened = was_opened; last = last; left = left; why = why }

module _ {D : Type 0} (files : JournalFiles D) (file : JournalFile) (day : DayHeader) (reserve : ℕ) {R O : Type 0}
    (reads : source.Ghosts R) (writes : sink.Ghosts O) where
  -- it didn't begin
  pub not-begun : (reader : R) (out : O) (why : JournaledFault) (status : ℕ) → IsReason files file day why
      → status ≡ journaled_status why
      → RunsJournaledSession files file day reserve (ends_of reads writes reader reader out out) status
  not-begun reader out why status reason is = record {
    came = inl (record {
      why = why;
      reason = reason;
      status_is = is;
      rest = refl;
      new = refl;
      none_read = λ f. omega (arith, f);
      none_written = λ f. omega (arith, f);
    });
    quiet = λ two. refl;
    read_failed = λ f. absurd (omega (arith, f));
    write_failed = λ f. absurd (omega (arith, f));
    small = rw is (journaled-small why);
  }

  -- it ran
  pub ran-journaled : (reader last_reader : R) (out last_out : O) (start : RunningAuction)
      (journal closed : CommittedLines D) (status : ℕ) → IsBegunFor files file day journal start
      → RunsToEnd files.device (terms_of day reserve) start journal closed.device
      (ends_at (reads.left reader) (writes.written out) (reads.failures reader) (writes.failures out))
      (ends_at (reads.left last_reader) (writes.written last_out) (reads.failures last_reader)
      (writes.failures last_out)) status → files.left ≡ Some closed.device
      → RunsJournaledSession files file day reserve (ends_of reads writes reader last_reader out last_out) status
  ran-journaled reader last_reader out last_out start journal closed status begun ran left =
      record {
        came = inr (record {
          start = start;
          journal = journal;
          begun = begun;
          ended = ran.ended;
          last = ran.last;
          reads = reads.failures reader;
          reads_after = reads.failures last_reader;
          writes = writes.failures out;
          writes_after = writes.failures last_out;
          session = ran.session;
          read_failed = (λ f. f, λ f. f);
          write_failed = (λ f. f, λ f. f);
          is_closed = ran.is_closed;
          closed = closed;
          closing = ran.closing;
          left = left;
          status_is = ran.status_is;
        });
        quiet = λ two. absurd (never-two ran.ended ran.is_closed status ran.status_is two);
        read_failed = λ f. failed-read (terms_of day reserve) start _ _ ran.ended ran.is_closed status
            ran.session.session ran.status_is f;
        write_failed = λ f. failed-write (terms_of day reserve) start _ _ ran.ended ran.is_closed status
            ran.session.session ran.status_is f;
        small = ended-small ran.ended ran.is_closed status ran.status_is;
      }
