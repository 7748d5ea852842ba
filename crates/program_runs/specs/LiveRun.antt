-- What a live session does with an input that comes: what any session does (`EndsSession`), by the ends of a run.
use Rattle.std.specs.Prelude.{◌≡◌, ◌<◌, ◌↔◌, ℕ, None, Result, Ok, Err, unwrap_or}
use Rattle.auction_terms.specs.Auxiliary.RunningAuction.{RunningAuction, opened_auction}
use Rattle.auction.specs.ConfigFault.{open_fault}
use Rattle.auction.specs.declared.OpenFault.{OpenFault}
use Rattle.auction.specs.declared.OpenFault.TheVariants.{NoMemory}
use Rattle.journal.specs.declared.day.DayHeader.{DayHeader}
use Rattle.live_session.specs.JournaledRun.{SessionEnds, kept_ends}
use Rattle.live_session.specs.Talk.{EndsSession}
use Rattle.live_session.specs.declared.fault.Ending.{Ending}
use Rattle.live_session.specs.declared.fault.Ending.TheVariants.{AllGood, SomeBad}
use Rattle.live_session.specs.declared.fault.LiveFault.{LiveFault}
use Rattle.live_session.specs.declared.terms.SessionTerms.{SessionTerms}
use Rattle.program_runs.specs.declared.live.SessionFault.{SessionFault}
use Rattle.program_runs.specs.declared.live.SessionFault.TheVariants.{Live, Open}
use Rattle.program_runs.specs.FileRun.{Ends}
use Rattle.program_runs.specs.Status.{open_status}

-- how a session ended
abbrev pub SessionResult : Type 0
SessionResult = Result Ending SessionFault

-- what comes of a session whose day was opened
abbrev pub as_session : Result Ending LiveFault → SessionResult
as_session (Ok ending) = Ok ending
as_session (Err f) = Err (Live f)

-- 1 where a record was bad
abbrev pub ending_status : Ending → ℕ
ending_status AllGood = 0
ending_status SomeBad = 1

-- that of a run whose day can't be opened, and else 3
abbrev pub live_status : SessionFault → ℕ
live_status (Open f) = open_status f
live_status (Live f) = 3

abbrev pub session_status : SessionResult → ℕ
session_status (Ok ending) = ending_status ending
session_status (Err f) = live_status f

-- the day's members, and how many of its last calls are the operator's
abbrev pub terms_of : DayHeader → ℕ → SessionTerms
terms_of day reserve = record { members = day.members; reserve = reserve }

-- A session ran between these ends, on an auction that began so.
pub record HasRunSession (terms : SessionTerms) (start : RunningAuction) (ends : Ends) (ended : Result Ending LiveFault)
    : Type 0 where
  pub before : SessionEnds
  pub after : SessionEnds
  pub session : EndsSession kept_ends terms start before after ended
  pub left : ends.left ≡ before.left
  pub rest : ends.rest ≡ after.left
  pub old : ends.old ≡ before.written
  pub new : ends.new ≡ after.written
  pub read_failed : ends.ReadFailed ↔ (before.read_failures < after.read_failures)
  pub write_failed : ends.WriteFailed ↔ (before.write_failures < after.write_failures)

-- The day couldn't be opened: nothing was read, and nothing written.
pub record HasNotOpenedDay (day : DayHeader) (ends : Ends) (fault : OpenFault) : Type 0 where
  pub why : fault ≡ unwrap_or (open_fault day.config) NoMemory
  pub rest : ends.rest ≡ ends.left
  pub new : ends.new ≡ ends.old
  pub none_read : ends.ReadFailed → ⊥
  pub none_written : ends.WriteFailed → ⊥

-- what came of a session of this day, with `reserve` calls for the operator
abbrev pub RunsLive : DayHeader → ℕ → Ends → SessionResult → Type 0
RunsLive day reserve ends (Ok ending) =
    (open_fault day.config ≡ None)
    × HasRunSession (terms_of day reserve) (opened_auction day.config) ends (Ok ending)
RunsLive day reserve ends (Err (Live f)) =
    (open_fault day.config ≡ None) × HasRunSession (terms_of day reserve) (opened_auction day.config) ends (Err f)
RunsLive day reserve ends (Err (Open f)) = HasNotOpenedDay day ends f
