-- What came of a session whose entries are kept.
use Rattle.std.specs.Prelude.{◌≡◌, ◌<◌, ℕ, List, [], ◌++◌, Option, Some, Result}
use Rattle.auction_terms.specs.Auxiliary.RunningAuction.{RunningAuction}
use Rattle.journal_file.specs.Committed.{IsBegun, committed}
use Rattle.journal_file.specs.Device.{LeavesOnly}
use Rattle.journal_file.specs.Settled.{IsSettled}
use Rattle.journal_file.specs.declared.journal.CommittedLines.{CommittedLines}
use Rattle.live_session.specs.Talk.{EndsSession}
use Rattle.live_session.specs.declared.conversation.Conversation.{Ghosts}
use Rattle.live_session.specs.declared.fault.Ending.{Ending}
use Rattle.live_session.specs.declared.fault.LiveFault.{LiveFault}
use Rattle.live_session.specs.declared.terms.SessionTerms.{SessionTerms}
use Rattle.live_session.specs.JournaledTalk.{HoldsAtLast, IsCauseOfFailure}

-- What is known of the ends of a session: bytes that are left to read, the text that was written, the lines of entries
-- that were committed, and how often each has failed.
pub record SessionEnds : Type 0 where
  pub left : Option (List ℕ)
  pub written : Option (List ℕ)
  pub committed : Option (List ℕ)
  pub read_failures : ℕ
  pub write_failures : ℕ
  pub commit_failures : ℕ

abbrev pub kept_ends : Ghosts SessionEnds
kept_ends = record {
  left = λ e. e.left;
  written = λ e. e.written;
  committed = λ e. e.committed;
  read_failures = λ e. e.read_failures;
  write_failures = λ e. e.write_failures;
  commit_failures = λ e. e.commit_failures;
  MayRead = λ e. Unit {0};
  MayWrite = λ e text. Unit {0};
  Becomes = λ a b. Unit {0};
}

abbrev pub ends_at : Option (List ℕ) → Option (List ℕ) → ℕ → ℕ → List ℕ → ℕ → SessionEnds
ends_at left written reads writes entries commits = record {
  left = left;
  written = written;
  committed = Some entries;
  read_failures = reads;
  write_failures = writes;
  commit_failures = commits;
}

-- It ran as any session does, and these lines of entries were committed; where a commit has failed, its own are lost. A
-- crash at any moment of it leaves what was committed before, and the first of both. Where no commit has failed, all of
-- them are committed. Where one has, a crash at last leaves them all and the first of the lost, and the file has
-- failed, or had no room.
pub record RunsJournaled {D : Type 0} (seen : D → List ℕ) (may_leave : D → List ℕ → Type 0) (moment : D → ℕ)
    (left_since : D → ℕ → List ℕ → Type 0) (faults : D → ℕ) (terms : SessionTerms) (start : RunningAuction)
    (old new : CommittedLines D) (begun ended : List ℕ → ℕ → SessionEnds)
    (result : Result Ending LiveFault) : Type 0 where
  pub entries : List ℕ
  pub lost : List ℕ
  pub failures : ℕ
  pub session : EndsSession kept_ends terms start (begun [] 0) (ended entries failures) result
  pub leaves : LeavesOnly moment left_since old.device new.device
      (IsBegun (committed (seen old.device)) (entries ++ lost))
  pub held : 0 < failures → HoldsAtLast moment left_since new.device (committed (seen old.device) ++ entries) lost
  pub failed : 0 < failures → IsCauseOfFailure seen faults old.device new.device (entries ++ lost)
  pub all : failures ≡ 0
      → IsSettled seen may_leave new × (committed (seen new.device) ≡ committed (seen old.device) ++ entries)
