-- What an audit has found of what it heard.
use Rattle.std.specs.Prelude.{◌≡◌, ◌≤◌, ◌++◌, ℕ, Bool, if◌then◌else◌, List, [], length, map, Option, None, unwrap_or}
use Rattle.std.specs.Prelude.{Result, Ok, Err}
use Rattle.auction.specs.ConfigFault.{open_fault}
use Rattle.auction.specs.declared.OpenFault.TheVariants.{NoMemory}
use Rattle.auction_terms.specs.Auxiliary.RunningAuction.{RunningAuction}
use Rattle.auction_terms.specs.declared.AuctionKind.{AuctionKind}
use Rattle.day_road.specs.Heard.{HeardEntry, reply_heard}
use Rattle.day_road.specs.ReplyPairs.{pair_in, pairs_in}
use Rattle.journal.specs.JournalFile.{RecordedDay}
use Rattle.order_file.specs.File.{FailsAsWanted}
use Rattle.order_file.specs.declared.fault.FileFault.{FileFault}
use Rattle.printed_lines.specs.KeptText.{kept_text}
use Rattle.day_audit.specs.AuditCounts.{counts_of}
use Rattle.day_audit.specs.AuditText.{counts_text, differences}
use Rattle.day_audit.specs.ResultsText.{behind_line, current_auction_line, printed_text, uncross_lines}
use Rattle.day_audit.specs.declared.findings.Findings.{Findings}
use Rattle.day_audit.specs.declared.fault.AuditFault.{AuditFault}
use Rattle.day_audit.specs.declared.fault.AuditFault.TheVariants.{File, Open, WriteFailed}

-- these entries were heard
pub record HasFound (findings : Findings) (heard : List HeardEntry) : Type 0 where
  pub counts : findings.counts ≡ counts_of (map pair_in heard)
  pub entries : findings.counts.entries ≡ length heard
  pub compared : findings.counts.compared ≤ length heard
  pub unlawful : findings.counts.unlawful ≤ length heard
  pub lines : kept_text findings.lines ≡ differences 0 (map pair_in heard)
  pub results : kept_text findings.results ≡ uncross_lines 0 (map reply_heard heard)

-- and they are all that came to this auction
abbrev pub HasFoundOf : Findings → RunningAuction → List HeardEntry → Type 0
HasFoundOf findings auction heard = HasFound findings heard × (length heard ≡ auction.calls)

-- what is printed of it
abbrev pub found_text : Bool → Findings → Option AuctionKind → List ℕ
found_text results findings current = kept_text findings.lines ++ (counts_text findings.counts
    ++ (if results then kept_text findings.results ++ current_auction_line current else []))

-- and of a copy that has as many bytes behind its whole lines
abbrev pub found_copy_text : Bool → Findings → Option AuctionKind → ℕ → List ℕ
found_copy_text results findings current behind =
    found_text results findings current ++ behind_line behind findings.counts.entries

-- A journal was audited: this was found, or it is at fault, or can't be opened.
abbrev pub HasAudited : Result RecordedDay FileFault → Findings → Result (Option AuctionKind) AuditFault → Type 0
HasAudited said findings (Ok current) = (j : RecordedDay) × (said ≡ Ok j) × (open_fault j.day.config ≡ None)
    × (findings.counts ≡ counts_of (pairs_in j))
    × ((results : Bool) → found_text results findings current ≡ printed_text results j)
HasAudited said findings (Err (File f)) = FailsAsWanted f said
HasAudited said findings (Err (Open f)) =
    (j : RecordedDay) × (said ≡ Ok j) × (f ≡ unwrap_or (open_fault j.day.config) NoMemory)
HasAudited said findings (Err WriteFailed) = ⊥
