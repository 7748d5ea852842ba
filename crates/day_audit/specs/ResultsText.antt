-- The results of a day, which an audit prints after its own lines where they are wanted.
use Rattle.std.specs.Prelude.{ℕ, ◌+◌, ◌==◌, Bool, true, false, if◌then◌else◌, List, [], ◌∷◌, ◌++◌, Option, Some, None}
use Rattle.std.specs.Prelude.{codes, decimal}
use Rattle.auction_terms.specs.declared.AuctionKind.{AuctionKind}
use Rattle.auction_terms.specs.declared.Call.{Call}
use Rattle.auction_terms.specs.declared.Config.{Config}
use Rattle.auction_terms.specs.declared.Reply.{Reply}
use Rattle.auction_terms.specs.Day.{is_uncross_reply, replay}
use Rattle.printed_lines.specs.ReplyLines.{line}
use Rattle.printed_lines.specs.ReplyWords.{kind_word}
use Rattle.journal.specs.JournalFile.{RecordedDay}
use Rattle.day_road.specs.ReplyPairs.{pairs_in}
use Rattle.day_audit.specs.AuditCounts.{counts_of}
use Rattle.day_audit.specs.AuditText.{audit_text}
use Rattle.day_audit.specs.JournalCopies.{JournalCopy}

-- the line of a command's reply, if that is of an uncross that was accepted
abbrev pub uncross_line : ℕ → Reply → List ℕ
uncross_line number reply = if is_uncross_reply reply then line number reply else []

-- the lines of the uncrosses among replies after the first `before`
unfoldable pub uncross_lines : ℕ → List Reply → List ℕ
uncross_lines before [] = []
uncross_lines before (reply ∷ replies) = uncross_line (before + 1) reply ++ uncross_lines (before + 1) replies

-- the auction that the day is in, or that it is over
abbrev pub current_auction_line : Option AuctionKind → List ℕ
current_auction_line None = codes "day over\n"
current_auction_line (Some kind) = codes "in " ++ (kind_word kind ++ codes "\n")

-- the lines of the uncrosses of a day with these calls, and where the day is after them
abbrev pub results_text : Config → List Call → List ℕ
results_text config calls =
    uncross_lines 0 (replay config calls).1 ++ current_auction_line (replay config calls).0.auction

abbrev pub results_if : Bool → RecordedDay → List ℕ
results_if true j = results_text j.day.config j.calls
results_if false j = []

-- what an audit found, and then the results of the day, where they are wanted
abbrev pub printed_text : Bool → RecordedDay → List ℕ
printed_text results j = audit_text (pairs_in j) ++ results_if results j

-- how many bytes are behind the whole lines of a broken copy, and which entry they follow
abbrev pub broken_line : ℕ → ℕ → List ℕ
broken_line behind entries =
    codes "incomplete: " ++ (decimal behind ++ (codes " bytes follow entry " ++ (decimal entries ++ codes "\n")))

abbrev pub behind_line : ℕ → ℕ → List ℕ
behind_line behind entries = if behind == 0 then [] else broken_line behind entries

-- all that an audit prints of a copy
abbrev pub copy_text : Bool → JournalCopy → List ℕ
copy_text results copy =
    printed_text results copy.recorded
    ++ behind_line copy.behind (counts_of (pairs_in copy.recorded)).entries
