-- What is printed of a day, in each form.
use Rattle.std.specs.Prelude.{ℕ, List, [], ◌∷◌, map, Result, Ok, Err}
use Rattle.auction_terms.specs.declared.Call.{Call}
use Rattle.auction_terms.specs.declared.Config.{Config}
use Rattle.auction_terms.specs.declared.Entry.{Entry}
use Rattle.auction_terms.specs.declared.Reply.{Reply}
use Rattle.auction_terms.specs.Day.{State, opening_state, step}
use Rattle.day_tables.specs.AnsweredCalls.{entry_of}
use Rattle.day_tables.specs.BookTable.{book_text}
use Rattle.day_tables.specs.TradeTable.{trades_text}
use Rattle.journal.specs.JournalText.{journal_text}
use Rattle.journal.specs.WideReplies.{AreWide}
use Rattle.journal.specs.declared.day.DayHeader.{DayHeader}
use Rattle.printed_lines.specs.ReplyLines.{lines}
use Rattle.settings.specs.declared.types.Form.{Form}
use Rattle.settings.specs.declared.types.Form.TheVariants as forms
use Rattle.settings.specs.declared.types.Listing.{Listing}
use Rattle.settings.specs.declared.types.Listing.TheVariants.{Journal, Trades, Book}
use Rattle.program_runs.specs.declared.fault.Fault.{Fault}
use Rattle.program_runs.specs.declared.fault.Fault.TheVariants as fault

-- ---- a day's entries

-- calls from a state on, each with its reply
abbrev pub entries_from : Config → State → List Call → List Entry
entries_from config state [] = []
entries_from config state (call ∷ calls) =
    entry_of call (step config state call).1 ∷ entries_from config (step config state call).0 calls

-- the history of a day on which these calls come, in this order
abbrev pub history_of : Config → List Call → List Entry
history_of config calls = entries_from config (opening_state config) calls

abbrev pub reply_in : Entry → Reply
reply_in entry = entry.reply

-- ---- their text

abbrev pub listing_text : Listing → DayHeader → List Entry → List ℕ
listing_text Journal day entries = journal_text day entries
listing_text Trades day entries = trades_text day.config entries
listing_text Book day entries = book_text day.config entries

-- the lines of the replies, or a listing of the day
abbrev pub printed : Form → DayHeader → List Entry → List ℕ
printed forms.Lines day entries = lines (map reply_in entries)
printed (forms.Listing listing) day entries = listing_text listing day entries

-- ---- the replies of a journal

-- in a journal each number of a reply is below 2 ^ 64
abbrev pub IsWideListing : Listing → List Entry → Type 0
IsWideListing Journal entries = AreWide entries
IsWideListing Trades entries = Unit {0}
IsWideListing Book entries = Unit {0}

abbrev pub IsWideForm : Form → List Entry → Type 0
IsWideForm forms.Lines entries = Unit {0}
IsWideForm (forms.Listing listing) entries = IsWideListing listing entries

-- ---- the faults of printing

-- a fault of printing a day that is over
abbrev pub IsOfListing : Fault → Type 0
IsOfListing fault.NoMemory = Unit {0}
IsOfListing fault.WriteFailed = Unit {0}
IsOfListing f = ⊥

-- it is so where at least a beginning was written
abbrev pub IfBegun : Result (Unit {0}) Fault → Type 0 → Type 0
IfBegun (Ok done) IsSo = IsSo
IfBegun (Err fault.WriteFailed) IsSo = IsSo
IfBegun (Err f) IsSo = Unit {0}
