-- The tables of a day's book that are kept until they are printed.
use Rattle.std.specs.Prelude.{◌≡◌, ℕ, ◌+◌, ◌-◌, List, [], ◌∷◌, ◌++◌, length}
use Rattle.auction_terms.specs.declared.Config.{Config}
use Rattle.auction_terms.specs.declared.Entry.{Entry}
use Rattle.auction_terms.specs.Day.{State, opening_state}
use Rattle.auction_terms.specs.Auxiliary.RunningAuction.{RunningAuction}
use Rattle.day_tables.specs.declared.recording.RecordedTable.{RecordedTable}
use Rattle.day_tables.specs.declared.recording.BookRecorder.{BookRecorder}
use Rattle.day_tables.specs.BookTable.{table_before, tables_after}
use Rattle.day_tables.specs.ShownTable.{IsShownIn}
use Rattle.day_tables.specs.TableCurves.{HasRoomForTicks}

-- these tables have this text
abbrev pub AreTables : Config → List RecordedTable → List ℕ → Type 0
AreTables config [] text = text ≡ []
AreTables config (table ∷ tables) text =
    (state : State) × IsShownIn config state table.heading table.ladder
    × (rest : List ℕ) × (text ≡ table_before config table.heading.command state ++ rest)
    × AreTables config tables rest

-- the tables that a day of these entries has
abbrev pub tables_of : Config → List Entry → List ℕ
tables_of config entries = tables_after config 0 (opening_state config) entries

-- the curves have room for the ladder of a day
abbrev pub HasRoomFor : Config → BookRecorder → Type 0
HasRoomFor config book = HasRoomForTicks (config.high + 1 - config.low) book.curves

-- The tables before the uncrosses among these entries are kept, after which this is the auction: whatever comes then,
-- its tables are those that follow.
pub record HasTablesSoFar (book : BookRecorder) (auction : RunningAuction) (entries : List Entry) : Type 0 where
  pub room : HasRoomFor auction.config book
  pub calls : auction.calls ≡ length entries
  pub front : List ℕ
  pub tables : AreTables auction.config book.tables.items front
  pub goes_on : (more : List Entry)
      → front ++ tables_after auction.config (length entries) auction.state more
      ≡ tables_of auction.config (entries ++ more)

-- all tables of a day of these entries are kept
pub record HasAllTables (book : BookRecorder) (config : Config) (entries : List Entry) : Type 0 where
  pub room : HasRoomFor config book
  pub tables : AreTables config book.tables.items (tables_of config entries)
