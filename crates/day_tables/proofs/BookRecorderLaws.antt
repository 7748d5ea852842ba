-- The tables of a book that are kept while a day's calls are applied.
use Rattle.std.proofs.Common.{◌≡◌, ◌∙◌, ◌+◌, ◌-◌, ◌<◌, ◌++◌, ◌∷◌, [], ℕ, List, length, drop, get_or, add-one, drop-cons}
use Rattle.std.proofs.Common.{refl, sym, ap, subst, append_assoc, length-append, Result, Ok, Err, OnOk}
use Rattle.std.proofs.lemmas.List.{append-nil}
use Rattle.std.specs.List.{AllByRecursion}
use Rattle.auction_terms.specs.declared.Call.{Call}
use Rattle.auction_terms.specs.declared.Config.{Config}
use Rattle.auction_terms.specs.declared.Entry.{Entry}
use Rattle.auction_terms.specs.Day.{State, step}
use Rattle.auction_terms.specs.Auxiliary.RunningAuction.{RunningAuction, auction_after_call, opened_auction}
use Rattle.auction.specs.AuctionState.{current_orders}
use Rattle.day_tables.specs.declared.recording.RecordedTable.{RecordedTable}
use Rattle.day_tables.specs.declared.recording.BookRecorder.{BookRecorder}
use Rattle.day_tables.specs.AnsweredCalls.{entry_of}
use Rattle.day_tables.specs.BookTable.{table_before, tables_after, text_before}
use Rattle.day_tables.specs.BookRecorder.{AreTables, HasTablesSoFar, HasRoomFor, HasAllTables, tables_of}
use Rattle.day_tables.specs.ShownTable.{IsShownIn}
use Rattle.day_tables.proofs.BookTableLaws.{ladder_ticks}

-- one table more
pub tables-more : (config : Config) (tables : List RecordedTable) (table : RecordedTable) (state : State) (front
    : List ℕ)
    → AreTables config tables front
    → IsShownIn config state table.heading table.ladder
    → AreTables config (tables ++ table ∷ []) (front ++ table_before config table.heading.command state)
tables-more config [] table state front is shown =
    (state, shown, [], rw is (sym (append-nil (table_before config table.heading.command state))), refl)
tables-more config (t ∷ ts) table state front (s, told, rest, is, more) shown = (
  s,
  told,
  rest ++ table_before config table.heading.command state,
  rw is (append_assoc (table_before config t.heading.command s) rest (table_before config table.heading.command state)),
  tables-more config ts table state rest more shown,
)

-- no table more
pub tables-same : (config : Config) (tables : List RecordedTable) (front : List ℕ) → AreTables config tables front
    → AreTables config tables (front ++ [])
tables-same config tables front are = subst (AreTables config tables) (sym (append-nil front)) are

-- no call yet
pub follows-none : (book : BookRecorder) (auction : RunningAuction) → auction ≡ opened_auction auction.config
    → HasRoomFor auction.config book → AreTables auction.config book.tables.items []
    → HasTablesSoFar book auction []
follows-none book auction fresh room are = record {
  room = room;
  calls = ap (λ (a : RunningAuction). a.calls) fresh;
  front = [];
  tables = are;
  goes_on =
      λ more. ap (λ (state : State). tables_after auction.config 0 state more)
      (ap (λ (a : RunningAuction). a.state) fresh);
}

-- one call more
pub follows-more : (old new : BookRecorder) (auction : RunningAuction) (call : Call) (entries : List Entry)
    → new.curves ≡ old.curves
    → ((front : List ℕ) → AreTables auction.config old.tables.items front
    → AreTables auction.config new.tables.items
    (front ++ text_before auction.config (auction.calls + 1) auction.state
    (step auction.config auction.state call).1))
    → HasTablesSoFar old auction entries
    → HasTablesSoFar new (auction_after_call auction call)
    (entries ++ entry_of call (step auction.config auction.state call).1 ∷ [])
unfolding tables_after
follows-more old new auction call entries curves tables is =
    let config = auction.config in
    let state = auction.state in
    let entry = entry_of call (step config state call).1 in
    let text = text_before config (auction.calls + 1) state (step config state call).1 in
    let long : length (entries ++ entry ∷ []) ≡ length entries + 1 = length-append entries (entry ∷ []) in
    record {
      room = rw curves is.room;
      calls = rw (is.calls, long) refl;
      front = is.front ++ text;
      tables = tables is.front is.tables;
      goes_on = λ more.
          rw (
            long,
            append_assoc entries (entry ∷ []) more,
            is.calls,
            append_assoc is.front _ (tables_after config (length entries + 1) (step config state call).0 more),
          )
          (is.goes_on (entry ∷ more));
    }

-- all calls
pub holds-closed : (old new : BookRecorder) (auction : RunningAuction) (entries : List Entry) → new.curves ≡ old.curves
    → ((front : List ℕ) → AreTables auction.config old.tables.items front
    → AreTables auction.config new.tables.items
    (front ++ table_before auction.config (auction.calls + 1) auction.state))
    → HasTablesSoFar old auction entries → HasAllTables new auction.config entries
unfolding tables_after
holds-closed old new auction entries curves tables is =
    let whole : is.front ++ table_before auction.config (auction.calls + 1) auction.state
    ≡ tables_of auction.config entries =
    rw is.calls (is.goes_on [] ∙ ap (λ (es : List Entry). tables_of auction.config es) (append-nil entries)) in
    record {
      room = rw curves is.room;
      tables = subst (AreTables auction.config new.tables.items) whole (tables is.front is.tables);
    }

-- ---- where memory may be refused

pub follows-kept : {E : Type 0} (r : Result (Unit {0}) E) (old new : BookRecorder) (auction : RunningAuction) (call
    : Call)
    (entries : List Entry) → new.curves ≡ old.curves
    → ((front : List ℕ) → AreTables auction.config old.tables.items front
    → OnOk r
    (AreTables auction.config new.tables.items
    (front ++ text_before auction.config (auction.calls + 1) auction.state
    (step auction.config auction.state call).1)))
    → HasTablesSoFar old auction entries
    → OnOk r
    (HasTablesSoFar new (auction_after_call auction call)
    (entries ++ entry_of call (step auction.config auction.state call).1 ∷ []))
follows-kept (Ok u) old new auction call entries curves tables is =
    follows-more old new auction call entries curves tables is
follows-kept (Err e) old new auction call entries curves tables is = tt

pub holds-kept : {E : Type 0} (r : Result (Unit {0}) E) (old new : BookRecorder) (auction : RunningAuction)
    (entries : List Entry) → new.curves ≡ old.curves
    → ((front : List ℕ) → AreTables auction.config old.tables.items front
    → OnOk r
    (AreTables auction.config new.tables.items
    (front ++ table_before auction.config (auction.calls + 1) auction.state)))
    → HasTablesSoFar old auction entries → OnOk r (HasAllTables new auction.config entries)
holds-kept (Ok u) old new auction entries curves tables is = holds-closed old new auction entries curves tables is
holds-kept (Err e) old new auction entries curves tables is = tt

-- ---- the tables, one by one

-- ladders with `n` ticks
abbrev pub AreLong : ℕ → List RecordedTable → Type 0
AreLong n tables = AllByRecursion (λ (table : RecordedTable). length table.ladder.bids ≡ n) tables

pub tables-long : (config : Config) (tables : List RecordedTable) (text : List ℕ) → AreTables config tables text
    → AreLong (config.high + 1 - config.low) tables
tables-long config [] text are = tt
tables-long config (t ∷ ts) text (state, told, rest, is, more) = (
  ladder_ticks config.low (config.high + 1 - config.low) (current_orders state) t.ladder told.over,
  tables-long config ts rest more,
)

-- the next table is the first of those that are left
pub next-table : (tables : List RecordedTable) (i : ℕ) (table : RecordedTable) → table ≡ get_or tables i table
    → i < length tables → drop i tables ≡ table ∷ drop (i + 1) tables
next-table tables i table is within =
    let next : drop i tables ≡ get_or tables i table ∷ drop (i + 1) tables =
    rw (add-one i) (drop-cons tables i table within) in
    next ∙ ap (λ (t : RecordedTable). t ∷ drop (i + 1) tables) (sym is)
