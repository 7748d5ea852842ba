-- The members of a day's orders, id by id.
use Rattle.std.specs.Prelude.{ℕ, ◌-◌, ◌==◌, if◌then◌else◌, List, Option, None, filter, map, is_some, slice_get}
use Rattle.auction_terms.specs.declared.Entry.{Entry}
use Rattle.day_tables.specs.TradeTable.{entered_id}

-- the members of the entries that were accepted, in their order
abbrev pub entering_members : List Entry → List ℕ
entering_members entries =
    map (λ (entry : Entry). entry.member) (filter (λ (entry : Entry). is_some (entered_id entry.reply)) entries)

-- the member of an id, if ids are counted from 1
abbrev pub member_of_id : List ℕ → ℕ → Option ℕ
member_of_id members id = if id == 0 then None else slice_get members (id - 1)
