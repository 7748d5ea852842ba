-- Answers of `write_row` (src/book.rt): what the prover left open; rt looks here.
use Rattle.std.proofs.Common.{◌≡◌, ◌+◌, ◌==◌, get_or, sym}
use Rattle.std.proofs.lemmas.List.{get_or_read_under}
use Rattle.day_tables.specs.TableRows.{row, row_end, side_between, demand_in, supply_in, rule_at}
use Rattle.day_tables.proofs.RecordLaws.{field-before, fields-before}
use Rattle.day_tables.proofs.book.write_row.Goals as goal

pub returns-clause-text : goal.returns-clause-text
unfolding row
returns-clause-text c =
    let t = c.args.table.now in
    let k = c.args.place in
    let room = c.requires.places.curves in
    let demand : c.index-demand.result.now ≡ demand_in t k =
    get_or_read_under _ _ _ _ 0 c.index-demand.ensures c.requires.place (sym room.demands) in
    let supply : c.index-supply.result.now ≡ supply_in t k =
    get_or_read_under _ _ _ _ 0 c.index-supply.ensures c.requires.place (sym room.supplies) in
    let best : c.index.result.now ≡ get_or t.curves.now.best.items k 0 =
    get_or_read_under _ _ _ _ 0 c.index.ensures c.requires.place (sym room.best) in
    let surplus : c.index-2.result.now ≡ get_or t.curves.now.surpluses.items k 0 =
    get_or_read_under _ _ _ _ 0 c.index-2.ensures c.requires.place (sym room.surpluses) in
    let volume : c.index-3.result.now ≡ get_or t.curves.now.volumes.items k 0 =
    get_or_read_under _ _ _ _ 0 c.index-3.ensures c.requires.place (sym room.volumes) in
    let end : c.put_end.new.text ≡ row_end (side_between (demand_in t k) (supply_in t k))
    (get_or t.curves.now.best.items k 0 == 1) (rule_at t (t.low + k)) =
    rw (c.side_of.ensures, demand, supply, best, c.tick_at-tick.ensures) at c.put_end.ensures.text in
    fields-before _ _ _ _ _ _ c.requires.head.head c.put_short.ensures.text
    (field-before _ _ _ _ (rw (c.from.ensures, c.tick_at-tick.ensures) at c.put_number-4.ensures.text)
    (field-before _ _ _ _ c.put_number-3.ensures.text
    (field-before _ _ _ _ c.put_number-2.ensures.text
    (field-before _ _ _ _ (rw (c.follow.ensures, demand) at c.put_figure-2.ensures.text)
    (field-before _ _ _ _ (rw (c.follow-2.ensures, supply) at c.put_figure.ensures.text)
    (field-before _ _ _ _ (rw volume at c.put_volume.ensures.text)
    (field-before _ _ _ _ (rw surplus at c.put_number.ensures.text) end)))))))
