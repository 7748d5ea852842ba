-- Answers of `print_tables` (src/recording.rt): what the prover left open; rt looks here.
use Rattle.std.proofs.Common.{◌∙◌, Ok, refl, sym, subst, append_assoc, []}
use Rattle.std.proofs.lemmas.List.{append-nil, drop_all}
use Rattle.day_tables.specs.BookRecorder.{AreTables}
use Rattle.day_tables.specs.TableCurves.{HasRoomForTicks}
use Rattle.printed_lines.proofs.PrinterLaws.{prints_among, prints_more, prints_none}
use Rattle.day_tables.proofs.BookRecorderLaws.{AreLong, next-table, tables-long}
use Rattle.day_tables.proofs.recording.print_tables.Goals as goal

pub loop-table-init : goal.loop-table-init
loop-table-init g c =
    let (config, text, room, are) = c.requires in (
      _,
      room,
      tables-long config _ text are,
      λ config text are. ([], text, refl, are, prints_none g.S.Sink c.args.printer.now),
    )

pub print_ladder-requires : goal.print_ladder-requires
print_ladder-requires g c =
    let (n, room, long, prints) = c.loop-table.invariant in
    let first =
    (subst (AreLong n) (next-table _ _ c.table-item.result c.table-item.is c.loop-table-test.true) long).0 in
    subst (λ k. HasRoomForTicks k c.loop-table.curves) (sym first) room

pub returns-in_err-print_ladder : goal.returns-in_err-print_ladder
returns-in_err-print_ladder g c = λ config text are.
    let (n, room, long, prints) = c.loop-table.invariant in
    let (front, rest, is, left, printed) = prints config text are in
    let (state, told, more, is_rest, others) =
    subst (λ tables. AreTables config tables rest)
    (next-table _ _ c.table-item.result c.table-item.is c.loop-table-test.true) left in
    prints_among more c.from_residual.ensures.0 (rw (← is_rest) is) printed
    (c.in_err-print_ladder.ensures.printed config state told)

pub loop-table-preserved : goal.loop-table-preserved
loop-table-preserved g c =
    let (n, room, long, prints) = c.loop-table.invariant in
    let next = next-table _ _ c.table-item.result c.table-item.is c.loop-table-test.true in
    let (first, longs) = subst (AreLong n) next long in (
      n,
      subst (λ k. HasRoomForTicks k c.print_ladder.new.curves) first c.in_ok-print_ladder.ensures.room,
      longs,
      λ config text are.
          let (front, rest, is, left, printed) = prints config text are in
          let (state, told, more, is_rest, others) = subst (λ tables. AreTables config tables rest) next left in (
            _,
            more,
            append_assoc front _ more ∙ (rw (← is_rest) is),
            others,
            prints_more {r =
                Ok tt} printed (c.in_ok-print_ladder.ensures.printed config state told),
          ),
    )

pub returns : goal.returns
returns g c = λ config text are.
    let (n, room, long, prints) = c.loop-table.invariant in
    let (front, rest, is, left, printed) = prints config text are in
    let none = subst (λ tables. AreTables config tables rest) (drop_all _ _ c.loop-table-test.false) left in
    rw (← is, none, append-nil front) printed
