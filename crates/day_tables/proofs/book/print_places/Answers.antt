-- Answers of `print_places` (src/book.rt): what the prover left open; rt looks here.
use Rattle.std.proofs.Common.{Ok, arith}
use Rattle.printed_lines.proofs.PrinterLaws.{prints_among, prints_more}
use Rattle.day_tables.proofs.BookTableLaws.{rows-next, rows-done, rows-end}
use Rattle.day_tables.proofs.book.print_places.Goals as goal

pub returns-in_err-print_place : goal.returns-in_err-print_place
returns-in_err-print_place g c =
    let inv = c.places.invariant in
    prints_among _ c.from_residual.ensures.0 (rows-next _ _ _ _ _ (omega arith) inv.3) inv.4
    c.in_err-print_place.ensures.printed

pub places-preserved : goal.places-preserved
places-preserved g c =
    let inv = c.places.invariant in (
      omega (arith, inv.0),
      c.in_ok-print_place.ensures.head,
      _,
      rows-done _ _ _ _ _ (omega arith) inv.3,
      prints_more {r = Ok tt} inv.4 c.in_ok-print_place.ensures.printed,
    )

pub returns : goal.returns
returns g c =
    let inv = c.places.invariant in
    rw (← rows-end _ _ _ _ (omega arith) inv.3) inv.4
