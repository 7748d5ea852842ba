-- Invariants of the loops of `many_lines_go_through_one_page` (src/tests/printing.rt); rt looks here.
use Rattle.acceptance.proofs.tests.printing.many_lines_go_through_one_page.Given as goal

-- the sink counts its failures in the ledger of the blank
abbrev pub ghosts-many_lines : goal.ghosts-many_lines
ghosts-many_lines g a = record { name = a.blank.name; parts = a.blank.parts }
