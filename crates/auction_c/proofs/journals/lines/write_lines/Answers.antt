-- Answers of `write_lines` (src/journals/lines.rt): what the prover left open; rt looks here.
use Rattle.std.proofs.Common.{◌≡◌, arith, length}
use Rattle.auction_c.proofs.JournalLineLaws.{all-written, line-more, lines-begun, no_entry, stopped}
use Rattle.auction_c.proofs.journals.lines.write_lines.Goals as goal

pub structs-init : goal.structs-init
structs-init c = lines-begun _ _ _ c.requires

pub structs-preserved : goal.structs-preserved
structs-preserved c =
    line-more c.args.entries.now c.args.text.now c.structs.text c.write_line.new.text c.structs.i c.structs.written
    c.write_line.new.written no_entry c.structs.invariant c.structs-test.true c.in_default.ensures
    c.write_line.auto.text

pub returns-in-Some : goal.returns-in-Some
returns-in-Some c =
    stopped c.args.entries.now c.args.text.now c.structs.text c.write_line.new.text c.structs.i c.structs.written
    c.write_line.new.written c.in-Some.error no_entry c.structs.invariant c.structs-test.true c.in-Some.ensures

pub returns : goal.returns
returns c =
    let end : c.structs.i ≡ length c.args.entries.now = omega (arith, c.structs-test.false, c.structs.auto.i-end) in
    rw (← end) (all-written c.args.entries.now c.args.text.now c.structs.text c.structs.i c.structs.written
    c.structs.invariant end)
