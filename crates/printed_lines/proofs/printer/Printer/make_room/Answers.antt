-- Answers of `Printer::make_room` (src/printer.rt): what the prover left open; rt looks here.
use Rattle.printed_lines.proofs.PrinterLaws.{prints_any}
use Rattle.printed_lines.proofs.printer.Printer.make_room.Goals as goal

pub returns-then-len-clause-begun : goal.returns-then-len-clause-begun
returns-then-len-clause-begun g c =
    prints_any g.S.Sink c.args.self.now c.flush.new.self c.flush.result c.flush.ensures.printed
