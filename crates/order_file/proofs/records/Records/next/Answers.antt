-- Answers of `Records::next` (src/records.rt): what the prover left open; rt looks here.
use Rattle.order_file.proofs.RowLaws.{row-found}
use Rattle.order_file.proofs.records.Records.next.Goals as goal

pub returns : goal.returns
returns c =
    let read = c.in-Ok.ensures in
    row-found c.in-Ok.found _ _ _ c.requires (read.ready c.requires.trim) (read.reads c.requires.trim c.requires.ready)
