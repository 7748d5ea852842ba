-- Answers of `reader_of` (src/records.rt): what the prover left open; rt looks here.
use Rattle.std.proofs.Common.{rules}
use Rattle.order_file.proofs.RowLaws.{with-headers}
use Rattle.order_file.proofs.records.reader_of.Goals as goal

pub returns : goal.returns
returns c =
    let made = c.from_reader-reader.ensures in
    with-headers c.from_reader-reader.result c.set_byte_headers.new.self _
    (record {
      names = search rules;
      trim = search rules;
      config = search rules;
      state = made.state;
      known =
          made.source;
    })
    c.in-Ok.ensures.same c.in-Ok.ensures.set
