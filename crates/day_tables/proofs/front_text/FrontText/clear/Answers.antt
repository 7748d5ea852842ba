-- Answers of `FrontText::clear` (src/front_text.rt): what the prover left open; rt looks here.
use Rattle.std.proofs.Common.{arith}
use Rattle.std.proofs.lemmas.List.{drop_all}
use Rattle.day_tables.proofs.front_text.FrontText.clear.Goals as goal

pub returns : goal.returns
returns c = drop_all 256 c.self.inside.bytes (omega (arith, c.self.told))
