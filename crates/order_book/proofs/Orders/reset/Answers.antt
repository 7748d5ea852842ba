-- Answers of `Orders::reset` (src/copying.rt): what the prover left open; rt looks here.
use Rattle.std.proofs.Common.{arith}
use Rattle.std.proofs.lemmas.Grind.{common_steps}
use Rattle.order_book.specs.Orders.{line_of}
use Rattle.order_book.proofs.Orders.reset.Goals as goal

pub returns : goal.returns
unfolding line_of
returns c = grind (arith, common_steps)
