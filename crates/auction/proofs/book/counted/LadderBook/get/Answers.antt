-- Answers of `LadderBook::get` (src/book/counted.rt): what the prover left open; rt looks here.
use Rattle.std.proofs.Common.{arith}
use Rattle.std.proofs.lemmas.Grind.{common_steps}
use Rattle.order_book.proofs.OrderLaws.{order_of_open}
use Rattle.auction.proofs.book.counted.LadderBook.get.Goals as goal

pub returns : goal.returns
returns c = grind (arith, common_steps, order_of_open)
