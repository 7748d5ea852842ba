-- Invariants of the loops of `LadderBook::execute` (src/book/counted/executing.rt); rt looks here.
use Rattle.std.proofs.Common.{◌≡◌, take}
use Rattle.auction_terms.specs.Auxiliary.OrderLists.{book_after_fills}
use Rattle.auction.proofs.book.counted.LadderBook.execute.Given as goal

abbrev pub invariant-loop-fill : goal.invariant-loop-fill
invariant-loop-fill l =
    l.self.book ≡ record l.fn.self.book { orders = book_after_fills (take l.fill-index l.fills) l.fn.self.book.orders }
