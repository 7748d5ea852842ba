-- Answers of `LadderBook::dismiss` (src/book/counted/ending.rt): what the prover left open; rt looks here.
use Rattle.std.proofs.Common.{arith}
use Rattle.order_book.specs.Orders.{slot_at}
use Rattle.auction.proofs.DismissalLaws.{stays_on, passed_more, still_none, all_passed}
use Rattle.auction.proofs.book.counted.LadderBook.dismiss.Goals as goal

pub loop-place-preserved : goal.loop-place-preserved
loop-place-preserved c = record {
  stay =
      stays_on c.args.self.now.book c.loop-place.self.book c.dismiss_at.new.self.book c.loop-place.invariant.stay
      c.dismiss_at.ensures.stay;
  walk = c.dismiss_at.ensures.walk;
  passed =
      passed_more c.loop-place.place c.loop-place.self c.dismiss_at.new.self c.loop-place.invariant.passed
      c.dismiss_at.ensures.stay c.dismiss_at.ensures.still c.dismiss_at.ensures.passed;
  past =
      λ p beyond. still_none (slot_at c.loop-place.self.slots p) (slot_at c.dismiss_at.new.self.slots p)
      (c.loop-place.invariant.past p beyond) (c.dismiss_at.ensures.still p);
}

pub returns : goal.returns
returns c =
    all_passed c.places-place-end.result c.args.self.now c.loop-place.self c.loop-place.invariant.stay
    c.loop-place.invariant.walk
    (λ p below. c.loop-place.invariant.passed p (omega (arith, below, c.loop-place-test.false)))
    c.loop-place.invariant.past
