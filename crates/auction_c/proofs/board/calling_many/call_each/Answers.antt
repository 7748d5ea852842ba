-- Answers of `call_each` (src/board/calling_many.rt): what the prover left open; rt looks here.
use Rattle.std.proofs.Common.{◌≡◌, ◌<◌, ℕ, arith, length, subst}
use Rattle.std.proofs.lemmas.List.{get_or_default}
use Rattle.auction_c.specs.declared.structs.AuctionCommand.{AuctionCommand}
use Rattle.auction_c.specs.ManyCalls.{RecordsMany, RecordsStruct, StopsStruct}
use Rattle.auction_c.proofs.ManyCallLaws.{numbered_before, numbered_more, recorded_before, recorded_more}
use Rattle.auction_c.proofs.ManyCallLaws.{same_from_next}
use Rattle.auction_c.proofs.board.calling_many.call_each.Goals as goal

pub returns-then-error-ne-DONE-clause-stop : goal.returns-then-error-ne-DONE-clause-stop
returns-then-error-ne-DONE-clause-stop c =
    λ some.
    let i = c.loop-i.i in
    let v = c.call_struct-error.new.receipt in
    let was = c.loop-i.invariant in
    let commands = c.args.commands.now in
    let error = c.call_struct-error.result in
    let new = c.call_struct-error.new.member in
    let within : i < length commands = omega (arith, c.loop-i-test.true) in
    record {
      mid = c.loop-i.member;
      recorded = record {
        each = recorded_before c.args.reserve i commands c.loop-i.receipts i v c.args.member.now c.loop-i.member
            (omega arith)
            was.each;
        before = length c.args.locked.now.history;
        numbers = numbered_before (length c.args.locked.now.history) i c.loop-i.receipts i v (omega arith) was.numbers;
      };
      within = within;
      stop = λ d.
          subst (λ (s : AuctionCommand). StopsStruct c.args.reserve s error c.loop-i.member new)
          (get_or_default commands i _ d within)
          (c.call_struct-error.ensures.stop some);
    }

pub loop-i-preserved : goal.loop-i-preserved
loop-i-preserved c =
    let i = c.loop-i.i in
    let v = c.call_struct-error.new.receipt in
    let was = c.loop-i.invariant in
    let commands = c.args.commands.now in
    let new = c.call_struct-error.new.member in
    let before = length c.args.locked.now.history in
    let done : c.call_struct-error.result ≡ 0 = omega (arith, c.if-error-ne-DONE.false) in
    let within : i < length commands = omega (arith, c.loop-i-test.true) in
    let inside : i < length c.loop-i.receipts = omega (arith, c.loop-i-test.true, was.rest.0, c.requires.length) in
    record {
      board = c.call_struct-error.ensures.board;
      each = recorded_more c.args.reserve commands c.loop-i.receipts i v c.args.member.now c.loop-i.member new inside
          was.each
          (λ d. subst (λ (s : AuctionCommand). RecordsStruct c.args.reserve s v c.loop-i.member new)
          (get_or_default commands i _ d within) (c.call_struct-error.ensures.done done));
      count = omega (arith, c.call_struct-error.ensures.count done, was.count);
      numbers = numbered_more before c.loop-i.receipts i v inside
          (omega (arith, c.call_struct-error.ensures.number done, was.count)) was.numbers;
      rest = same_from_next i c.args.receipts.now c.loop-i.receipts v was.rest;
    }

pub returns-clause-done : goal.returns-clause-done
returns-clause-done c =
    λ _.
    let was = c.loop-i.invariant in
    let end : c.loop-i.i ≡ length c.args.commands.now = omega (arith, c.loop-i-test.false, c.loop-i.auto.i-end) in
    subst (λ (n : ℕ).
    RecordsMany c.args.reserve c.args.commands.now c.loop-i.receipts n c.args.member.now c.loop-i.member) end
    (record { each = was.each; before = length c.args.locked.now.history; numbers = was.numbers })
