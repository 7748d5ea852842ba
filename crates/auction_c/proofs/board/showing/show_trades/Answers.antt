-- Answers of `show_trades` (src/board/showing.rt): what the prover left open; rt looks here.
use Rattle.std.proofs.Common.{rules, ◌≡◌, ◌++◌, ◌∙◌, ap, subst, length, drop, map, min, take, List}
use Rattle.auction_terms.specs.Day.{IsLegal, calls_of}
use Rattle.auction_terms.specs.declared.Trade.{Trade}
use Rattle.board_terms.specs.BoardViews.{OpenedBoard, tape_after}
use Rattle.auction_c.specs.Encoding.{trade_out}
use Rattle.auction_c.proofs.board.showing.show_trades.Goals as goal

pub returns-clause-done : goal.returns-clause-done
returns-clause-done c =
    λ _.
    let board : c.in-Ok.locked.board ≡ c.args.member.now.board = search rules in
    let history = c.in-Ok.locked.history in
    let room = c.args.trades.now in
    let n = c.copy_trades.result in
    let tape = tape_after c.args.member.now.board.config (calls_of history) in
    let unseen : c.trades_after.result.now ≡ drop c.args.seen tape =
    c.trades_after.ensures ∙ ap (drop c.args.seen) (c.tape.ensures
    ∙ ap (λ (b : OpenedBoard). tape_after b.config (calls_of history)) board) in
    record {
      history = history;
      sees = record {
        board = search rules;
        legal = subst (λ (b : OpenedBoard). IsLegal b.config history) board c.calls.ensures.legal;
        story = search rules;
      };
      copied_is = c.copy_trades.ensures.count ∙ ap (λ (ts : List Trade). min (length ts) (length room)) unseen;
      trades_are = c.copy_trades.ensures.copied
          ∙ ap (λ (ts : List Trade). map trade_out (take n ts) ++ drop n room) unseen;
      calls_are = c.calls.ensures.value;
    }
