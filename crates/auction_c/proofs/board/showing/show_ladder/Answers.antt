-- Answers of `show_ladder` (src/board/showing.rt): what the prover left open; rt looks here.
use Rattle.std.proofs.Common.{rules, ◌≡◌, ◌∙◌, ap}
use Rattle.auction_terms.specs.Day.{calls_of}
use Rattle.auction_terms.specs.Ladder.{LadderView}
use Rattle.board_terms.specs.BoardViews.{BoardHistory, OpenedBoard, ladder_after}
use Rattle.auction_c.specs.Encoding.{market_out}
use Rattle.auction_c.proofs.board.showing.show_ladder.Goals as goal

pub returns-clause-done : goal.returns-clause-done
returns-clause-done c =
    λ e.
    let locked = c.in-Ok-see_locked.locked in
    let board : locked.board ≡ c.args.member.now.board =
    ap (λ (f : BoardHistory). f.board) c.in-Ok-see_locked.ensures.locked ∙ c.in-Ok.ensures.board in
    let history = locked.history in
    let ladder : c.ladder-2.result.now ≡ ladder_after c.args.member.now.board.config (calls_of history) =
    c.ladder-2.ensures ∙ ap (λ (b : OpenedBoard). ladder_after b.config (calls_of history)) board in
    record {
      history = history;
      sees = search rules;
      bids_are = c.copy_ladder-error.ensures.bids e ∙ ap (λ (l : LadderView). l.bids) ladder;
      asks_are = c.copy_ladder-error.ensures.asks e ∙ ap (λ (l : LadderView). l.asks) ladder;
      market_is = c.copy_ladder-error.ensures.market e ∙ ap market_out ladder;
      calls_are = c.calls.ensures.value;
    }
