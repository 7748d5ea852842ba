-- Answers of `fill` (src/board/opening.rt): what the prover left open; rt looks here.
use Rattle.std.proofs.Common.{rules, ◌≡◌, length}
use Rattle.board_terms.specs.BoardViews.{opened_board}
use Rattle.auction_c.proofs.OpenLaws.{holds_new_members, as_many}
use Rattle.auction_c.proofs.board.opening.fill.Goals as goal

pub put_in-requires : goal.put_in-requires
put_in-requires c =
    let count : length c.args.handles.now ≡ c.in-Ok.count = search rules in
    as_many (λ b. b.value) (opened_board c.args.identity c.args.config c.in-Ok.count c.in-Ok-open.ensures.opening.0)
    c.in-Ok.count (length c.args.handles.now) c.in-Ok-boxed.boxes.items c.in-Ok-open.members.items count
    c.in-Ok-boxed.ensures c.in-Ok-open.ensures.opening.1

pub returns-in-Ok-boxed-clause-done : goal.returns-in-Ok-boxed-clause-done
returns-in-Ok-boxed-clause-done c =
    λ _. holds_new_members (λ b. b.value) c.args.identity c.args.config c.args.reserve c.in-Ok.count
    c.in-Ok-open.ensures.opening.0
    c.in-Ok-boxed.boxes.items c.in-Ok-open.members.items c.put_in.new.handles c.in-Ok-boxed.ensures
    c.in-Ok-open.ensures.opening.1 c.put_in.ensures.members c.put_in.ensures.reserves
