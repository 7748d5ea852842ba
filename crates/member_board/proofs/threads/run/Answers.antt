-- Answers of `run` (src/threads.rt): what the prover left open; rt looks here.
use Rattle.std.proofs.Common.{ap, sym, ◌≡◌, ◌∙◌, ◌+◌, List, map, take, drop, arith}
use Rattle.std.proofs.lemmas.List.{length-map, take-map, drop-map}
use Rattle.auction_terms.specs.declared.Command.{Command}
use Rattle.board_terms.specs.MemberView.{MemberView}
use Rattle.member_board.specs.declared.script.Script.{Script}
use Rattle.member_board.specs.PlaysScript.{MemberScript}
use Rattle.member_board.proofs.PlayingLaws.{all_play, same_length}
use Rattle.member_board.proofs.threads.run.Goals as goal
use Rattle.std.proofs.lemmas.Grind.{common_steps}

pub pair_all-run_room-requires-clause-many : goal.pair_all-run_room-requires-clause-many
pair_all-run_room-requires-clause-many g c = grind (arith, common_steps, length-map, same_length)

pub returns-clause-all : goal.returns-clause-all
returns-clause-all g c = grind (arith, common_steps, all_play)

pub returns-clause-thread : goal.returns-clause-thread
returns-clause-thread g c =
    λ is.
    let p = c.scoped.ensures.1.1.1 is in
    let n = p.0 in
    let ts = c.pair_all-run_room.result.tasks.items in
    let member : MemberScript → MemberView = λ t. t.member in
    let commands : MemberScript → List Command = λ t. t.commands in
    let script : Script → List Command = λ s. s.commands.items in
    let members : map member (take n ts) ≡ take n c.args.members.items =
    sym (take-map member n ts) ∙ ap (take n) c.pair_all-run_room.ensures.members in
    let scripts : map commands (take n ts) ≡ map script (take n c.args.scripts.items) =
    sym (take-map commands n ts) ∙ ap (take n) (c.pair_all-run_room.ensures.commands ∙ c.in-Ok.ensures)
    ∙ take-map script n c.args.scripts.items in
    let rest : c.scoped.result.unplayed.items ≡ drop (n + 1) c.args.members.items =
    p.2 ∙ sym (drop-map member (n + 1) ts) ∙ ap (drop (n + 1)) c.pair_all-run_room.ensures.members in (
      n,
      all_play g.K.BoardIdentity.config (take n ts) (take n c.args.members.items) (take n c.args.scripts.items)
          c.scoped.result.played.items members scripts p.1,
      rest,
    )
