-- Answers of `Start::add` (src/start.rt): what the prover left open; rt looks here.
use Rattle.std.proofs.Common.{◌≡◌, ◌∙◌, ◌+◌, ◌++◌, ◌-◌, ap, length, rules, take}
use Rattle.input_hints.specs.declared.start.TheConstants.{ROOM}
use Rattle.input_hints.proofs.StartLaws.{added}
use Rattle.input_hints.proofs.start.Start.add.Goals as goal

pub returns : goal.returns
returns c =
    let room : length c.args.self.now + (ROOM - c.self.inside.len) ≡ ROOM = search rules in
    c.put.ensures
    ∙ ap (λ front. c.args.self.now ++ front) (c.split_at.ensures.front
    ∙ ap (λ n. take n c.args.more.now) c.min.ensures)
    ∙ added ROOM _ c.args.self.now c.args.more.now room
