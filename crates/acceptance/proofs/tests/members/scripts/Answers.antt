-- Answers of `scripts` (src/tests/members.rt): what the prover left open; rt looks here.
use Rattle.std.proofs.Common.{rules, ◌≡◌, ◌≤◌, ◌∷◌, [], ◌++◌, length, get_or}
use Rattle.auction_terms.specs.declared.limits.TheConstants.{MAX_CALLS}
use Rattle.member_board.specs.declared.script.Script.{Script}
use Rattle.acceptance.proofs.ScriptLaws.{fits_next}
use Rattle.acceptance.proofs.tests.members.scripts.Goals as goal

pub loop-member-preserved : goal.loop-member-preserved
loop-member-preserved g c =
    let ms = c.args.members.now in
    let i = c.loop-member.member-index in
    let s : Script = record { member = c.number.result; commands = c.in_ok-commands.commands } in
    let number : (get_or ms i c.member-item.result).number ≡ c.number.result = search rules in
    let few : length c.in_ok-commands.commands.items ≤ MAX_CALLS = search rules in
    let more : c.push.new.self.items ≡ c.loop-member.scripts.items ++ s ∷ [] = search rules in
    fits_next ms c.loop-member.scripts.items c.push.new.self.items i c.member-item.result s c.loop-member-test.true
    c.loop-member.invariant number few more
