-- Answers of `split` (src/scripts.rt): what the prover left open; rt looks here.
use Rattle.std.proofs.Common.{rules, arith, refl, ◌+◌}
use Rattle.member_board.specs.declared.script.Script.{Script}
use Rattle.program_runs.proofs.SplitLaws.{split_next}
use Rattle.program_runs.proofs.scripts.split.Goals as goal

pub loop-member-preserved : goal.loop-member-preserved
loop-member-preserved c =
    let was = c.loop-member.invariant in
    let n = c.loop-member.member in
    let s : Script = record { member = n; commands = c.in_ok-commands.commands } in
    record {
      split =
          split_next n (n + 1) c.args.calls.now c.loop-member.scripts.items c.push_reserved.new.self.items s was.split
          refl c.in_ok-commands.ensures c.push_reserved.ensures.items (omega arith);
      len = search rules;
      room = search rules;
    }
