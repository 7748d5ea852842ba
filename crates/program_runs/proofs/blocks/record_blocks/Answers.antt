-- Answers of `record_blocks` (src/blocks.rt): what the prover left open; rt looks here.
use Rattle.std.proofs.Common.{◌∙◌, ◌++◌, [], Err, ap, arith, refl}
use Rattle.auction_terms.specs.Auxiliary.RunningAuction.{RunningAuction}
use Rattle.order_file.specs.Blocks.{block_rows}
use Rattle.order_file.specs.File.{calls_after}
use Rattle.order_file.proofs.BlockCallLaws.{carries-bad, carries-fault, carries-last, carries-next, carries-open}
use Rattle.program_runs.specs.RecordedEntries.{RecordsHeard}
use Rattle.program_runs.proofs.BlockRunLaws.{block-after, block-calls, block-fault, block-follows, no_calls}
use Rattle.program_runs.proofs.EntriesHeardLaws.{heard-calls, heard-fault}
use Rattle.program_runs.proofs.FileSaidLaws.{blocks-end, blocks-stop}
use Rattle.program_runs.proofs.blocks.record_blocks.Goals as goal

pub turns-init : goal.turns-init
turns-init g c = record {
  steady = refl;
  form = refl;
  room = omega (arith, ap (λ (a : RunningAuction). a.calls) c.requires.opened);
  calls = ([], no_calls _, λ text opens. carries-open text _ _ _ _ opens, c.requires.none);
}

pub record_block-requires : goal.record_block-requires
record_block-requires g c =
    let inv = c.turns.invariant in
    let (front, is, carries, follows) = inv.calls in
    omega (arith, inv.room, ap (λ (a : RunningAuction). a.config.max_calls) is)

pub returns-in_err-drain-clause-recorded : goal.returns-in_err-drain-clause-recorded
returns-in_err-drain-clause-recorded g c = λ text opens.
    let f = c.in_err-drain.field-0.0 in
    let (front, is, carries, follows) = c.turns.invariant.calls in
    blocks-stop c.record_block.new.recorder c.args.auction.now c.record_block.new.auction c.from_residual.result f text
    c.args.members c.from_residual.ensures.1
    (carries-fault _ _ _ _ front c.turns.blocks f (carries text opens) c.in_err-drain.ensures.rows)

pub returns-in-Err-clause-recorded : goal.returns-in-Err-clause-recorded
returns-in-Err-clause-recorded g c = λ text opens.
    let f = c.in-Err.fault in
    let (front, is, carries, follows) = c.turns.invariant.calls in
    blocks-stop c.record_block.new.recorder c.args.auction.now c.record_block.new.auction (Err f) f text
    c.args.members refl
    (carries-bad _ _ _ _ front c.turns.blocks f (carries text opens) c.in_ok-drain.ensures.rows
    (block-fault c.args.members c.args.auction.now c.turns.auction front f (block_rows c.turns.blocks)
    c.requires.opened is
    (heard-fault f (calls_after c.args.members c.turns.auction.config.max_calls c.turns.auction.calls
    (block_rows c.turns.blocks)) (c.in-Err.ensures.heard _ follows))))

pub returns-in_err-next-clause-recorded : goal.returns-in_err-next-clause-recorded
returns-in_err-next-clause-recorded g c = λ text opens.
    let f = c.in_err-next.field-0.0 in
    let (front, is, carries, follows) = c.turns.invariant.calls in
    blocks-stop c.record_block.new.recorder c.args.auction.now c.record_block.new.auction
    c.from_residual-in_err-next.result f text c.args.members c.from_residual-in_err-next.ensures.1
    (carries-fault _ _ _ _ front c.turns.blocks f (carries text opens) c.in_err-next.ensures.rows)

pub returns-then-not-branch-clause-recorded : goal.returns-then-not-branch-clause-recorded
returns-then-not-branch-clause-recorded g c = λ text opens.
    let (front, is, carries, follows) = c.turns.invariant.calls in
    let (calls, says, came, more) =
    heard-calls (RecordsHeard c.record_block.new.recorder c.record_block.new.auction) _ c.turns.auction
    c.record_block.new.auction
    (calls_after c.args.members c.turns.auction.config.max_calls c.turns.auction.calls (block_rows c.turns.blocks))
    (c.in_default.ensures.heard _ follows) in
    let start = c.args.auction.now in
    blocks-end c.record_block.new.recorder start c.record_block.new.auction (front ++ calls) text c.args.members
    (carries-last _ _ _ _ front _ c.turns.blocks (carries text opens)
    (rw c.if-not-branch.true at c.in_ok-next.ensures.rows)
    (block-calls c.args.members start c.turns.auction front calls _ c.requires.opened is says))
    (block-after start c.turns.auction c.record_block.new.auction front calls is came)
    (block-follows c.record_block.new.recorder start c.turns.auction c.record_block.new.auction front calls is more)

pub turns-preserved : goal.turns-preserved
turns-preserved g c =
    let inv = c.turns.invariant in
    let (front, is, carries, follows) = inv.calls in
    let (calls, says, came, more) =
    heard-calls (RecordsHeard c.record_block.new.recorder c.record_block.new.auction) _ c.turns.auction
    c.record_block.new.auction
    (calls_after c.args.members c.turns.auction.config.max_calls c.turns.auction.calls (block_rows c.turns.blocks))
    (c.in_default.ensures.heard _ follows) in
    let start = c.args.auction.now in
    record {
      steady = c.in_ok-next.ensures.steady ∙ inv.steady;
      form = c.in_default.ensures.form ∙ inv.form;
      room = omega (arith, c.in_default.ensures.room, ap (λ (a : RunningAuction). a.config.max_calls) is);
      calls = (
        front ++ calls,
        block-after start c.turns.auction _ front calls is came,
        λ text opens. carries-next text _ _ _ _ front _ c.turns.blocks c.next.new.self (carries text opens)
            (rw c.if-not-branch.false at c.in_ok-next.ensures.rows)
            (block-calls c.args.members start c.turns.auction front calls _ c.requires.opened is says),
        block-follows c.record_block.new.recorder start c.turns.auction c.record_block.new.auction front calls is more,
      );
    }
