-- Answers of `hand_out` (src/board/closing.rt): what the prover left open; rt looks here.
use Rattle.std.proofs.Common.{rules, ◌≡◌, ◌≤◌, ◌++◌, ◌∙◌, ap, arith, drop, length, map, List}
use Rattle.std.proofs.lemmas.List.{take_all}
use Rattle.auction_terms.specs.declared.Entry.{Entry}
use Rattle.auction_c.specs.Encoding.{entry_out}
use Rattle.auction_c.proofs.board.closing.hand_out.Goals as goal

pub returns : goal.returns
returns c =
    let history = c.into_closing-history.result.history.items in
    let few : length history ≤ c.args.locked.board.config.max_calls = c.into_closing-history.ensures.closed.legal.few in
    let all : length c.deref.result.now ≡ length history = ap length c.deref.ensures.value in
    let written : c.copy_entries.result ≡ length history =
    omega (arith, c.copy_entries.ensures.count, all, few, c.requires.room) in
    record {
      closing = (
        c.into_closing-history.result,
        c.into_closing-history.ensures.closed,
        c.into_closing-history.ensures.history,
        c.copy_entries.ensures.copied ∙ ap (λ (es : List Entry). map entry_out es ++ drop c.copy_entries.result
            c.args.entries.now) (take_all c.copy_entries.result c.deref.result.now (omega (arith, written, all))
            ∙ c.deref.ensures.value),
        written,
        search rules,
      );
    }
