-- Answers of `BoardCore::is_account` (src/board_core.rt): what the prover left open; rt looks here.
use Rattle.std.proofs.Common.{arith, rules, ◌≡◌, ◌<◌, ◌∙◌, ap, sym, length, slice_index, subst, ℕ}
use Rattle.std.proofs.lemmas.List.{get_or_default}
use Rattle.std.proofs.lemmas.Bool.{eq-eqb, eqb-true}
use Rattle.auction_terms.specs.Day.{IsLegal, calls_of}
use Rattle.board_terms.specs.MemberView.{placed_calls}
use Rattle.board_terms.specs.Closings.{HasSeenBeginning}
use Rattle.board_terms.specs.BoardViews.{BoardHistory}
use Rattle.board_terms.proofs.AccountLaws.{account-counts, account_by_count}
use Rattle.board_terms.proofs.board_core.BoardCore.is_account.Goals as goal

pub returns-then-is_followed_by : goal.returns-then-is_followed_by
returns-then-is_followed_by c =
    let f = c.self.inside in
    let k = c.self.invariant.0 in
    let m = c.args.account.now.view in
    let story = calls_of c.args.self.now.history in
    let members : c.args.account.now.board.members ≡ f.members =
    ap (λ p. p.members) c.requires ∙ sym (ap (λ (v : BoardHistory). v.board.members) c.self.view_is) in
    let one_of : m.number < f.members = omega (arith, c.number.ensures.number, c.number.ensures.one_of, members) in
    let inside : c.from.result < length f.counted.items =
    omega (arith, k.wide, one_of, c.from.ensures, c.number.ensures.number) in
    let at : c.from.result ≡ m.number = c.from.ensures ∙ c.number.ensures.number in
    let was : c.index-counted.result.now ≡ slice_index f.counted.items m.number =
    c.index-counted.ensures ∙ get_or_default f.counted.items c.from.result _ 0 inside
    ∙ ap (λ (j : ℕ). slice_index f.counted.items j) at in
    let counted : c.index-counted.result.now ≡ length (placed_calls story m.number) =
    was ∙ k.counts m.number one_of
    ∙ ap (λ (v : BoardHistory). length (placed_calls (calls_of v.history) m.number)) c.self.view_is in
    let follows : HasSeenBeginning c.args.account.now.board.members story m = search rules in
    record {
      account = λ same.
          account_by_count c.args.account.now.board.members story m follows
          (sym c.calls.ensures ∙ eqb-true _ _ same ∙ counted);
      only = λ is. eq-eqb _ _ (c.calls.ensures ∙ account-counts story m is ∙ sym counted);
      legal = subst (λ (v : BoardHistory). IsLegal v.board.config v.history) c.self.view_is k.legal;
    }
