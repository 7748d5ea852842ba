-- Answers of `close_all` (src/board/closing.rt): what the prover left open; rt looks here.
use Rattle.std.proofs.Common.{◌≡◌, ◌∙◌, ◌<◌, All, IfSome, IsSomeAnd, List, ap, arith, length, set, subst, sym}
use Rattle.std.proofs.lemmas.List.{set-get_or}
use Rattle.board_terms.specs.BoardViews.{BoardMember, BoardHistory}
use Rattle.auction_c.specs.declared.member_handle.AuctionMember.{AuctionMember}
use Rattle.auction_c.specs.BoardCalls.{HoldAccounts, IsAccountsError}
use Rattle.auction_c.proofs.ClosingLaws.{all_of_one, close_error, of_first, writes_closing}
use Rattle.auction_c.proofs.board.closing.close_all.Goals as goal

pub accounts_error-error-requires-clause-identities : goal.accounts_error-error-requires-clause-identities
accounts_error-error-requires-clause-identities c =
    let f : BoardHistory = c.in-Ok.locked in
    let now = c.args.handles.now in
    let first = c.index-handles-0.result in
    let back : set now 0 c.take_first_locked.new.first ≡ now =
    ap (set now 0) c.take_first_locked.ensures.same ∙ set-get_or now 0 first in
    let boxed : IsSomeAnd first.boxed.value (λ (m : BoardMember). f.board ≡ m.board) =
    subst (λ (a : AuctionMember). IsSomeAnd a.boxed.value (λ (m : BoardMember). f.board ≡ m.board))
    (sym c.index-handles-0.is) c.in-Ok.ensures.board in
    let boards = c.requires.identities.0 in
    let of = c.requires.identities.1 in
    subst (λ (hs : List AuctionMember). All (λ (h : AuctionMember). IfSome h.boxed.value
    (λ (m : BoardMember). m.board.identity ≡ f.board.identity → m.board ≡ f.board)) hs) (sym back)
    (all_of_one boards f.board now (of_first boards f.board now first (sym c.is_empty.ensures ∙ c.if-is_empty.false)
    c.index-handles-0.is boxed of) of)

pub returns-clause-done : goal.returns-clause-done
returns-clause-done c =
    λ _.
    let f : BoardHistory = c.in-Ok.locked in
    let now = c.args.handles.now in
    let back : set now 0 c.take_first_locked.new.first ≡ now =
    ap (set now 0) c.take_first_locked.ensures.same ∙ set-get_or now 0 c.index-handles-0.result in
    let accounts : HoldAccounts f now = subst (HoldAccounts f) back (c.accounts_error-error.ensures.accounts cc) in (
      f.board,
      writes_closing f now c.args.entries.now c.hand_out.new.entries c.hand_out.new.counts c.hand_out.new.written
          accounts c.hand_out.ensures.closing,
    )

pub returns-then-error-ne-DONE-clause-error : goal.returns-then-error-ne-DONE-clause-error
returns-then-error-ne-DONE-clause-error c =
    let f : BoardHistory = c.in-Ok.locked in
    let now = c.args.handles.now in
    let error = c.accounts_error-error.result in
    let back : set now 0 c.take_first_locked.new.first ≡ now =
    ap (set now 0) c.take_first_locked.ensures.same ∙ set-get_or now 0 c.index-handles-0.result in
    let some : 0 < error = omega (arith, c.if-error-ne-DONE.true) in
    let accounts : IsAccountsError f now error =
    subst (λ (hs : List AuctionMember). IsAccountsError f hs error) back (c.accounts_error-error.ensures.error some) in
    let boxed : IsSomeAnd c.index-handles-0.result.boxed.value (λ (m : BoardMember). f.board ≡ m.board) =
    subst (λ (a : AuctionMember). IsSomeAnd a.boxed.value (λ (m : BoardMember). f.board ≡ m.board))
    (sym c.index-handles-0.is) c.in-Ok.ensures.board in
    close_error f now c.index-handles-0.result (length c.args.entries.now) (length c.args.counts.now) error
    (sym c.is_empty.ensures ∙ c.if-is_empty.false) c.index-handles-0.is boxed accounts
