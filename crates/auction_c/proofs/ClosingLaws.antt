-- A closing with the members' accounts.
use Rattle.std.proofs.Common.{◌≡◌, ◌<◌, ◌∙◌, ◌++◌, ℕ, All, List, [], ◌∷◌, ap, drop, length, map, get_or, subst}
use Rattle.std.proofs.Common.{sym, inr, false}
use Rattle.std.proofs.lemmas.List.Elements.{All-head, All-weaker}
use Rattle.std.specs.Prelude.{◌==◌, Option, None, Some, IfSome, IsSomeAnd}
use Rattle.auction_terms.specs.declared.Entry.{Entry}
use Rattle.board_terms.specs.declared.closing.Closing.{Closing}
use Rattle.board_terms.specs.BoardViews.{BoardMember, BoardHistory, IsClosingOf, OpenedBoard, board_history}
use Rattle.auction_c.specs.declared.member_handle.AuctionMember.{AuctionMember}
use Rattle.auction_c.specs.declared.structs.AuctionEntry.{AuctionEntry}
use Rattle.auction_c.specs.Encoding.{entry_out}
use Rattle.auction_c.specs.BoardCalls.{AreOfBoards, HoldAccounts, IsAccountsError, IsCloseError, WritesClosing}
use Rattle.auction_c.specs.BoardCalls.{first_boxed, lacks_room}

pub writes_closing : (f : BoardHistory) (handles : List AuctionMember) (room entries : List AuctionEntry)
    (counts : List ℕ) (written : ℕ) → HoldAccounts f handles
    → ((c : Closing) × IsClosingOf f.board c × (c.history.items ≡ f.history)
    × (entries ≡ map entry_out c.history.items ++ drop written room)
    × (written ≡ length c.history.items) × (counts ≡ c.calls.items))
    → WritesClosing f.board handles room entries counts written
writes_closing f handles room entries counts written accounts c = record {
  closing = c.0;
  closed = c.1;
  accounts = subst (λ (h : List Entry). HoldAccounts (board_history f.board h) handles) (sym c.2) accounts;
  entries_are = c.3;
  written_is = c.4;
  counts_are = c.5;
}

-- what is held is a member of this board, for whose closing there is room, and the handles have an error
boxed_close_error : (f : BoardHistory) (handles : List AuctionMember) (entries counts error : ℕ)
    (o : Option BoardMember)
    → IsSomeAnd o (λ (m : BoardMember). f.board ≡ m.board) → IsAccountsError f handles error
    → IfSome o
    (λ (m : BoardMember). lacks_room m.board entries counts ≡ false → 0 < error → IsCloseError m.board handles error)
boxed_close_error f handles entries counts error None is accounts = tt
boxed_close_error f handles entries counts error (Some m) is accounts =
    λ room some. inr (
      f.history,
      subst (λ (b : OpenedBoard). IsAccountsError (board_history b f.history) handles error) is accounts,
    )

pub close_error : (f : BoardHistory) (handles : List AuctionMember) (first : AuctionMember) (entries counts error : ℕ)
    → (length handles == 0) ≡ false → first ≡ get_or handles 0 first
    → IsSomeAnd first.boxed.value (λ (m : BoardMember). f.board ≡ m.board) → IsAccountsError f handles error
    → IfSome (first_boxed handles)
    (λ (m : BoardMember). lacks_room m.board entries counts ≡ false → 0 < error → IsCloseError m.board handles error)
close_error f [] first entries counts error some at is accounts = absurd (cc (some))
close_error f (h ∷ hs) first entries counts error some at is accounts =
    boxed_close_error f (h ∷ hs) entries counts error h.boxed.value
    (subst (λ (a : AuctionMember). IsSomeAnd a.boxed.value (λ (m : BoardMember). f.board ≡ m.board)) at is) accounts

-- the handle's member is of the board b, where it has the identity of b
of_one : (boards : ℕ → OpenedBoard) (b : OpenedBoard) (o : Option BoardMember) → b ≡ boards b.identity
    → IfSome o (λ (m : BoardMember). m.board ≡ boards m.board.identity)
    → IfSome o (λ (m : BoardMember). m.board.identity ≡ b.identity → m.board ≡ b)
of_one boards b None is of = tt
of_one boards b (Some m) is of = λ same. of ∙ ap boards same ∙ sym is

pub all_of_one : (boards : ℕ → OpenedBoard) (b : OpenedBoard) (handles : List AuctionMember)
    → b ≡ boards b.identity → AreOfBoards boards handles
    → All (λ (h : AuctionMember). IfSome h.boxed.value
    (λ (m : BoardMember). m.board.identity ≡ b.identity → m.board ≡ b)) handles
all_of_one boards b handles is of =
    All-weaker (λ (h : AuctionMember). IfSome h.boxed.value (λ (m : BoardMember). m.board ≡ boards m.board.identity))
    (λ (h : AuctionMember). IfSome h.boxed.value (λ (m : BoardMember). m.board.identity ≡ b.identity → m.board ≡ b))
    (λ h one. of_one boards b h.boxed.value is one) handles of

boxed_of_first : (boards : ℕ → OpenedBoard) (b : OpenedBoard) (o : Option BoardMember)
    → IsSomeAnd o (λ (m : BoardMember). b ≡ m.board) → IfSome o (λ (m : BoardMember). m.board ≡ boards m.board.identity)
    → b ≡ boards b.identity
boxed_of_first boards b None is of = absurd is
boxed_of_first boards b (Some m) is of = is ∙ of ∙ sym (ap (λ (p : OpenedBoard). boards p.identity) is)

-- the board of the first handle's member is the one with its identity
pub of_first : (boards : ℕ → OpenedBoard) (b : OpenedBoard) (handles : List AuctionMember) (first : AuctionMember)
    → (length handles == 0) ≡ false → first ≡ get_or handles 0 first
    → IsSomeAnd first.boxed.value (λ (m : BoardMember). b ≡ m.board) → AreOfBoards boards handles
    → b ≡ boards b.identity
of_first boards b [] first some at is of = absurd (cc (some))
of_first boards b (h ∷ hs) first some at is of =
    boxed_of_first boards b h.boxed.value
    (subst (λ (a : AuctionMember). IsSomeAnd a.boxed.value (λ (m : BoardMember). b ≡ m.board)) at is)
    (All-head (λ (k : AuctionMember). IfSome k.boxed.value (λ (m : BoardMember). m.board ≡ boards m.board.identity)) h
    hs of)
