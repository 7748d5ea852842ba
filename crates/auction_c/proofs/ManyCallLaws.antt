-- Calls recorded one by one.
use Rattle.std.proofs.Common.{◌≡◌, ◌==◌, ◌∙◌, ℕ, zero, suc, ◌+◌, ◌<◌, ◌≤◌, Bool, true, false, List, length, get_or, set}
use Rattle.std.proofs.Common.{refl, ap, sym, subst, arith, get_or-set_same, get_or-set_other, length-set}
use Rattle.std.proofs.lemmas.Bool.{eqb-true, eqb-false}
use Rattle.board_terms.specs.BoardViews.{BoardMember}
use Rattle.auction_c.specs.declared.structs.AuctionCommand.{AuctionCommand}
use Rattle.auction_c.specs.declared.structs.AuctionReceipt.{AuctionReceipt}
use Rattle.auction_c.specs.ManyCalls.{IsSameFrom, RecordsFirst, RecordsStruct}

-- a receipt written behind the first ones changes nothing of them
pub recorded_before : (reserve n : ℕ) (commands : List AuctionCommand) (receipts : List AuctionReceipt) (i : ℕ)
    (v : AuctionReceipt) (old new : BoardMember) → n ≤ i → RecordsFirst reserve n commands receipts old new
    → RecordsFirst reserve n commands (set receipts i v) old new
recorded_before reserve zero commands receipts i v old new below is = is
recorded_before reserve (suc n) commands receipts i v old new below is = (
  is.0,
  recorded_before reserve n commands receipts i v old is.0 (omega (arith, below)) is.1,
  λ d b.
      subst (λ (r : AuctionReceipt). RecordsStruct reserve (get_or commands n d) r is.0 new)
      (sym (get_or-set_other receipts i n v b (λ same. omega (arith, same, below)))) (is.2 d b),
)

-- one more, whose receipt is written at its place
pub recorded_more : (reserve : ℕ) (commands : List AuctionCommand) (receipts : List AuctionReceipt) (i : ℕ)
    (v : AuctionReceipt) (old mid new : BoardMember) → i < length receipts
    → RecordsFirst reserve i commands receipts old mid
    → ((d : AuctionCommand) → RecordsStruct reserve (get_or commands i d) v mid new)
    → RecordsFirst reserve (i + 1) commands (set receipts i v) old new
recorded_more reserve commands receipts i v old mid new within is more =
    let next : suc i ≡ i + 1 = omega arith in
    subst (λ (n : ℕ). RecordsFirst reserve n commands (set receipts i v) old new) next (
      mid,
      recorded_before reserve i commands receipts i v old mid (omega arith) is,
      λ d b.
          subst (λ (r : AuctionReceipt). RecordsStruct reserve (get_or commands i d) r mid new)
          (sym (get_or-set_same receipts i v b within)) (more d),
    )

-- receipts numbered one after another
abbrev pub AreNumbered : ℕ → ℕ → List AuctionReceipt → Type 0
AreNumbered before n receipts =
    (k : ℕ) (b : AuctionReceipt) → k < n → (get_or receipts k b).number ≡ before + k + 1

pub numbered_before : (before n : ℕ) (receipts : List AuctionReceipt) (i : ℕ) (v : AuctionReceipt) → n ≤ i
    → AreNumbered before n receipts → AreNumbered before n (set receipts i v)
numbered_before before n receipts i v below are k b less =
    ap (λ (r : AuctionReceipt). r.number)
    (get_or-set_other receipts i k v b (λ same. omega (arith, same, below, less))) ∙ are k b less

numbered_at : (before : ℕ) (receipts : List AuctionReceipt) (i : ℕ) (v : AuctionReceipt) → i < length receipts
    → v.number ≡ before + i + 1 → AreNumbered before i receipts
    → (k : ℕ) (b : AuctionReceipt) → k < i + 1 → (here : Bool) → (k == i) ≡ here
    → (get_or (set receipts i v) k b).number ≡ before + k + 1
numbered_at before receipts i v within is are k b less true e =
    let same : k ≡ i = eqb-true k i e in
    subst (λ (j : ℕ). (get_or (set receipts i v) j b).number ≡ before + j + 1) (sym same)
    (ap (λ (r : AuctionReceipt). r.number) (get_or-set_same receipts i v b within) ∙ is)
numbered_at before receipts i v within is are k b less false e =
    let other = eqb-false k i e in
    ap (λ (r : AuctionReceipt). r.number) (get_or-set_other receipts i k v b (λ same. other same))
    ∙ are k b (omega (arith, other, less))

pub numbered_more : (before : ℕ) (receipts : List AuctionReceipt) (i : ℕ) (v : AuctionReceipt) → i < length receipts
    → v.number ≡ before + i + 1 → AreNumbered before i receipts → AreNumbered before (i + 1) (set receipts i v)
numbered_more before receipts i v within is are k b less =
    numbered_at before receipts i v within is are k b less (k == i) refl

pub same_from_next : (i : ℕ) (old now : List AuctionReceipt) (v : AuctionReceipt) → IsSameFrom i old now
    → IsSameFrom (i + 1) old (set now i v)
same_from_next i old now v are = (
  length-set now i v ∙ are.0,
  λ k b above.
      get_or-set_other now i k v b (λ same. above (omega (arith, same)))
      ∙ are.1 k b (λ less. above (omega (arith, less))),
)
