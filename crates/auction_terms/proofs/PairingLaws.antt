-- Laying two lists of fills over one another, one step at a time.
use Rattle.std.proofs.Common.{◌≡◌, ℕ, ◌+◌, ◌<◌, ◌≤◌, min, List, [], ◌∷◌, refl, arith}
use Rattle.std.specs.List.{filter_map}
use Rattle.std.proofs.lemmas.Grind.{common_steps}
use Rattle.auction_terms.specs.declared.Fill.{Fill}
use Rattle.auction_terms.specs.Allotment.{spans, trade_of_overlap, pairings}
use Rattle.auction_terms.specs.Auxiliary.RankedFills.{less, paired_trades, after_taking}
use Rattle.std.proofs.lemmas.Bool.{eqb-true}

-- each of them begins there or later
abbrev FromOn : ℕ → List (ℕ × Fill) → Type 0
FromOn n [] = Unit {0}
FromOn n (x ∷ xs) = (n ≤ x.0) × FromOn n xs

spans_from_on : (m n : ℕ) (fs : List Fill) → m ≤ n → FromOn m (spans n fs)
spans_from_on m n [] l = tt
spans_from_on m n (f ∷ fs) l = (l, spans_from_on m (n + f.quantity) fs (omega arith))

row_shift : (price s k : ℕ) (b : Fill) (ss : List (ℕ × Fill)) → k ≤ b.quantity → FromOn (s + k) ss
    → filter_map (trade_of_overlap price (s, b)) ss ≡ filter_map (trade_of_overlap price (s + k, less b k)) ss
row_shift price s k b [] l h = refl
row_shift price s k b (a ∷ ss) l h = search (arith, (row_shift price s k b ss l h.1))

column_shift : (price s k : ℕ) (bs : List (ℕ × Fill)) (a : Fill) (ss : List (ℕ × Fill)) → k ≤ a.quantity
    → FromOn (s + k) bs → pairings price bs ((s, a) ∷ ss) ≡ pairings price bs ((s + k, less a k) ∷ ss)
column_shift price s k [] a ss l h = refl
column_shift price s k (b ∷ bs) a ss l h = grind (arith, common_steps, (column_shift price s k bs a ss l h.1))

row_zero : (price s : ℕ) (b : Fill) (ss : List (ℕ × Fill)) → b.quantity ≡ 0
    → filter_map (trade_of_overlap price (s, b)) ss ≡ []
row_zero price s b [] z = refl
row_zero price s b (a ∷ ss) z = grind (arith, common_steps, (row_zero price s b ss z))

pub pairings-no_asks : (price : ℕ) (bs : List (ℕ × Fill)) → pairings price bs [] ≡ []
pairings-no_asks price [] = refl
pairings-no_asks price (b ∷ bs) = pairings-no_asks price bs

-- the first trade takes as much as both have
pub paired_trades-cons : (price s k : ℕ) (b : Fill) (bs : List Fill) (a : Fill) (ss : List Fill)
    → k ≡ min b.quantity a.quantity → 0 < k → paired_trades price s (b ∷ bs) (a ∷ ss) ≡ record {
      bid = b.id;
      ask =
          a.id;
      tick = price;
      quantity = k;
    } ∷ paired_trades price (s + k) (less b k ∷ bs) (less a k ∷ ss)
unfolding paired_trades
paired_trades-cons price s k b bs a ss is pos =
    grind (
      arith,
      common_steps,
      row_shift,
      (spans_from_on (s + k) (s + a.quantity) ss (omega arith)),
      (spans_from_on (s + k) (s + b.quantity) bs (omega arith)),
      column_shift,
    )

-- a fill with nothing left takes no part
pub paired_trades-zero_bid : (price s : ℕ) (b : Fill) (bs ss : List Fill) → b.quantity ≡ 0
    → paired_trades price s (b ∷ bs) ss ≡ paired_trades price s bs ss
unfolding paired_trades
paired_trades-zero_bid price s b bs ss z = grind (arith, common_steps, row_zero)

pub paired_trades-zero_ask : (price s : ℕ) (bs : List Fill) (a : Fill) (ss : List Fill) → a.quantity ≡ 0
    → paired_trades price s bs (a ∷ ss) ≡ paired_trades price s bs ss
unfolding paired_trades
paired_trades-zero_ask price s bs a ss z = grind (arith, common_steps)

pub paired_trades-no_bids : (price s : ℕ) (ss : List Fill) → paired_trades price s [] ss ≡ []
unfolding paired_trades
paired_trades-no_bids price s ss = refl

pub paired_trades-no_asks : (price s : ℕ) (bs : List Fill) → paired_trades price s bs [] ≡ []
unfolding paired_trades
paired_trades-no_asks price s bs = pairings-no_asks price (spans s bs)

after_bid : (price s k : ℕ) (b : Fill) (bs ss : List Fill) → paired_trades price s (less b k ∷ bs) ss
    ≡ paired_trades price s (after_taking (b ∷ bs) k) ss
after_bid price s k b bs ss = grind (arith, common_steps, paired_trades-zero_bid, eqb-true)

after_ask : (price s k : ℕ) (bs : List Fill) (a : Fill) (ss : List Fill) → paired_trades price s bs (less a k ∷ ss)
    ≡ paired_trades price s bs (after_taking (a ∷ ss) k)
after_ask price s k bs a ss = grind (arith, common_steps, paired_trades-zero_ask, eqb-true)

pub paired_step : (price s k : ℕ) (b : Fill) (bs : List Fill) (a : Fill) (ss : List Fill)
    → k ≡ min b.quantity a.quantity → 0 < k → paired_trades price s (b ∷ bs) (a ∷ ss) ≡ record {
      bid = b.id;
      ask =
          a.id;
      tick = price;
      quantity = k;
    } ∷ paired_trades price (s + k) (after_taking (b ∷ bs) k) (after_taking (a ∷ ss) k)
paired_step price s k b bs a ss is pos =
    grind (
      arith,
      common_steps,
      (paired_trades-cons price s k b bs a ss is pos),
      (after_bid price (s + k) k b bs (less a k ∷ ss)),
      (after_ask price (s + k) k (after_taking (b ∷ bs) k) a ss),
    )
