-- One step of pairing off, and its end.
use Rattle.std.proofs.Common.{◌≡◌, ℕ, ◌+◌, ◌<◌, ◌≤◌, min, List, [], ◌∷◌, ◌++◌, Some, None, length, sum_by, slice_get}
use Rattle.std.proofs.Common.{sym, ap, ◌∙◌, arith, append-nil, append_assoc}
use Rattle.std.proofs.lemmas.List.Sums.{sum_by_push}
use Rattle.std.proofs.lemmas.Bool.Decides.{nat_tests}
use Rattle.std.proofs.lemmas.Grind.{common_steps}
use Rattle.auction_terms.specs.declared.Fill.{Fill}
use Rattle.auction_terms.specs.declared.Trade.{Trade}
use Rattle.auction_terms.specs.Auxiliary.RankedFills.{paired_trades, after_taking}
use Rattle.auction_terms.proofs.PairingLaws.{paired_step, paired_trades-no_bids, paired_trades-no_asks}

-- what trades take
abbrev pub taken_by : List Trade → ℕ
taken_by trades = sum_by (λ t. t.quantity) trades

pub no_asks_left : (tick : ℕ) (trades whole : List Trade) (s : ℕ) (bids asks : List Fill) → None ≡ slice_get asks 0
    → trades ++ paired_trades tick s bids asks ≡ whole → trades ≡ whole
no_asks_left tick trades whole s bids [] none is =
    sym (append-nil trades) ∙ ap (λ l. trades ++ l) (sym (paired_trades-no_asks tick s bids)) ∙ is
no_asks_left tick trades whole s bids (a ∷ asks) none is = absurd (cc)

pub no_bids_left : (tick : ℕ) (trades whole : List Trade) (s : ℕ) (bids asks : List Fill) → None ≡ slice_get bids 0
    → trades ++ paired_trades tick s bids asks ≡ whole → trades ≡ whole
no_bids_left tick trades whole s [] asks none is =
    sym (append-nil trades) ∙ ap (λ l. trades ++ l) (sym (paired_trades-no_bids tick s asks)) ∙ is
no_bids_left tick trades whole s (b ∷ bids) asks none is = absurd (cc)

pub paired_more : (tick k s : ℕ) (trades more whole : List Trade) (b a : Fill) (bids asks : List Fill)
    → Some b ≡ slice_get bids 0 → Some a ≡ slice_get asks 0 → k ≡ min b.quantity a.quantity → 0 < k
    → trades ++ paired_trades tick s bids asks ≡ whole → more ≡ trades ++ record {
      bid = b.id;
      ask = a.id;
      tick = tick;
      quantity =
          k;
    } ∷ [] → more ++ paired_trades tick (s + k) (after_taking bids k) (after_taking asks k) ≡ whole
paired_more tick k s trades more whole b a bids asks fb fa is pos all pushed =
    grind (arith, common_steps, paired_step, append_assoc)

pub taken_more : (trades more : List Trade) (t : Trade) → more ≡ trades ++ t ∷ []
    → taken_by more ≡ taken_by trades + t.quantity
taken_more trades more t pushed = ap taken_by pushed ∙ sum_by_push (λ t. t.quantity) trades t

-- one of the two has nothing left
pub fewer_left : (k : ℕ) (b a : Fill) (bids asks : List Fill) → Some b ≡ slice_get bids 0 → Some a ≡ slice_get asks 0
    → k ≡ min b.quantity a.quantity → length (after_taking bids k) + length (after_taking asks k) + 1
    ≤ length bids + length asks
fewer_left k b a bids asks fb fa is = grind (arith, common_steps, nat_tests)

pub nonempty : (f : Fill) (fs : List Fill) → Some f ≡ slice_get fs 0 → 0 < length fs
nonempty f fs first = grind (arith, common_steps)
