-- The rule that is given for a book says what its price is.
use Rattle.std.proofs.Common.{◌≡◌, ℕ, Bool, true, false, cond, eqb, List, [], ◌∷◌, All, Some, None, inl, inr, refl, sym}
use Rattle.std.proofs.Common.{ap, ◌∙◌, subst, arith}
use Rattle.std.specs.List.{list_all}
use Rattle.std.proofs.lemmas.Bool.{cases_Bool, eq-eqb, eqb-true, and_parts}
use Rattle.std.proofs.lemmas.List.Elements.{All-nil, All-cons}
use Rattle.std.proofs.lemmas.Grind.{common_steps}
use Rattle.auction_terms.specs.declared.Order.{Order}
use Rattle.auction_terms.specs.Book.{surplus, has_bid_surplus, has_ask_surplus, limits}
use Rattle.auction_terms.specs.AuctionPrice.{best_limits, has_market_orders, highest, lowest, is_empty}
use Rattle.auction_terms.specs.AuctionPrice.{lower_end, upper_end, clamp_between, price_tick}
use Rattle.auction_terms.proofs.BestLaws.{on_bid, on_ask, balanced, side_of}
use Rattle.day_tables.specs.DecidingRule.{is_one_tick, rule_of, IsDecidedBy}

-- the ticks of a list are all this one, and there are some
pub record AreAll (best : ℕ) (ps : List ℕ) : Type 0 where
  pub same : All (λ tick. tick ≡ best) ps
  pub top : highest ps ≡ Some best
  pub bottom : lowest ps ≡ Some best
  pub tests : (f : ℕ → Bool) → list_all f ps ≡ f best

all_more : (best p : ℕ) (ps : List ℕ) → p ≡ best → AreAll best ps → AreAll best (p ∷ ps)
all_more best p ps is all = record {
  same = All-cons (λ tick. tick ≡ best) p ps is all.same;
  top = grind (arith, common_steps, all.top);
  bottom = grind (arith, common_steps, all.bottom);
  tests = λ f. let h = all.tests f in let e = ap f is in grind (arith, common_steps);
}

one_tick : (best : ℕ) (ps : List ℕ) → list_all (λ tick. eqb tick best) ps ≡ true → AreAll best (best ∷ ps)
one_tick best [] h = record {
  same = All-cons (λ tick. tick ≡ best) best [] refl (All-nil (λ tick. tick ≡ best));
  top = refl;
  bottom = refl;
  tests = λ f. grind (arith, common_steps);
}
one_tick best (p ∷ ps) h =
    let parts = and_parts (eqb p best) (list_all (λ tick. eqb tick best) ps) h in
    let same = eqb-true p best parts.0 in
    let rest = one_tick best ps parts.1 in
    all_more best best (p ∷ ps) refl (subst (λ q. AreAll best (q ∷ ps)) (sym same) rest)

pub one_best : (ps : List ℕ) → is_one_tick ps ≡ true → (best : ℕ) × AreAll best ps
one_best [] h = absurd (let wrong : false ≡ true = h in cc)
one_best (p ∷ ps) h = (p, one_tick p ps h)

held_at : (best r : ℕ) → clamp_between (Some best) (Some best) r ≡ Some best
held_at best r = grind (arith, common_steps)

no_surplus : (book : List Order) (p : ℕ) → has_bid_surplus book p ≡ false → has_ask_surplus book p ≡ false
    → surplus book p ≡ 0
no_surplus book p bid ask = elim (side_of book p) [
  | on_bid side is_bid no_ask more ↦ absurd (let wrong : true ≡ false = sym is_bid ∙ bid in cc)
  | on_ask side no_bid is_ask more ↦ absurd (let wrong : true ≡ false = sym is_ask ∙ ask in cc)
  | balanced side no_bid no_ask zero ↦ zero
]

-- one best limit is the price
single_price : (book : List Order) (best r : ℕ) → AreAll best (best_limits book)
    → cond (list_all (has_bid_surplus book) (best_limits book)) (highest (best_limits book))
    (cond (list_all (has_ask_surplus book) (best_limits book)) (lowest (best_limits book))
    (clamp_between (lower_end book) (upper_end book) r)) ≡ Some best
unfolding lower_end upper_end
single_price book best r all = elim (cases_Bool (has_bid_surplus book best)) [
  | inl bid ↦ rw (all.tests (has_bid_surplus book), bid) all.top
  | inr no_bid ↦ elim (cases_Bool (has_ask_surplus book best)) [
    | inl ask ↦ rw (all.tests (has_bid_surplus book), no_bid, all.tests (has_ask_surplus book), ask) all.bottom
    | inr no_ask ↦
        let zero : eqb (surplus book best) 0 ≡ true =
        eq-eqb (surplus book best) 0 (no_surplus book best no_bid no_ask) in
        rw (
          all.tests (has_bid_surplus book),
          no_bid,
          all.tests (has_ask_surplus book),
          no_ask,
          all.tests (λ p. eqb (surplus book p) 0),
          zero,
          all.top,
          all.bottom,
        )
        (held_at best r)
  ]
]

-- the cases of the price
pub price_cases : (book : List Order) (r : ℕ) → price_tick book r
    ≡ cond (is_empty (limits book)) (cond (has_market_orders book) (Some r) None)
    (cond (is_empty (best_limits book)) None
    (cond (list_all (has_bid_surplus book) (best_limits book)) (highest (best_limits book))
    (cond (list_all (has_ask_surplus book) (best_limits book)) (lowest (best_limits book))
    (clamp_between (lower_end book) (upper_end book) r))))
unfolding price_tick
price_cases book r = refl

pub rule_prices : (book : List Order) (r : ℕ) → IsDecidedBy book r (rule_of book)
unfolding rule_of
rule_prices book r = elim (cases_Bool (is_empty (limits book))) [
  | inl no_limit ↦ elim (cases_Bool (has_market_orders book)) [
    | inl market ↦ rw (no_limit, market) (rw (price_cases book r, no_limit, market) refl)
    | inr no_market ↦ rw (no_limit, no_market) (rw (price_cases book r, no_limit, no_market) refl)
  ]
  | inr limited ↦ elim (cases_Bool (is_empty (best_limits book))) [
    | inl no_best ↦ rw (limited, no_best) (rw (price_cases book r, limited, no_best) refl)
    | inr some ↦ elim (cases_Bool (is_one_tick (best_limits book))) [
      | inl one ↦
          let (best, all) = one_best (best_limits book) one in
          rw (limited, some, one)
          (best, all.same, rw (price_cases book r, limited, some) (single_price book best r all))
      | inr several ↦ elim (cases_Bool (list_all (has_bid_surplus book) (best_limits book))) [
        | inl bid ↦ rw (limited, some, several, bid) (rw (price_cases book r, limited, some, bid) refl)
        | inr no_bid ↦ elim (cases_Bool (list_all (has_ask_surplus book) (best_limits book))) [
          | inl ask ↦
              rw (limited, some, several, no_bid, ask) (rw (price_cases book r, limited, some, no_bid, ask) refl)
          | inr no_ask ↦
              rw (limited, some, several, no_bid, no_ask) (rw (price_cases book r, limited, some, no_bid, no_ask) refl)
        ]
      ]
    ]
  ]
]
