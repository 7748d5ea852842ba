-- The leaders alone give the price, with its volume, surplus and side.
use Rattle.std.proofs.Common.{◌≡◌, ℕ, ◌<◌, leb, List, Option, Some, None, option_map, inl, inr, refl, ap, ◌∙◌, arith}
use Rattle.std.proofs.lemmas.Bool.{leb-false, cases_Bool}
use Rattle.std.proofs.lemmas.Grind.{common_steps}
use Rattle.auction_terms.specs.declared.Order.{Order}
use Rattle.auction_terms.specs.declared.Price.{Price}
use Rattle.auction_terms.specs.declared.Side.{Side}
use Rattle.auction_terms.specs.declared.Side.TheVariants.{Bid, Ask}
use Rattle.auction_terms.specs.Book.{limits}
use Rattle.auction_terms.specs.AuctionPrice.{priced, price, clamp_between}
use Rattle.auction_terms.specs.Auxiliary.BestTicks.{Leaders, AreLeadersOf}
use Rattle.auction_terms.proofs.BestLaws.{on_bid, on_ask, balanced, side_of}
use Rattle.auction_terms.proofs.ChoiceLaws.{tick_found}
use Rattle.auction_terms.proofs.KeptLimitLaws.{lower_is_kept, upper_is_kept, balanced_between}
use Rattle.auction_terms.proofs.AuctionPriceLaws.{leaders_most}
use Rattle.price_rules.specs.ClampedPrice.{sided, even, price_between, price_from}

abbrev the_price : ℕ → ℕ → ℕ → Option Side → Price
the_price p v s side = record { tick = p; volume = v; surplus = s; side = side }

same_price : (p v w s t : ℕ) (a b : Option Side) → v ≡ w → s ≡ t → a ≡ b → the_price p v s a ≡ the_price p w t b
same_price p v w s t a b e f g =
    ap (λ x. the_price p x s a) e ∙ ap (λ x. the_price p w x a) f ∙ ap (λ x. the_price p w t x) g

at_low : (book : List Order) (leaders : Leaders) (low : ℕ) → AreLeadersOf book (limits book) leaders
    → leaders.lower ≡ Some low → priced book low ≡ sided leaders low Bid
unfolding priced
at_low book leaders low lead e =
    grind (arith, common_steps, lower_is_kept, same_price, side_of, on_bid, on_ask, balanced)

at_high : (book : List Order) (leaders : Leaders) (high : ℕ) → AreLeadersOf book (limits book) leaders
    → leaders.upper ≡ Some high → priced book high ≡ sided leaders high Ask
unfolding priced
at_high book leaders high lead e =
    grind (arith, common_steps, upper_is_kept, same_price, side_of, on_ask, on_bid, balanced)

price_between-inside : (book : List Order) (leaders : Leaders) (low high r : ℕ)
    → AreLeadersOf book (limits book) leaders
    → leaders.lower ≡ Some low → leaders.upper ≡ Some high → low < r → r < high → priced book r ≡ even leaders r
unfolding priced
price_between-inside book leaders low high r lead e f above below =
    grind (
      arith,
      common_steps,
      (balanced_between book leaders low high r lead e f above below),
      leaders_most,
      same_price,
      side_of,
      on_bid,
      on_ask,
      balanced,
    )

price_between-is : (book : List Order) (leaders : Leaders) (r : ℕ) (lower upper : Option ℕ)
    → AreLeadersOf book (limits book) leaders → leaders.lower ≡ lower → leaders.upper ≡ upper
    → option_map (priced book) (clamp_between lower upper r) ≡ price_between leaders lower upper r
price_between-is book leaders r None None lead e f = refl
price_between-is book leaders r (Some low) None lead e f = ap Some (at_low book leaders low lead e)
price_between-is book leaders r None (Some high) lead e f = ap Some (at_high book leaders high lead f)
price_between-is book leaders r (Some low) (Some high) lead e f = elim (cases_Bool (leb high r)) [
  | inl past ↦ rw past (ap Some (at_high book leaders high lead f))
  | inr not_past ↦ elim (cases_Bool (leb r low)) [
    | inl under ↦ rw (not_past, under) (ap Some (at_low book leaders low lead e))
    | inr not_under ↦
        rw (not_past, not_under)
        (ap Some (price_between-inside book leaders low high r lead e f (leb-false r low not_under)
        (leb-false high r not_past)))
  ]
]

pub price_led : (book : List Order) (r : ℕ) (leaders : Leaders) → AreLeadersOf book (limits book) leaders
    → price book r ≡ price_from leaders r
unfolding price
price_led book r leaders lead =
    ap (option_map (priced book)) (tick_found book r leaders lead)
    ∙ price_between-is book leaders r leaders.lower leaders.upper lead refl refl
