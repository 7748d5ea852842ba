-- The candidates that the kernels leave are the best.
use Rattle.std.specs.Int.{abs_diff}
use Rattle.std.proofs.Common.{◌≡◌, ℕ, ◌≤◌, ◌<◌, true, min, List, filter, All, Option, length, get_or, refl, sym, ap}
use Rattle.std.proofs.Common.{◌∙◌, arith}
use Rattle.std.specs.Simd.Lanes.{zip2}
use Rattle.std.proofs.lemmas.Bool.{lt-ltb, eq-eqb, and_from}
use Rattle.std.proofs.lemmas.Simd.{length-zip2}
use Rattle.std.proofs.lemmas.Grind.{common_steps}
use Rattle.auction_terms.specs.declared.Order.{Order}
use Rattle.auction_terms.specs.Book.{demand, supply, volume, surplus, has_bid_surplus, has_ask_surplus}
use Rattle.auction_terms.specs.Auxiliary.BestTicks.{Leaders, keyed, lower_among, upper_among, IsNoBetterThan}
use Rattle.auction_terms.specs.Auxiliary.BestTicks.{AreLeadersOf}
use Rattle.auction_terms.proofs.KeptLimitLaws.{amounts, bid_amounts, ask_amounts, key_parts}
use Rattle.auction_terms.proofs.TickListLaws.{All_from, not_empty}
use Rattle.lanes.specs.Selection.{kept_if_equal, kept_if_above, NoFlagIn, IsGreatestFlagged, IsLeastFlagged}
use Rattle.price_rules.specs.declared.candidates.Lanes.{Lanes}
use Rattle.price_rules.specs.Candidates.{AreCandidates, AreMarked, FlagsNoOther}
use Rattle.price_rules.proofs.MarkLaws.{zip_at, kept_parts, kept_there, above_parts, above_there, flag-inside}
use Rattle.price_rules.proofs.MarkLaws.{marked_part}

bid_true : (book : List Order) (t : ℕ) → supply book t < demand book t → has_bid_surplus book t ≡ true
unfolding has_bid_surplus
bid_true book t h = lt-ltb (supply book t) (demand book t) h

ask_true : (book : List Order) (t : ℕ) → demand book t < supply book t → has_ask_surplus book t ≡ true
unfolding has_ask_surplus
ask_true book t h = lt-ltb (demand book t) (supply book t) h

-- all lists of the lanes are equally long
pub record AreEven (lanes : Lanes) : Type 0 where
  pub demands : length lanes.demands ≡ length lanes.flags
  pub supplies : length lanes.supplies ≡ length lanes.flags

module _ (book : List Order) (lanes : Lanes) (even : AreEven lanes) (cand : AreCandidates book lanes) where
  -- the flags of the best with a surplus on one side
  pub bids_marked : (fs best : List ℕ) → length fs ≡ length lanes.flags → FlagsNoOther fs lanes.flags
      → AreMarked lanes.ticks fs best
      → AreMarked lanes.ticks (kept_if_above lanes.demands lanes.supplies fs) (filter (has_bid_surplus book) best)
  bids_marked fs best same within marked =
      search (arith, marked_part, above_parts, bid_true, above_there, bid_amounts)

  pub asks_marked : (fs best : List ℕ) → length fs ≡ length lanes.flags → FlagsNoOther fs lanes.flags
      → AreMarked lanes.ticks fs best
      → AreMarked lanes.ticks (kept_if_above lanes.supplies lanes.demands fs) (filter (has_ask_surplus book) best)
  asks_marked fs best same within marked =
      search (arith, marked_part, above_parts, ask_true, above_there, ask_amounts)

  pub rising_within : (fs : List ℕ) → FlagsNoOther fs lanes.flags → (j k : ℕ) → j < k → get_or fs j 0 ≡ 1
      → get_or fs k 0 ≡ 1 → get_or lanes.ticks j 0 ≤ get_or lanes.ticks k 0
  rising_within fs within j k less f g = cand.rising j k less (within j f) (within k g)

  above_within : (xs ys fs : List ℕ) → length xs ≡ length fs → length ys ≡ length fs → FlagsNoOther fs lanes.flags
      → FlagsNoOther (kept_if_above xs ys fs) lanes.flags
  above_within xs ys fs d e within k h = within k (above_parts xs ys fs k d e h).1

  pub rising_bids : (fs : List ℕ) → length fs ≡ length lanes.flags → FlagsNoOther fs lanes.flags → (j k : ℕ) → j < k
      → get_or (kept_if_above lanes.demands lanes.supplies fs) j 0 ≡ 1
      → get_or (kept_if_above lanes.demands lanes.supplies fs) k 0 ≡ 1 → get_or lanes.ticks j 0 ≤ get_or lanes.ticks k 0
  rising_bids fs same within =
      rising_within (kept_if_above lanes.demands lanes.supplies fs)
      (above_within lanes.demands lanes.supplies fs (omega (arith, even.demands)) (omega (arith, even.supplies)) within)

  pub rising_asks : (fs : List ℕ) → length fs ≡ length lanes.flags → FlagsNoOther fs lanes.flags → (j k : ℕ) → j < k
      → get_or (kept_if_above lanes.supplies lanes.demands fs) j 0 ≡ 1
      → get_or (kept_if_above lanes.supplies lanes.demands fs) k 0 ≡ 1 → get_or lanes.ticks j 0 ≤ get_or lanes.ticks k 0
  rising_asks fs same within =
      rising_within (kept_if_above lanes.supplies lanes.demands fs)
      (above_within lanes.supplies lanes.demands fs (omega (arith, even.supplies)) (omega (arith, even.demands)) within)

  -- ---- volume and surplus of a candidate

  module _ (few volumes : List ℕ) (marked : AreMarked lanes.ticks lanes.flags few)
      (vols : volumes ≡ zip2 min lanes.demands lanes.supplies) where
    volume_at : (k : ℕ) → get_or lanes.flags k 0 ≡ 1 → volume book (get_or lanes.ticks k 0) ≡ get_or volumes k 0
    volume_at k h = grind (arith, common_steps, amounts)

    -- with no candidate, or with none that has volume
    pub none_flagged : NoFlagIn lanes.flags 0 (length lanes.flags) → All (λ t. volume book t ≡ 0) few
    none_flagged none = All_from (λ t. volume book t ≡ 0) few (λ t e. let p = marked.place t e in
        absurd (none p.0 (omega arith) p.1 p.2))

    pub none_positive : (m : ℕ) → m ≡ 0 → IsGreatestFlagged volumes lanes.flags m → All (λ t. volume book t ≡ 0) few
    none_positive m zero most = All_from (λ t. volume book t ≡ 0) few (λ t e. let p = marked.place t e in let here =
        ap (volume book) p.3 in omega (arith, volume_at p.0 p.2, most.bound p.0 p.1 p.2))

    module _ (m : ℕ) (fs : List ℕ) (most : IsGreatestFlagged volumes lanes.flags m)
        (left : fs ≡ zip2 (kept_if_equal m) volumes lanes.flags) where
      long : length volumes ≡ length lanes.flags
      long = ap length vols ∙ length-zip2 min lanes.demands lanes.supplies (omega (arith, even.demands, even.supplies))
          ∙ even.demands

      first_parts : (k : ℕ) → get_or fs k 0 ≡ 1 → (get_or volumes k 0 ≡ m) × (get_or lanes.flags k 0 ≡ 1)
      first_parts k h = kept_parts m volumes lanes.flags k long (sym (ap (λ l. get_or l k 0) left) ∙ h)

      first_there : (k : ℕ) → get_or volumes k 0 ≡ m → get_or lanes.flags k 0 ≡ 1 → get_or fs k 0 ≡ 1
      first_there k v h = ap (λ l. get_or l k 0) left ∙ kept_there m volumes lanes.flags k long v h

      -- a candidate with the most volume is left
      pub some_left : NoFlagIn fs 0 (length fs) → ⊥
      some_left none =
          grind (arith, common_steps, (first_there most.place most.value most.here), (flag-inside fs most.place))

      module _ (surpluses : List ℕ) (s : ℕ) (gs : List ℕ)
          (gaps : surpluses ≡ zip2 abs_diff lanes.demands lanes.supplies) (same : length fs ≡ length lanes.flags)
          (least : IsLeastFlagged surpluses fs s) (left_too : gs ≡ zip2 (kept_if_equal s) surpluses fs) where
        surplus_at : (k : ℕ) → get_or lanes.flags k 0 ≡ 1 → surplus book (get_or lanes.ticks k 0) ≡ get_or surpluses k 0
        surplus_at k h =
            grind (
              arith,
              common_steps,
              (amounts book (get_or lanes.ticks k 0)),
              (zip_at abs_diff lanes.demands lanes.supplies k refl (omega (arith, even.demands, even.supplies))),
            )

        long_too : length surpluses ≡ length fs
        long_too =
            ap length gaps
            ∙ length-zip2 abs_diff lanes.demands lanes.supplies (omega (arith, even.demands, even.supplies))
            ∙ even.demands ∙ sym same

        second_parts : (k : ℕ) → get_or gs k 0 ≡ 1 → (get_or surpluses k 0 ≡ s) × (get_or fs k 0 ≡ 1)
        second_parts k h = kept_parts s surpluses fs k long_too (sym (ap (λ l. get_or l k 0) left_too) ∙ h)

        second_there : (k : ℕ) → get_or surpluses k 0 ≡ s → get_or fs k 0 ≡ 1 → get_or gs k 0 ≡ 1
        second_there k v h = ap (λ l. get_or l k 0) left_too ∙ kept_there s surpluses fs k long_too v h

        pub best_within : FlagsNoOther gs lanes.flags
        best_within k h = (first_parts k (second_parts k h).1).1

        pub best_marked : AreMarked lanes.ticks gs (keyed book m s few)
        best_marked =
            grind (
              arith,
              common_steps,
              marked_part,
              kept_parts,
              length-zip2,
              and_from,
              eq-eqb,
              volume_at,
              surplus_at,
              key_parts,
              second_there,
              first_there,
            )

        pub best_lead : (lower upper : Option ℕ) → 0 < m → lower ≡ lower_among book s (keyed book m s few)
            → upper ≡ upper_among book s (keyed book m s few) → AreLeadersOf book few (record {
              volume = m;
              surplus =
                  s;
              lower = lower;
              upper = upper;
            })
        best_lead lower upper positive is_lower is_upper =
            let leaders : Leaders = record { volume = m; surplus = s; lower = lower; upper = upper } in
            record {
              positive = positive;
              none_better = All_from (IsNoBetterThan book leaders) few (λ t e.
                  let p = marked.place t e in
                  let vol = sym (ap (volume book) p.3) ∙ volume_at p.0 p.2 in
                  let sur = sym (ap (surplus book) p.3) ∙ surplus_at p.0 p.2 in (
                    omega (arith, vol, most.bound p.0 p.1 p.2),
                    λ same. let f = first_there p.0 (sym vol ∙ same) p.2 in
                        omega (arith, sur, least.bound p.0 (flag-inside fs p.0 f) f),
                  ));
              some_among =
                  not_empty (keyed book m s few) (get_or lanes.ticks least.place 0)
                  (best_marked.there least.place (second_there least.place least.value least.here));
              lower = is_lower;
              upper = is_upper;
            }
