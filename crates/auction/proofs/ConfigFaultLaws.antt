-- What an auction without a fault is opened with.
use Rattle.std.proofs.Common.{◌≡◌, ◌<◌, ◌≤◌, ◌+◌, Bool, false, None, cond, Some, arith}
use Rattle.std.proofs.lemmas.Bool.Decides.{nat_tests}
use Rattle.std.proofs.lemmas.Grind.{common_steps}
use Rattle.auction_terms.specs.declared.limits.TheConstants.{MAX_TICK, MAX_TICKS, MAX_OPEN_ORDERS, MAX_CALLS}
use Rattle.auction_terms.specs.declared.Config.{Config}
use Rattle.auction.specs.declared.OpenFault.TheVariants.{BadBounds, BadReference, BadCapacity}
use Rattle.auction.specs.ConfigFault.{open_fault, has_bad_bounds, has_bad_reference, has_bad_capacity}

none_holds : (a b d : Bool) → cond a (Some BadBounds) (cond b (Some BadReference) (cond d (Some BadCapacity) None))
    ≡ None → (a ≡ false) × ((b ≡ false) × (d ≡ false))
none_holds a b d e = grind (arith, common_steps)

pub record HasReferenceWithin (config : Config) : Type 0 where
  pub low : config.low ≤ config.reference
  pub high : config.reference ≤ config.high
  pub last : config.high ≤ MAX_TICK
  pub ticks : config.high < config.low + MAX_TICKS
  pub some_open : 1 ≤ config.max_open
  pub few_open : config.max_open ≤ MAX_OPEN_ORDERS
  pub some_calls : 1 ≤ config.max_calls
  pub calls : config.max_calls ≤ MAX_CALLS

module _ (config : Config) (bounds : has_bad_bounds config ≡ false) (reference : has_bad_reference config ≡ false)
    (limits : has_bad_capacity config ≡ false) where
  from_low : config.low ≤ config.reference
  from_low = grind (arith, nat_tests)

  to_high : config.reference ≤ config.high
  to_high = grind (arith, nat_tests)

  last : config.high ≤ MAX_TICK
  last = grind (arith, nat_tests)

  ticks : config.high < config.low + MAX_TICKS
  ticks = grind (arith, nat_tests)

  some_open : 1 ≤ config.max_open
  some_open = grind (arith, nat_tests)

  few_open : config.max_open ≤ MAX_OPEN_ORDERS
  few_open = grind (arith, nat_tests)

  some_calls : 1 ≤ config.max_calls
  some_calls = grind (arith, nat_tests)

  few_calls : config.max_calls ≤ MAX_CALLS
  few_calls = grind (arith, nat_tests)

  all_within : HasReferenceWithin config
  all_within = record {
    low = from_low;
    high = to_high;
    last = last;
    ticks = ticks;
    some_open = some_open;
    few_open =
        few_open;
    some_calls = some_calls;
    calls = few_calls;
  }

pub terms_within : (config : Config) → open_fault config ≡ None → HasReferenceWithin config
unfolding open_fault
terms_within config e = grind (arith, common_steps, none_holds, all_within)
