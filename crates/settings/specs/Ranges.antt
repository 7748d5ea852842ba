-- The ranges of the options.
use Rattle.std.specs.Prelude.{ℕ, ◌≤◌, IfSome}
use Rattle.auction_terms.specs.declared.limits.TheConstants.{MAX_CALLS, MAX_MEMBERS, MAX_OPEN_ORDERS, MAX_TICK}
use Rattle.settings.specs.declared.types.Settings.{Settings}
use Rattle.settings.specs.declared.types.Task.{Task}
use Rattle.settings.specs.declared.types.Task.TheVariants.{Live}

-- from 1 on
abbrev pub IsFromOneTo : ℕ → ℕ → Type 0
IsFromOneTo n most = (1 ≤ n) × (n ≤ most)

-- so are the calls that are kept for the operator
abbrev pub HasReserveInRange : Task → Type 0
HasReserveInRange (Live reserve) = reserve ≤ MAX_CALLS
HasReserveInRange task = Unit {0}

-- each number is in its option's range
pub record IsInRange (s : Settings) : Type 0 where
  pub low : IsFromOneTo s.config.low MAX_TICK
  pub high : IsFromOneTo s.config.high MAX_TICK
  pub reference : IsFromOneTo s.config.reference MAX_TICK
  pub members : IsFromOneTo s.members MAX_MEMBERS
  pub max_open : IsFromOneTo s.config.max_open MAX_OPEN_ORDERS
  pub max_calls : IsFromOneTo s.config.max_calls MAX_CALLS
  pub range : IfSome s.config.range (λ range. range ≤ MAX_TICK)
  pub reserve : HasReserveInRange s.task
