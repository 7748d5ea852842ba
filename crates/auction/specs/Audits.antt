-- What an audit finds.
use Rattle.std.specs.Prelude.{ℕ, ◌+◌, ◌<◌, List, length, take}
use Rattle.auction_terms.specs.declared.Config.{Config}
use Rattle.auction_terms.specs.declared.Entry.{Entry}
use Rattle.auction_terms.specs.Day.{IsLegal}
use Rattle.auction.specs.declared.AuditFinding.{AuditFinding}
use Rattle.auction.specs.declared.AuditFinding.TheVariants.{Legal, BadAt}

-- the entries before the place are a legal history, and with the one at the place they are not
pub record IsFirstBad (config : Config) (entries : List Entry) (place : ℕ) : Type 0 where
  pub within : place < length entries
  pub legal_before : IsLegal config (take place entries)
  pub broken : IsLegal config (take (place + 1) entries) → ⊥

-- Legal for a legal history, else the first place that breaks it
abbrev pub IsFindingOf : Config → List Entry → AuditFinding → Type 0
IsFindingOf config entries Legal = IsLegal config entries
IsFindingOf config entries (BadAt place) = IsFirstBad config entries place
