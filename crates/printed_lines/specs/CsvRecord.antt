-- The text of a record of CSV.
use Rattle.std.specs.Prelude.{ℕ, List, [], ◌∷◌, ◌++◌, codes, decimal}
use Rattle.auction_terms.specs.declared.Limit.{Limit}
use Rattle.auction_terms.specs.declared.Limit.TheVariants.{Market, At}

-- fields, parted by commas, and a line end
abbrev pub csv_record : List (List ℕ) → List ℕ
csv_record [] = codes "\n"
csv_record (field ∷ []) = field ++ codes "\n"
csv_record (field ∷ next ∷ fields) = field ++ (codes "," ++ csv_record (next ∷ fields))

abbrev pub limit_field : Limit → List ℕ
limit_field Market = codes "market"
limit_field (At tick) = decimal tick
