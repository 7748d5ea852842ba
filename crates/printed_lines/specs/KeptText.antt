-- Text that is kept until it is printed.
use Rattle.std.specs.Prelude.{ℕ, List, ◌++◌}
use Rattle.printed_lines.specs.declared.kept.KeptText.{KeptText}

-- what is on full pages, and then what is on the one that is being filled
abbrev pub kept_text : KeptText → List ℕ
kept_text kept = kept.full.items ++ kept.page
