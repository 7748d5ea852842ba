-- Records with more fields than any record may have.
use Rattle.std.specs.Prelude.{◌≡◌, ℕ, ◌+◌, ◌<◌, ◌≤◌, ◌⊎◌, All, List, [], ◌∷◌, length, take, nat_le, nat_lt}
use Rattle.std.specs.Prelude.{slice_index, ◌&&◌}
use Rattle.std.specs.Prelude.{if◌then◌else◌}
use Rattle.csv.specs.Machine.{step}
use Rattle.csv.specs.Reading.{default_config, is_bom}
use Rattle.csv.specs.declared.parser.State.{State}
use Rattle.csv.specs.declared.parser.State.TheVariants as st
use Rattle.order_file.specs.Blocks.{Rows}
use Rattle.order_file.specs.declared.overlong.TheConstants.{MOST_FIELDS, SHORT_LINE}

-- both have more fields than any record may have, and begin alike
pub record AreOverlong (one other : List (List ℕ)) : Type 0 where
  pub many : MOST_FIELDS < length one
  pub others : MOST_FIELDS < length other
  pub alike : take MOST_FIELDS one ≡ take MOST_FIELDS other

-- The same records; or the same up to an overlong one, which the first end with.
unfoldable pub AreUpToOverlong : Rows → Rows → Type 0
AreUpToOverlong [] [] = Unit {0}
AreUpToOverlong [] (w ∷ ws) = ⊥
AreUpToOverlong (r ∷ rs) [] = ⊥
AreUpToOverlong (r ∷ rs) (w ∷ ws) = ((r ≡ w) × AreUpToOverlong rs ws) ⊎ ((rs ≡ []) × AreOverlong r w)

-- none has more fields than a line can have whose fields aren't counted
abbrev pub HaveFewFields : Rows → Type 0
HaveFewFields = All (λ row. length row ≤ SHORT_LINE + 1)

-- how many fields of the record at hand have ended, by the state behind a byte and how many had before it
abbrev pub fields_at : State → ℕ → ℕ
fields_at st.StartField before = before + 1
fields_at st.StartRecord before = 0
fields_at st.AfterCr before = 0
fields_at s before = before

-- how many bytes come before a record has more fields than any may have, or in all
unfoldable pub bytes_to_overlong : State → ℕ → List ℕ → ℕ
bytes_to_overlong s fields [] = 0
bytes_to_overlong s fields (c ∷ rest) =
    if nat_lt MOST_FIELDS fields then 0
    else bytes_to_overlong (step default_config s c).0 (fields_at (step default_config s c).0 fields) rest + 1

-- how many bytes a byte order mark at the start of a text has
unfoldable pub mark_len : List ℕ → ℕ
mark_len text =
    if nat_le 3 (length text) && is_bom (slice_index text 0) (slice_index text 1) (slice_index text 2) then 3 else 0
