-- A record on a page, field by field.
use Rattle.std.proofs.Common.{◌≡◌, ◌∙◌, ℕ, List, ◌++◌, codes, append_assoc, ap}

-- a field and its comma were put on the page, and then the others
pub field-more : (old middle new field rest : List ℕ) → middle ≡ old ++ (field ++ codes ",") → new ≡ middle ++ rest
    → new ≡ old ++ (field ++ (codes "," ++ rest))
field-more old middle new field rest e f =
    f ∙ ap (λ t. t ++ rest) e ∙ append_assoc old (field ++ codes ",") rest
    ∙ ap (λ t. old ++ t) (append_assoc field (codes ",") rest)

-- the last field and the line end were put on the page
pub field-last : (old middle new field : List ℕ) → middle ≡ old ++ field → new ≡ middle ++ codes "\n"
    → new ≡ old ++ (field ++ codes "\n")
field-last old middle new field e f = f ∙ ap (λ t. t ++ codes "\n") e ∙ append_assoc old field (codes "\n")
