-- A record, field by field from its last on.
use Rattle.std.proofs.Common.{◌≡◌, ◌∙◌, ℕ, List, [], ◌++◌, codes, append_assoc, ap}

-- a field and its comma were put before the others
pub field-before : (field old new rest : List ℕ) → new ≡ field ++ (codes "," ++ old) → old ≡ rest
    → new ≡ field ++ (codes "," ++ rest)
field-before field old new rest e f = e ∙ ap (λ t. field ++ (codes "," ++ t)) f

-- two fields and their commas were put before the others
pub fields-before : (first second old new rest head : List ℕ)
    → head ≡ first ++ (codes "," ++ (second ++ (codes "," ++ []))) → new ≡ head ++ old → old ≡ rest
    → new ≡ first ++ (codes "," ++ (second ++ (codes "," ++ rest)))
fields-before first second old new rest head is e f =
    e ∙ ap (λ t. t ++ old) is ∙ append_assoc first (codes "," ++ (second ++ (codes "," ++ []))) old
    ∙ ap (λ t. first ++ (codes "," ++ t)) (append_assoc second (codes "," ++ []) old
    ∙ ap (λ t. second ++ (codes "," ++ t)) f)
