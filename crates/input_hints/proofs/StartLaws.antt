-- What is kept when more bytes come.
use Rattle.std.proofs.Common.{◌≡◌, ◌∙◌, ◌+◌, ◌++◌, ℕ, List, ap, length, sym, take}
use Rattle.std.specs.Prelude.{min}
use Rattle.std.proofs.Math.Seq.{take-append-add}
use Rattle.std.proofs.lemmas.List.{take_min}

-- as many as there is room for
pub added : (most room : ℕ) (old more : List ℕ) → length old + room ≡ most → old ++ take (min room (length more)) more
    ≡ take most (old ++ more)
added most room old more is = ap (λ bytes. old ++ bytes) (take_min room more) ∙ sym (take-append-add old more room)
    ∙ ap (λ n. take n (old ++ more)) is
