-- Texts that are written piece by piece.
use Rattle.std.proofs.Common.{◌≡◌, ℕ, List, [], ◌++◌, take, drop, Option, Some, None, refl, ap, sym, ◌∙◌, append_assoc}
use Rattle.std.proofs.lemmas.List.{append-nil, take-append-drop}
use Rattle.std.specs.Io.KnownBytes.{Appends}
use Rattle.byte_streams.specs.Streams.{AppendsBeginning}

-- nothing was written
pub appends-none : (a : Option (List ℕ)) → Appends a a []
appends-none None = tt
appends-none (Some p) = sym (append-nil p)

-- one text after another
pub appends-more : (a b c : Option (List ℕ)) (x y : List ℕ) → Appends a b x → Appends b c y → Appends a c (x ++ y)
appends-more None b c x y h k = tt
appends-more (Some p) None c x y h k = absurd h
appends-more (Some p) (Some q) None x y h k = k
appends-more (Some p) (Some q) (Some r) x y h k = k ∙ ap (λ (t : List ℕ). t ++ y) h ∙ append_assoc p x y

-- more of what was left is done
pub done-more : (done rest all : List ℕ) (n : ℕ) → done ++ rest ≡ all → (done ++ take n rest) ++ drop n rest ≡ all
done-more done rest all n h = rw (append_assoc done (take n rest) (drop n rest), take-append-drop n rest) h

-- a text was begun that others were to follow
pub begun-before : (a b : Option (List ℕ)) (x y : List ℕ) → AppendsBeginning a b x → AppendsBeginning a b (x ++ y)
begun-before a b x y (done, rest, is, wrote) = (done, rest ++ y, rw (← append_assoc done rest y, is) refl, wrote)
