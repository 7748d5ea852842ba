-- Where an option is among the arguments.
use Rattle.std.proofs.Common.{◌≡◌, ◌∙◌, ◌<◌, ◌&&◌, ap, sym, ℕ, Bool, true, false, not, zero, suc, refl, arith, List, []}
use Rattle.std.proofs.Common.{◌∷◌, map, length, Some, codes, inl, inr}
use Rattle.std.specs.List.{slice_index_or}
use Rattle.std.specs.Prelude.{slice_get}
use Rattle.std.specs.Str.{bytes_eq}
use Rattle.clap.specs.Built.{IsAuto}
use Rattle.clap.specs.Walk.{Rule, Text, is_empty, rule_of}
use Rattle.clap.specs.declared.builder.arg.Arg.{Arg}
use Rattle.clap.proofs.SimpleLemmas.{is_false}
use Rattle.clap.proofs.WalkLemmas.{both}

abbrev pub lacks : Text → List Rule → Bool
lacks id [] = true
lacks id (r ∷ rest) = not (bytes_eq r.id id) && lacks id rest

-- no other place than k has this id
abbrev pub only_at : ℕ → Text → List Rule → Bool
only_at k id [] = true
only_at zero id (r ∷ rest) = lacks id rest
only_at (suc k) id (r ∷ rest) = not (bytes_eq r.id id) && only_at k id rest

-- the option is at k alone, and is none that building adds
abbrev pub has_own_place : ℕ → Rule → List Rule → Bool
has_own_place k r rules =
    only_at k r.id rules
    && (not (is_empty r.id) && (not (bytes_eq r.id (codes "help")) && not (bytes_eq r.id (codes "version"))))

other_id : (x : Rule) (id : Text) (rest : Bool) → (not (bytes_eq x.id id) && rest) ≡ true → bytes_eq x.id id ≡ true → ⊥
other_id x id rest t same =
    let differs = is_false (bytes_eq x.id id) (both (not (bytes_eq x.id id)) rest t).0 in
    cc

lacked : (xs : List Arg) (id : Text) → lacks id (map rule_of xs) ≡ true → (j : ℕ) (e : Arg) → j < length xs
    → bytes_eq (slice_index_or xs j e).id.now id ≡ true → ⊥
lacked [] id t j e lt same = absurd (omega arith)
lacked (x ∷ xs) id t zero e lt same = other_id (rule_of x) id _ t same
lacked (x ∷ xs) id t (suc j) e lt same = lacked xs id (both _ _ t).1 j e (omega arith) same

pub only : (xs : List Arg) (k : ℕ) (id : Text) → only_at k id (map rule_of xs) ≡ true → (j : ℕ) (e : Arg)
    → j < length xs
    → bytes_eq (slice_index_or xs j e).id.now id ≡ true → j ≡ k
only [] k id t j e lt same = absurd (omega arith)
only (x ∷ xs) zero id t zero e lt same = refl
only (x ∷ xs) zero id t (suc j) e lt same = absurd (lacked xs id t j e (omega arith) same)
only (x ∷ xs) (suc k) id t zero e lt same = absurd (other_id (rule_of x) id _ t same)
only (x ∷ xs) (suc k) id t (suc j) e lt same = ap suc (only xs k id (both _ _ t).1 j e (omega arith) same)

-- the argument of the k-th rule
pub place : (xs : List Arg) (k : ℕ) (r : Rule) → slice_get (map rule_of xs) k ≡ Some r
    → (d : Arg) × (k < length xs) × (rule_of (slice_index_or xs k d) ≡ r)
place [] k r h = cc
place (x ∷ xs) zero r h = (x, omega arith, cc)
place (x ∷ xs) (suc k) r h = let got = place xs k r h in (got.0, omega arith, got.2)

-- the three tests of an id
own_id : (id : Text) (x : Bool)
    → (x && (not (is_empty id) && (not (bytes_eq id (codes "help")) && not (bytes_eq id (codes "version"))))) ≡ true
    → (not (is_empty id) ≡ true) × (not (bytes_eq id (codes "help")) ≡ true)
    × (not (bytes_eq id (codes "version")) ≡ true)
own_id id x t =
    let p =
    (both x (not (is_empty id) && (not (bytes_eq id (codes "help")) && not (bytes_eq id (codes "version")))) t).1 in
    let q = both (not (is_empty id)) (not (bytes_eq id (codes "help")) && not (bytes_eq id (codes "version"))) p in
    let r = both (not (bytes_eq id (codes "help"))) (not (bytes_eq id (codes "version"))) q.1 in
    (q.0, r.0, r.1)

pub alone : (k : ℕ) (r : Rule) (rules : List Rule) → has_own_place k r rules ≡ true → only_at k r.id rules ≡ true
alone k r rules t = (both (only_at k r.id rules) _ t).0

pub named : (k : ℕ) (r : Rule) (rules : List Rule) → has_own_place k r rules ≡ true → r.id ≡ [] → ⊥
named k r rules t e =
    let bad : false ≡ true = rw e at (own_id r.id (only_at k r.id rules) t).0 in
    cc

pub not_auto : (k : ℕ) (a : Arg) (r : Rule) (rules : List Rule) → rule_of a ≡ r → has_own_place k r rules ≡ true
    → IsAuto a → ⊥
not_auto k a r rules is t (inl e) =
    let id : r.id ≡ codes "help" = ap (λ (x : Rule). x.id) (sym is) ∙ e in
    let bad : false ≡ true = rw id at (own_id r.id (only_at k r.id rules) t).1 in
    cc
not_auto k a r rules is t (inr e) =
    let id : r.id ≡ codes "version" = ap (λ (x : Rule). x.id) (sym is) ∙ e in
    let bad : false ≡ true = rw id at (own_id r.id (only_at k r.id rules) t).2 in
    cc
