-- What is behind the lines of a file.
use Rattle.std.proofs.Common.{◌≡◌, ℕ, zero, suc, ◌+◌, ◌-◌, ◌≤◌, List, [], ◌∷◌, ◌++◌, length, take, drop, get_or}
use Rattle.std.proofs.Common.{replicate, refl, sym, ◌∙◌, ap, arith}
use Rattle.std.proofs.lemmas.List.{get_or-drop, drop_at}
use Rattle.journal_file.specs.Device.{IsResized}
use Rattle.journal_file.specs.Committed.{committed, behind_lines, HasTornEnd}
use Rattle.journal_file.specs.declared.committed.TheConstants.{LONGEST_WRITE}

pub nul-replicate : (n k : ℕ) → get_or (replicate {A = ℕ} n 0) k 0 ≡ 0
nul-replicate zero k = refl
nul-replicate (suc n) zero = refl
nul-replicate (suc n) (suc k) = nul-replicate n k

-- a NUL stays one where the length changes, and behind the end there is none but NULs
pub nul-resized : (n m k : ℕ) (file : List ℕ) → get_or file k 0 ≡ 0 → get_or (take n file ++ replicate m 0) k 0 ≡ 0
nul-resized zero m k file is = nul-replicate m k
nul-resized (suc n) m k [] is = nul-replicate m k
nul-resized (suc n) m zero (b ∷ file) is = is
nul-resized (suc n) m (suc k) (b ∷ file) is = nul-resized n m k file is

-- a byte behind others
pub nul-behind : (front k : ℕ) (file : List ℕ) → get_or (drop front file) k 0 ≡ 0 → get_or file (front + k) 0 ≡ 0
nul-behind front k file is = sym (get_or-drop front file k 0) ∙ is

-- room from a place on that isn't far behind the lines
pub torn-end-from : (file : List ℕ) (place : ℕ) → place ≤ length (committed file) + LONGEST_WRITE
    → ((k : ℕ) → place ≤ k → get_or file k 0 ≡ 0) → HasTornEnd file
torn-end-from file place near room =
    λ k far. get_or-drop (length (committed file)) file k 0
    ∙ room (length (committed file) + k) (omega (arith, near, far))

pub torn-end-room : (file text : List ℕ) (room : ℕ) → file ≡ text ++ replicate room 0 → committed file ≡ text
    → HasTornEnd file
torn-end-room file text room is means =
    λ k far. let behind : behind_lines file ≡ replicate room 0 =
    ap (λ (n : ℕ). drop n file) (ap length means) ∙ ap (λ (l : List ℕ). drop (length text) l) is
    ∙ drop_at text (replicate room 0) (length text) refl in
    ap (λ (l : List ℕ). get_or l k 0) behind ∙ nul-replicate room k

pub torn-end-resized : (file c : List ℕ) (len : ℕ) → committed c ≡ committed file → HasTornEnd file
    → IsResized len file c → HasTornEnd c
torn-end-resized file c len same torn crashed =
    λ k far. let at = length (committed file) + k in
    let was : get_or file at 0 ≡ 0 = nul-behind (length (committed file)) k file (torn k far) in
    get_or-drop (length (committed c)) c k 0 ∙ ap (λ (l : List ℕ). get_or c (length l + k) 0) same
    ∙ ap (λ (l : List ℕ). get_or l at 0) crashed.bytes
    ∙ nul-resized (length c) (length c - length file) at file was
