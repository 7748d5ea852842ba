-- Calls that go before others.
use Rattle.std.proofs.Common.{◌≡◌, ◌<◌, ◌≤◌, ◌+◌, ℕ, List, ◌++◌, [], ◌∷◌, Result, Ok, Err, false, nat_le, refl, ap, sym}
use Rattle.std.proofs.Common.{length, Bool, true, ◌∙◌, append_assoc, rules, arith}
use Rattle.auction_terms.specs.declared.Call.{Call}
use Rattle.auction_terms.specs.Results.{◌>>=◌}
use Rattle.order_file.specs.File.{FailsAsWanted, calls_after}
use Rattle.order_file.specs.Record.{numbered_call}
use Rattle.order_file.specs.declared.fault.FileFault.{FileFault}
use Rattle.order_file.specs.declared.fault.FileFault.TheVariants as file
use Rattle.std.proofs.lemmas.Grind.{common_steps}

-- these calls, and then those
abbrev pub after : List Call → Result (List Call) FileFault → Result (List Call) FileFault
after front rest = rest >>= λ calls. Ok (front ++ calls)

-- one more call goes to the end of the front
after-more : (front : List Call) (call : Call) (r : Result (List Call) FileFault)
    → after (front ++ call ∷ []) r ≡ after front (r >>= λ rest. Ok (call ∷ rest))
after-more front call (Ok x) = ap Ok (append_assoc front (call ∷ []) x)
after-more front call (Err e) = refl

-- what the calls of these records are, with room for one more
one_more : (members max_calls before : ℕ) (r : List (List ℕ)) (rs : List (List (List ℕ))) → before < max_calls
    → calls_after members max_calls before (r ∷ rs)
    ≡ (numbered_call members (before + 1) r >>= λ call. calls_after members max_calls (before + 1) rs >>= λ rest. Ok
    (call ∷ rest))
unfolding calls_after
one_more members max_calls before r rs room = let full : nat_le max_calls before ≡ false =
    search (rules) in rw full refl

-- ---- what is left, by the first record

-- there is none
pub calls_after-end : (members max_calls before : ℕ) (rows : List (List (List ℕ))) → rows ≡ []
    → calls_after members max_calls before rows ≡ Ok []
unfolding calls_after
calls_after-end members max_calls before rows is = rw is refl

-- it is one too many
pub calls_after-full : (members max_calls before : ℕ) (rows : List (List (List ℕ))) (r : List (List ℕ))
    (rs : List (List (List ℕ)))
    → rows ≡ r ∷ rs → max_calls ≤ before → calls_after members max_calls before rows
    ≡ Err (file.TooManyCommands (before + 1))
unfolding calls_after
calls_after-full members max_calls before rows r rs is full =
    let test : nat_le max_calls before ≡ true = search rules in
    rw (is, test) refl

-- it has a fault
pub calls_after-bad : (members max_calls before : ℕ) (rows : List (List (List ℕ))) (r : List (List ℕ))
    (rs : List (List (List ℕ)))
    (fault : FileFault) → rows ≡ r ∷ rs → before < max_calls → numbered_call members (before + 1) r ≡ Err fault
    → calls_after members max_calls before rows ≡ Err fault
calls_after-bad members max_calls before rows r rs fault is room bad =
    rw is (one_more members max_calls before r rs room ∙ rw bad refl)

-- it has a call
pub calls_after-next : (members max_calls before : ℕ) (rows : List (List (List ℕ))) (r : List (List ℕ))
    (rs : List (List (List ℕ)))
    (call : Call) → rows ≡ r ∷ rs → before < max_calls → numbered_call members (before + 1) r ≡ Ok call
    → calls_after members max_calls before rows
    ≡ (calls_after members max_calls (before + 1) rs >>= λ rest. Ok (call ∷ rest))
calls_after-next members max_calls before rows r rs call is room good =
    rw is (one_more members max_calls before r rs room ∙ rw good refl)

-- ---- calls that go before those that are left

-- the first that is left goes to the end of those before
pub after-next : (front : List Call) (call : Call) (left rest all : Result (List Call) FileFault)
    → after front left ≡ all
    → left ≡ (rest >>= λ calls. Ok (call ∷ calls)) → after (front ++ call ∷ []) rest ≡ all
after-next front call left rest all same is = after-more front call rest ∙ ap (after front) (sym is) ∙ same

-- a fault that was wanted
pub fails-at : {Y : Type 0} (e : FileFault) (wanted : Result Y FileFault) → wanted ≡ Err e → FailsAsWanted e wanted
fails-at file.TooLong wanted h = h
fails-at file.ReadFailed wanted h = tt
fails-at (file.BadMember n) wanted h = h
fails-at (file.BadCommand n) wanted h = h
fails-at (file.BadCount n) wanted h = h
fails-at (file.BadField n f) wanted h = h
fails-at (file.TooManyCommands n) wanted h = h
fails-at file.NotADay wanted h = h
fails-at file.NoMemory wanted h = tt

-- nothing goes before
pub nothing-before : (r : Result (List Call) FileFault) → after [] r ≡ r
nothing-before (Ok x) = refl
nothing-before (Err e) = refl

-- a call goes before the calls at the front
after-first : (call : Call) (front : List Call) (r : Result (List Call) FileFault)
    → (after front r >>= λ rest. Ok (call ∷ rest)) ≡ after (call ∷ front) r
after-first call front (Ok x) = refl
after-first call front (Err e) = refl

-- the calls of some records, and then those of others, which come after them
pub calls-append : (members max_calls before : ℕ) (xs ys : List (List (List ℕ)))
    → calls_after members max_calls before (xs ++ ys)
    ≡ (calls_after members max_calls before xs >>= λ front. after front
    (calls_after members max_calls (before + length xs) ys))
unfolding calls_after
calls-append members max_calls before [] ys =
    let none : before + length {A = List (List ℕ)} [] ≡ before = omega arith in
    rw none (sym (nothing-before (calls_after members max_calls before ys)))
calls-append members max_calls before (r ∷ rs) ys =
    by_at_most (nat_le max_calls before) (numbered_call members (before + 1) r) refl refl
    (calls-append members max_calls (before + 1) rs ys)
  where
    wanted : Result (List Call) FileFault
    wanted = calls_after members max_calls (before + length (r ∷ rs)) ys

    same : before + 1 + length rs ≡ before + length (r ∷ rs)
    same = omega arith

    more : (call : Call) (some : Result (List Call) FileFault)
        → ((some >>= λ front. after front wanted) >>= λ rest. Ok (call ∷ rest))
        ≡ ((some >>= λ rest. Ok (call ∷ rest)) >>= λ front. after front wanted)
    more call (Ok front) = after-first call front wanted
    more call (Err e) = refl

    by_at_most : (full : Bool) (first : Result Call FileFault) → nat_le max_calls before ≡ full
        → numbered_call members (before + 1) r ≡ first
        → (calls_after members max_calls (before + 1) (rs ++ ys)
        ≡ (calls_after members max_calls (before + 1) rs >>= λ front. after front
        (calls_after members max_calls (before + 1 + length rs) ys)))
        → calls_after members max_calls before (r ∷ (rs ++ ys))
        ≡ (calls_after members max_calls before (r ∷ rs) >>= λ front. after front wanted)
    by_at_most true first e d later = rw e refl
    by_at_most false (Err fault) e d later = rw (e, d) refl
    by_at_most false (Ok call) e d later =
        rw (e, d) (ap (λ (some : Result (List Call) FileFault). some >>= λ rest. Ok (call ∷ rest)) (rw same at later)
        ∙ more call (calls_after members max_calls (before + 1) rs))

-- each record has a call
pub calls-length : (members max_calls before : ℕ) (rows : List (List (List ℕ))) (calls : List Call)
    → calls_after members max_calls before rows ≡ Ok calls → length calls ≡ length rows
unfolding calls_after
calls-length members max_calls before [] calls is = let none : [] ≡ calls = cc in ap length (sym none)
calls-length members max_calls before (r ∷ rs) calls is =
    by_at_most (nat_le max_calls before) (numbered_call members (before + 1) r)
    (calls_after members max_calls (before + 1) rs)
    refl refl refl (calls-length members max_calls (before + 1) rs)
  where
    by_at_most : (full : Bool) (first : Result Call FileFault) (rest : Result (List Call) FileFault)
        → nat_le max_calls before ≡ full
        → numbered_call members (before + 1) r ≡ first → calls_after members max_calls (before + 1) rs ≡ rest
        → ((some : List Call) → calls_after members max_calls (before + 1) rs ≡ Ok some → length some ≡ length rs)
        → length calls ≡ length (r ∷ rs)
    by_at_most true first rest e d f later = let no_calls : Err (file.TooManyCommands (before + 1)) ≡ Ok calls =
        rw e at is in absurd (cc)
    by_at_most false (Err fault) rest e d f later = let no_calls : Err fault ≡ Ok calls = rw (e, d) at is in absurd (cc)
    by_at_most false (Ok call) (Err fault) e d f later =
        let no_calls : Err fault ≡ Ok calls = rw (e, d, f) at is in absurd (cc)
    by_at_most false (Ok call) (Ok some) e d f later = let same : Ok (call ∷ some) ≡ Ok calls = rw (e, d, f) at is in
        let found = later some f in let one : call ∷ some ≡ calls = cc in omega (arith, found, ap length one)
