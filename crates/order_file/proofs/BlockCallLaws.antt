-- The calls of an input that is read block by block: what a loop over its blocks keeps.
use Rattle.std.proofs.Common.{◌≡◌, ◌+◌, ℕ, List, [], ◌++◌, length, Option, Some, None, Result, Ok, Err, refl, ap}
use Rattle.std.proofs.Common.{sym, append_assoc, arith, length-append, ◌∙◌}
use Rattle.auction_terms.specs.declared.Call.{Call}
use Rattle.auction_terms.specs.Results.{◌>>=◌}
use Rattle.csv.specs.Reading.{default_config, records, strip_bom}
use Rattle.order_file.specs.Blocks.{BlockState, Rows, and_then_rows, block_rows, calls_with_more, rows_to_come}
use Rattle.order_file.specs.Blocks.{rows_within}
use Rattle.std.specs.Prelude.{IfSome, IsSomeAnd}
use Rattle.order_file.specs.File.{FailsAsWanted, calls_after, calls_of_file, file, within_limit}
use Rattle.order_file.specs.declared.fault.FileFault.{FileFault}
use Rattle.order_file.specs.declared.fault.FileFault.TheVariants as fault
use Rattle.order_file.specs.declared.reading.TheConstants.{MAX_BYTES}
use Rattle.order_file.proofs.CallLaws.{after, nothing-before, calls-append, calls-length}

-- these calls, and then those of the records to come
abbrev pub and_calls : ℕ → ℕ → List Call → Result Rows FileFault → Result (List Call) FileFault
and_calls members max_calls front rest =
    rest >>= λ rows. after front (calls_after members max_calls (length front) rows)

-- a file, by the records of its text
pub file-rows : (text : List ℕ) (members max_calls : ℕ)
    → file text members max_calls ≡ and_calls members max_calls [] (rows_within MAX_BYTES text)
unfolding file rows_within
file-rows text members max_calls = by_result (within_limit MAX_BYTES text)
  where
    by_result : (r : Result (List ℕ) FileFault)
        → (r >>= calls_of_file members max_calls)
        ≡ ((r >>= λ bytes. Ok (records default_config (strip_bom bytes))) >>= λ rows. after []
        (calls_after members max_calls 0 rows))
    by_result (Ok bytes) = sym (nothing-before (calls_of_file members max_calls bytes))
    by_result (Err e) = refl

after-twice : (front more : List Call) (r : Result (List Call) FileFault)
    → after front (after more r) ≡ after (front ++ more) r
after-twice front more (Ok x) = ap Ok (sym (append_assoc front more x))
after-twice front more (Err e) = refl

-- the calls of a block, before those of the records after it
calls-before : (members max_calls : ℕ) (front calls : List Call) (rows rest : Rows)
    → calls_after members max_calls (length front) rows ≡ Ok calls
    → after front (calls_after members max_calls (length front) (rows ++ rest))
    ≡ after (front ++ calls) (calls_after members max_calls (length (front ++ calls)) rest)
calls-before members max_calls front calls rows rest good =
    let places : length front + length rows ≡ length (front ++ calls) =
    omega (arith, calls-length members max_calls (length front) rows calls good, length-append front calls) in
    ap (after front) (calls-append members max_calls (length front) rows rest
    ∙ ap
    (λ (r : Result (List Call) FileFault). r >>= λ some. after some
    (calls_after members max_calls (length front + length rows) rest)) good)
    ∙ after-twice front calls (calls_after members max_calls (length front + length rows) rest)
    ∙ ap (λ (n : ℕ). after (front ++ calls) (calls_after members max_calls n rest)) places

-- a block's records have calls, and there is a next block
pub at-next_block : (members max_calls : ℕ) (front calls : List Call) (rows : Rows) (before now : Result Rows FileFault)
    (all : Result (List Call) FileFault)
    → all ≡ and_calls members max_calls front before → before ≡ and_then_rows rows now
    → calls_after members max_calls (length front) rows ≡ Ok calls
    → all ≡ and_calls members max_calls (front ++ calls) now
at-next_block members max_calls front calls rows before now all same is good =
    same ∙ ap (and_calls members max_calls front) is ∙ by_result now
  where
    by_result : (r : Result Rows FileFault) → and_calls members max_calls front (and_then_rows rows r)
        ≡ and_calls members max_calls (front ++ calls) r
    by_result (Ok rest) = calls-before members max_calls front calls rows rest good
    by_result (Err e) = refl

-- a block's records have a fault, and what is left was passed over
pub at-bad_block : (members max_calls : ℕ) (front : List Call) (e : FileFault) (rows rest : Rows)
    (before : Result Rows FileFault) (all : Result (List Call) FileFault)
    → all ≡ and_calls members max_calls front before → before ≡ Ok (rows ++ rest)
    → calls_after members max_calls (length front) rows ≡ Err e
    → all ≡ Err e
at-bad_block members max_calls front e rows rest before all same is bad =
    same
    ∙ ap (and_calls members max_calls front) is
    ∙ ap (after front) (calls-append members max_calls (length front) rows rest
    ∙ ap
    (λ (r : Result (List Call) FileFault). r >>= λ some. after some
    (calls_after members max_calls (length front + length rows) rest)) bad)

-- the input has another fault
pub at-bad_input : (members max_calls : ℕ) (front : List Call) (e : FileFault) (before : Result Rows FileFault)
    (all : Result (List Call) FileFault)
    → all ≡ and_calls members max_calls front before → before ≡ Err e → all ≡ Err e
at-bad_input members max_calls front e before all same is = same ∙ ap (and_calls members max_calls front) is

-- the calls so far, and then those of the records to come, are those of the file
abbrev pub CarriesCalls : Option (List ℕ) → Option (List ℕ) → ℕ → ℕ → List Call → BlockState → Type 0
CarriesCalls a b members max_calls front held =
    IfSome a
    (λ text. IsSomeAnd b
    (λ left. file text members max_calls ≡ and_calls members max_calls front (rows_to_come held left)))

pub carries-open : (a b : Option (List ℕ)) (members max_calls : ℕ) (held : BlockState)
    → IfSome a (λ text. IsSomeAnd b (λ left. rows_within MAX_BYTES text ≡ rows_to_come held left))
    → CarriesCalls a b members max_calls [] held
carries-open None b members max_calls held is = tt
carries-open (Some text) None members max_calls held is = is
carries-open (Some text) (Some left) members max_calls held is =
    file-rows text members max_calls ∙ ap (and_calls members max_calls []) is

-- calls that come after others
abbrev okay : List Call → Result (List Call) FileFault
okay calls = Ok calls

abbrev bad_of : FileFault → Result (List Call) FileFault
bad_of e = Err e

added : (front all : List Call) (r : Result (List Call) FileFault) → after front r ≡ Ok all → (more : List Call)
    × (r ≡ Ok more) × (front ++ more ≡ all)
added front all (Ok x) is = let same : okay (front ++ x) ≡ okay all = is in (x, refl, cc)
added front all (Err e) is = let same : bad_of e ≡ okay all = is in absurd (cc)

pub carries-next : (a b c : Option (List ℕ)) (members max_calls : ℕ) (front all : List Call) (old held : BlockState)
    → CarriesCalls a b members max_calls front old
    → IfSome b
    (λ before. IsSomeAnd c
    (λ left. rows_to_come old before ≡ and_then_rows (block_rows old) (rows_to_come held left)))
    → calls_with_more members max_calls front (block_rows old) ≡ Ok all → CarriesCalls a c members max_calls all held
carries-next None b c members max_calls front all old held is next good = tt
carries-next (Some text) None c members max_calls front all old held is next good = absurd is
carries-next (Some text) (Some before) None members max_calls front all old held is next good = next
carries-next (Some text) (Some before) (Some left) members max_calls front all old held is next good =
    let more = added front all (calls_after members max_calls (length front) (block_rows old)) good in
    at-next_block members max_calls front more.0 (block_rows old) (rows_to_come old before) (rows_to_come held left)
    (file text members max_calls) is next more.1
    ∙ ap (λ (calls : List Call). and_calls members max_calls calls (rows_to_come held left)) more.2

pub carries-last : (a b : Option (List ℕ)) (members max_calls : ℕ) (front all : List Call) (old : BlockState)
    → CarriesCalls a b members max_calls front old
    → IfSome b (λ before. rows_to_come old before ≡ Ok (block_rows old))
    → calls_with_more members max_calls front (block_rows old) ≡ Ok all
    → IfSome a (λ text. file text members max_calls ≡ Ok all)
carries-last None b members max_calls front all old is last good = tt
carries-last (Some text) None members max_calls front all old is last good = absurd is
carries-last (Some text) (Some before) members max_calls front all old is last good =
    is ∙ ap (and_calls members max_calls front) last ∙ good

-- a fault of one is that of another
pub fails-alike : {X Y : Type 0} (e : FileFault) (w : Result X FileFault) (v : Result Y FileFault)
    → (w ≡ Err e → v ≡ Err e) → FailsAsWanted e w → FailsAsWanted e v
fails-alike fault.ReadFailed w v same h = tt
fails-alike fault.NoMemory w v same h = tt
fails-alike fault.TooLong w v same h = same h
fails-alike (fault.BadMember k) w v same h = same h
fails-alike (fault.BadCommand k) w v same h = same h
fails-alike (fault.BadCount k) w v same h = same h
fails-alike (fault.BadField k f) w v same h = same h
fails-alike (fault.TooManyCommands k) w v same h = same h
fails-alike fault.NotADay w v same h = same h

pub carries-bad : (a b : Option (List ℕ)) (members max_calls : ℕ) (front : List Call) (old : BlockState) (e : FileFault)
    → CarriesCalls a b members max_calls front old
    → IfSome b (λ before. (rest : Rows) × (rows_to_come old before ≡ Ok (block_rows old ++ rest)))
    → FailsAsWanted e (calls_with_more members max_calls front (block_rows old))
    → IfSome a (λ text. FailsAsWanted e (file text members max_calls))
carries-bad None b members max_calls front old e is rest bad = tt
carries-bad (Some text) None members max_calls front old e is rest bad = absurd is
carries-bad (Some text) (Some before) members max_calls front old e is rest bad =
    fails-alike e (calls_with_more members max_calls front (block_rows old)) (file text members max_calls) same bad
  where
    failed : (r : Result (List Call) FileFault) → after front r ≡ Err e → r ≡ Err e
    failed (Ok x) h = let no_fault : okay (front ++ x) ≡ bad_of e = h in absurd (cc)
    failed (Err d) h = h

    same : calls_with_more members max_calls front (block_rows old) ≡ Err e → file text members max_calls ≡ Err e
    same h =
        at-bad_block members max_calls front e (block_rows old) rest.0 (rows_to_come old before)
        (file text members max_calls) is rest.1
        (failed (calls_after members max_calls (length front) (block_rows old)) h)

pub carries-fault : (a b : Option (List ℕ)) (members max_calls : ℕ) (front : List Call) (old : BlockState)
    (e : FileFault) → CarriesCalls a b members max_calls front old
    → IfSome b (λ before. FailsAsWanted e (rows_to_come old before))
    → IfSome a (λ text. FailsAsWanted e (file text members max_calls))
carries-fault None b members max_calls front old e is bad = tt
carries-fault (Some text) None members max_calls front old e is bad = absurd is
carries-fault (Some text) (Some before) members max_calls front old e is bad =
    fails-alike e (rows_to_come old before) (file text members max_calls)
    (λ h. at-bad_input members max_calls front e (rows_to_come old before) (file text members max_calls) is h) bad

pub fails-file : (a : Option (List ℕ)) (members max_calls : ℕ) (e : FileFault)
    → IfSome a (λ text. FailsAsWanted e (rows_within MAX_BYTES text))
    → IfSome a (λ text. FailsAsWanted e (file text members max_calls))
fails-file None members max_calls e bad = tt
fails-file (Some text) members max_calls e bad =
    fails-alike e (rows_within MAX_BYTES text) (file text members max_calls) (λ h. file-rows text members max_calls
    ∙ ap (and_calls members max_calls []) h) bad
