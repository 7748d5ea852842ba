-- An input that is read block by block.
use Rattle.std.proofs.Common.{◌≡◌, ◌≢◌, ◌<◌, ◌≤◌, ◌+◌, ◌-◌, ◌⊎◌, inl, inr, ℕ, zero, suc, List, [], ◌∷◌, ◌++◌, length}
use Rattle.std.proofs.Common.{take, drop, Option, Some, None, Bool, true, false, nat_le, nat_lt, ◌&&◌, slice_index}
use Rattle.std.proofs.Common.{refl, ap, sym, subst, arith, rules, add-one, append_assoc, length-append, ◌∙◌, Result, Ok}
use Rattle.std.proofs.Common.{Err}
use Rattle.std.proofs.Math.Seq.{drop-cons, take-suc}
use Rattle.std.proofs.lemmas.Bool.{cases_lt, true≢false}
use Rattle.std.proofs.lemmas.List.{append-nil, take-append-drop, take_all}
use Rattle.std.specs.Prelude.{IfErr, IfOk, IfSome, IsSomeAnd, MatchBool}
use Rattle.std.specs.Io.KnownBytes.{Consumes, IsAtEnd, prepend_known}
use Rattle.csv.specs.Reading.{default_config, is_bom, records, strip_bom}
use Rattle.byte_streams.specs.Streams.{TakesAtMost}
use Rattle.order_file.specs.File.{FailsAsWanted, within_limit}
use Rattle.order_file.specs.Blocks.{ExplainsReading, BlockState, IsCut, IsBlock, GivesNextBlock}
use Rattle.order_file.specs.Blocks.{OpensBlock, PassesOverRest, ReadsBytes, Rows, TakesBytes, TakesBytesOrFails}
use Rattle.order_file.specs.Blocks.{bytes_ahead, and_then_rows, block_rows, rows_to_come, rows_within, without_mark}
use Rattle.order_file.specs.declared.blocks.TheConstants.{BLOCK}
use Rattle.order_file.specs.declared.fault.FileFault.{FileFault}
use Rattle.order_file.specs.declared.fault.FileFault.TheVariants as file
use Rattle.order_file.proofs.WholeLineLaws.{NoQuote, line-end-first, lines-then}
use Rattle.order_file.proofs.ReadLaws.{consumes-more}

-- within a limit, and past it
short-within_limit : (room : ℕ) (text : List ℕ) → length text ≤ room → within_limit room text ≡ Ok text
unfolding within_limit
short-within_limit room text h = let test : nat_lt room (length text) ≡ false = search rules in rw test refl

long-within_limit : (room : ℕ) (text : List ℕ) → room < length text → within_limit room text ≡ Err file.TooLong
unfolding within_limit
long-within_limit room text h = let test : nat_lt room (length text) ≡ true = search rules in rw test refl

-- a text begins with a byte order mark, or not
records-without_mark : (x rest : List ℕ) → (rest ≡ []) ⊎ (3 ≤ length x)
    → records default_config (without_mark (10 ∷ x) ++ rest) ≡ records default_config (strip_bom (x ++ rest))
unfolding without_mark strip_bom
records-without_mark [] rest (inl h) = rw h (line-end-first [])
records-without_mark [] rest (inr h) = absurd (omega arith)
records-without_mark (a ∷ []) rest (inl h) = rw h (line-end-first (a ∷ []))
records-without_mark (a ∷ []) rest (inr h) = absurd (omega arith)
records-without_mark (a ∷ b ∷ []) rest (inl h) = rw h (line-end-first (a ∷ b ∷ []))
records-without_mark (a ∷ b ∷ []) rest (inr h) = absurd (omega arith)
records-without_mark (a ∷ b ∷ c ∷ x) rest h = by_bom (is_bom a b c) refl
  where
    long : nat_le 4 (length (10 ∷ a ∷ b ∷ c ∷ x)) ≡ true
    long = search rules

    by_bom : (q : Bool) → is_bom a b c ≡ q → records default_config (without_mark (10 ∷ a ∷ b ∷ c ∷ x) ++ rest)
        ≡ records default_config (strip_bom (a ∷ b ∷ c ∷ (x ++ rest)))
    by_bom true e =
        rw (long, e) (line-end-first (10 ∷ 10 ∷ 10 ∷ (x ++ rest)) ∙ line-end-first (10 ∷ 10 ∷ (x ++ rest))
        ∙ line-end-first (10 ∷ (x ++ rest)) ∙ line-end-first (x ++ rest))
    by_bom false e = rw (long, e) (line-end-first (a ∷ b ∷ c ∷ (x ++ rest)))

-- the line end at a place of the bytes
at-line-end : (bytes : List ℕ) (k : ℕ) → k < length bytes → slice_index bytes k ≡ 10
    → (take (k + 1) bytes ≡ take k bytes ++ 10 ∷ []) × (drop k bytes ≡ 10 ∷ drop (k + 1) bytes)
at-line-end bytes k h e = (
  rw add-one (rw (take-suc bytes k 0 h) (ap (λ b. take k bytes ++ b ∷ []) e)),
  rw add-one (drop-cons bytes k 0 h ∙ ap (λ b. b ∷ drop (suc k) bytes) e),
)

-- the records of the lines at the front, and then those from the last line end on
split-at : (bytes more : List ℕ) (k : ℕ) → k < length bytes → slice_index bytes k ≡ 10 → NoQuote (take k bytes)
    → records default_config (bytes ++ more) ≡ records default_config (take (k + 1) bytes)
    ++ records default_config (drop k bytes ++ more)
split-at bytes more k h e free =
    let parts = at-line-end bytes k h e in
    let whole : bytes ≡ take k bytes ++ (10 ∷ drop (k + 1) bytes) =
    sym (take-append-drop k bytes) ∙ ap (λ (xs : List ℕ). take k bytes ++ xs) parts.1 in
    let text : bytes ++ more ≡ take k bytes ++ (10 ∷ (drop (k + 1) bytes ++ more)) =
    ap (λ (xs : List ℕ). xs ++ more) whole ∙ append_assoc (take k bytes) (10 ∷ drop (k + 1) bytes) more in
    let second : records default_config (drop k bytes ++ more) ≡ records default_config (drop (k + 1) bytes ++ more) =
    ap (λ (xs : List ℕ). records default_config (xs ++ more)) parts.1 ∙ line-end-first (drop (k + 1) bytes ++ more) in
    ap (λ (xs : List ℕ). records default_config xs) text
    ∙ lines-then (take k bytes) (drop (k + 1) bytes ++ more) free
    ∙ rw (parts.0, second) refl

-- one reading after another
pub reads-after : (a b c : Option (List ℕ)) (x y z : List ℕ) (m n o : ℕ) → ReadsBytes a b x y m n
    → ReadsBytes b c y z n o → ReadsBytes a c x z m o
reads-after a b c x y z m n o r s = record {
  bytes = r.bytes ++ s.bytes;
  read = consumes-more a b c r.bytes s.bytes r.read s.read;
  held = s.held ∙ ap (λ (xs : List ℕ). xs ++ s.bytes) r.held ∙ append_assoc x r.bytes s.bytes;
  took = omega (arith, r.took, s.took, length-append r.bytes s.bytes);
}

pub earlier-fault : (e : FileFault) (a b : Option (List ℕ)) (x y : List ℕ) (m n : ℕ) → ReadsBytes a b x y m n
    → ExplainsReading e n b → ExplainsReading e m a
earlier-fault file.ReadFailed a b x y m n r h = tt
earlier-fault file.NoMemory a b x y m n r h = tt
earlier-fault file.TooLong None b x y m n r h = tt
earlier-fault file.TooLong (Some p) None x y m n r h = absurd r.read
earlier-fault file.TooLong (Some p) (Some q) x y m n r h =
    omega (arith, r.took, h, ap length r.read, length-append r.bytes q)
earlier-fault (file.BadMember k) a b x y m n r h = h
earlier-fault (file.BadCommand k) a b x y m n r h = h
earlier-fault (file.BadCount k) a b x y m n r h = h
earlier-fault (file.BadField k f) a b x y m n r h = h
earlier-fault (file.TooManyCommands k) a b x y m n r h = h
earlier-fault file.NotADay a b x y m n r h = h

pub taken-after : (a b c : Option (List ℕ)) (x y : List ℕ) (m n : ℕ) → ReadsBytes a b x y m n → TakesAtMost (n + 1) b c
    → TakesAtMost (m + 1) a c
taken-after a b c x y m n r t =
    (r.bytes ++ t.0, consumes-more a b c r.bytes t.0 r.read t.1, omega (arith, r.took, t.2, length-append r.bytes t.0))

-- a fault of the reading is that of whatever is within the limit
explains-fails : {X : Type 0} (e : FileFault) (m : ℕ) (left : List ℕ) (wanted : Result X FileFault)
    → (m < length left → wanted ≡ Err file.TooLong)
    → ExplainsReading e m (Some left) → FailsAsWanted e wanted
explains-fails file.ReadFailed m left wanted long h = tt
explains-fails file.NoMemory m left wanted long h = tt
explains-fails file.TooLong m left wanted long h = long h
explains-fails (file.BadMember k) m left wanted long h = absurd h
explains-fails (file.BadCommand k) m left wanted long h = absurd h
explains-fails (file.BadCount k) m left wanted long h = absurd h
explains-fails (file.BadField k f) m left wanted long h = absurd h
explains-fails (file.TooManyCommands k) m left wanted long h = absurd h
explains-fails file.NotADay m left wanted long h = absurd h

too-long-short-within_limit : (most : ℕ) (text : List ℕ) → most < length text → rows_within most text ≡ Err file.TooLong
unfolding rows_within
too-long-short-within_limit most text h = rw (long-within_limit most text h) refl

too-long-to_come : (held : BlockState) (left : List ℕ) → held.ended ≡ false → held.room < length left
    → rows_to_come held left ≡ Err file.TooLong
unfolding rows_to_come
too-long-to_come held left e h = rw e (rw (long-within_limit held.room left h) refl)

-- an input that could not be opened
pub fails-open : (e : FileFault) (most : ℕ) (a : Option (List ℕ)) → ExplainsReading e most a
    → IfSome a (λ text. FailsAsWanted e (rows_within most text))
fails-open e most None h = tt
fails-open e most (Some text) h =
    explains-fails e most text (rows_within most text) (too-long-short-within_limit most text) h

-- one of which no next block could be read
pub fails-next : (e : FileFault) (held : BlockState) (a : Option (List ℕ)) → held.ended ≡ false
    → ExplainsReading e held.room a → IfSome a (λ left. FailsAsWanted e (rows_to_come held left))
fails-next e held None stays h = tt
fails-next e held (Some left) stays h =
    explains-fails e held.room left (rows_to_come held left) (too-long-to_come held left stays) h

-- where the end was found, nothing is left
bytes_ahead-left : (held : BlockState) (left : List ℕ) → (held.ended ≡ true → left ≡ []) → bytes_ahead held left ≡ left
bytes_ahead-left held left none = by_ended held.ended refl
  where
    by_ended : (ended : Bool) → held.ended ≡ ended → bytes_ahead held left ≡ left
    by_ended true e = rw e (sym (none e))
    by_ended false e = rw e refl

to_come-fits : (held : BlockState) (left : List ℕ) → (held.ended ≡ true → left ≡ []) → length left ≤ held.room
    → rows_to_come held left ≡ Ok (records default_config (held.bytes ++ left))
unfolding rows_to_come
to_come-fits held left none h = rw (bytes_ahead-left held left none) (rw (short-within_limit held.room left h) refl)

to_come-long-within_limit : (held : BlockState) (left : List ℕ) → (held.ended ≡ true → left ≡ [])
    → held.room < length left → rows_to_come held left ≡ Err file.TooLong
unfolding rows_to_come
to_come-long-within_limit held left none h =
    rw (bytes_ahead-left held left none) (rw (long-within_limit held.room left h) refl)

short-within_limit-fits : (most : ℕ) (text : List ℕ) → length text ≤ most
    → rows_within most text ≡ Ok (records default_config (strip_bom text))
unfolding rows_within
short-within_limit-fits most text h = rw (short-within_limit most text h) refl

-- the first block of a text
opens-block-rows : (held : BlockState) (most room : ℕ) (text mid left bytes x : List ℕ)
    (r : ReadsBytes (Some text) (Some mid) (10 ∷ []) bytes most room)
    → ReadsBytes (Some mid) (Some left) (without_mark bytes) held.bytes room held.room → (mid ≡ []) ⊎ (4 ≤ length bytes)
    → (held.ended ≡ true → left ≡ [])
    → rows_within most text ≡ rows_to_come held left
opens-block-rows held most room text mid left bytes x r s enough none = by_length (cases_lt most (length text))
  where
    sizes : (length text ≡ length r.bytes + length mid) × (length mid ≡ length s.bytes + length left)
    sizes = (ap length r.read ∙ length-append r.bytes mid, ap length s.read ∙ length-append s.bytes left)

    rest : (mid ≡ []) ⊎ (4 ≤ length bytes) → (s.bytes ++ left ≡ []) ⊎ (3 ≤ length r.bytes)
    rest (inl h) = inl (sym s.read ∙ h)
    rest (inr h) = inr (omega (arith, h, ap length r.held))

    same : records default_config (strip_bom text) ≡ records default_config (held.bytes ++ left)
    same =
        ap (λ (xs : List ℕ). records default_config (strip_bom xs))
        (r.read ∙ ap (λ (xs : List ℕ). r.bytes ++ xs) s.read)
        ∙ sym (records-without_mark r.bytes (s.bytes ++ left) (rest enough))
        ∙ ap (λ (xs : List ℕ). records default_config xs) (
        sym (append_assoc (without_mark (10 ∷ r.bytes)) s.bytes left)
        ∙ ap (λ (xs : List ℕ). (without_mark xs ++ s.bytes) ++ left) (sym r.held)
        ∙ ap (λ (xs : List ℕ). xs ++ left) (sym s.held))

    by_length : (most < length text) ⊎ (length text ≤ most) → rows_within most text ≡ rows_to_come held left
    by_length (inl h) =
        too-long-short-within_limit most text h
        ∙ sym (to_come-long-within_limit held left none (omega (arith, h, sizes.0, sizes.1, r.took, s.took)))
    by_length (inr h) =
        short-within_limit-fits most text h ∙ ap Ok same
        ∙ sym (to_come-fits held left none (omega (arith, h, sizes.0, sizes.1, r.took, s.took)))

pub opens-block : (held : BlockState) (most room : ℕ) (ended : Bool) (a b c : Option (List ℕ)) (bytes : List ℕ)
    → ReadsBytes a b (10 ∷ []) bytes most room
    → MatchBool ended (IsAtEnd b) (4 ≤ length bytes) → ReadsBytes b c (without_mark bytes) held.bytes room held.room
    → (held.ended ≡ true → IsAtEnd c)
    → IfSome a (λ text. IsSomeAnd c (λ left. rows_within most text ≡ rows_to_come held left))
opens-block held most room ended None b c bytes r enough s none = tt
opens-block held most room ended (Some text) None c bytes r enough s none = absurd r.read
opens-block held most room ended (Some text) (Some mid) None bytes r enough s none = absurd s.read
opens-block held most room true (Some text) (Some mid) (Some left) bytes r enough s none =
    opens-block-rows held most room text mid left bytes [] r s (inl enough) none
opens-block held most room false (Some text) (Some mid) (Some left) bytes r enough s none =
    opens-block-rows held most room text mid left bytes [] r s (inr enough) none

-- what is cut before the end of the input
pub record CutAt (bytes : List ℕ) (whole : ℕ) : Type 0 where
  pub short-within_limit : whole - 1 < length bytes
  pub is_whole : (whole - 1) + 1 ≡ whole
  pub line_end : slice_index bytes (whole - 1) ≡ 10
  pub free : NoQuote (take (whole - 1) bytes)

pub cut-at : (bytes : List ℕ) (whole : ℕ) (ended : Bool) → ended ≡ false → IsBlock bytes whole ended → CutAt bytes whole
cut-at bytes whole true stays held = absurd (true≢false stays)
cut-at bytes whole false stays held =
    let begun = held.begun in
    let cut = held.cut in
    record { short-within_limit = omega (arith, cut.0); is_whole = omega arith; line_end = cut.1; free = cut.2 }

block-first : (held : BlockState) (more : List ℕ) → CutAt held.bytes held.whole
    → records default_config (held.bytes ++ more) ≡ block_rows held
    ++ records default_config (drop (held.whole - 1) held.bytes ++ more)
unfolding block_rows
block-first held more cut =
    split-at held.bytes more (held.whole - 1) cut.short-within_limit cut.line_end cut.free
    ∙ ap (λ (n : ℕ). records default_config (take n held.bytes)
    ++ records default_config (drop (held.whole - 1) held.bytes ++ more)) cut.is_whole

-- the next block
gives-next_block-rows : (old held : BlockState) (before left : List ℕ) → CutAt old.bytes old.whole → old.ended ≡ false
    → ReadsBytes (Some before) (Some left) (drop (old.whole - 1) old.bytes) held.bytes old.room held.room
    → (held.ended ≡ true → left ≡ [])
    → rows_to_come old before ≡ and_then_rows (block_rows old) (rows_to_come held left)
gives-next_block-rows old held before left cut stays r none = by_length (cases_lt old.room (length before))
  where
    size : length before ≡ length r.bytes + length left
    size = ap length r.read ∙ length-append r.bytes left

    open_yet : old.ended ≡ true → before ≡ []
    open_yet e = absurd (cc)

    text : drop (old.whole - 1) old.bytes ++ before ≡ held.bytes ++ left
    text =
        ap (λ (xs : List ℕ). drop (old.whole - 1) old.bytes ++ xs) r.read
        ∙ sym (append_assoc (drop (old.whole - 1) old.bytes) r.bytes left)
        ∙ ap (λ (xs : List ℕ). xs ++ left) (sym r.held)

    by_length : (old.room < length before) ⊎ (length before ≤ old.room)
        → rows_to_come old before ≡ and_then_rows (block_rows old) (rows_to_come held left)
    by_length (inl h) =
        too-long-to_come old before stays h
        ∙ ap (and_then_rows (block_rows old))
        (sym (to_come-long-within_limit held left none (omega (arith, h, size, r.took))))
    by_length (inr h) =
        to_come-fits old before open_yet h
        ∙ ap Ok (block-first old before cut ∙ ap (λ (xs : List ℕ). block_rows old ++ records default_config xs) text)
        ∙ ap (and_then_rows (block_rows old)) (sym (to_come-fits held left none (omega (arith, h, size, r.took))))

pub gives-next_block : (old held : BlockState) (a c : Option (List ℕ)) → IsBlock old.bytes old.whole old.ended
    → old.ended ≡ false
    → ReadsBytes a c (drop (old.whole - 1) old.bytes) held.bytes old.room held.room → (held.ended ≡ true → IsAtEnd c)
    → IfSome a
    (λ before. IsSomeAnd c
    (λ left. rows_to_come old before ≡ and_then_rows (block_rows old) (rows_to_come held left)))
gives-next_block old held None c is stays r none = tt
gives-next_block old held (Some before) None is stays r none = absurd r.read
gives-next_block old held (Some before) (Some left) is stays r none =
    gives-next_block-rows old held before left (cut-at old.bytes old.whole old.ended stays is) stays r none

-- the last block
last-whole : (bytes : List ℕ) (whole : ℕ) (ended : Bool) → ended ≡ true → IsBlock bytes whole ended
    → take whole bytes ≡ bytes
last-whole bytes whole false ended held = absurd (true≢false (sym ended))
last-whole bytes whole true ended held = take_all whole bytes (omega (arith, held.cut))

last-rows : (held : BlockState) (left : List ℕ) → IsBlock held.bytes held.whole held.ended → held.ended ≡ true
    → rows_to_come held left ≡ Ok (block_rows held)
unfolding rows_to_come block_rows
last-rows held left is ended =
    rw ended
    (rw (short-within_limit held.room [] (omega arith))
    (ap (λ (xs : List ℕ). Ok (records default_config xs)) (append-nil held.bytes
    ∙ sym (last-whole held.bytes held.whole held.ended ended is))))

pub at-last_held : (held : BlockState) (a : Option (List ℕ)) → IsBlock held.bytes held.whole held.ended
    → held.ended ≡ true
    → IfSome a (λ left. rows_to_come held left ≡ Ok (block_rows held))
at-last_held held None is ended = tt
at-last_held held (Some left) is ended = last-rows held left is ended

-- what is left is passed over
pub passes-over_rest-last : (held : BlockState) (a : Option (List ℕ)) → IsBlock held.bytes held.whole held.ended
    → held.ended ≡ true
    → IfSome a (λ left. (rest : Rows) × (rows_to_come held left ≡ Ok (block_rows held ++ rest)))
passes-over_rest-last held None is ended = tt
passes-over_rest-last held (Some left) is ended =
    ([], last-rows held left is ended ∙ ap Ok (sym (append-nil (block_rows held))))

pub passes-over_rest : (held : BlockState) (a c : Option (List ℕ)) (x : List ℕ)
    → IsBlock held.bytes held.whole held.ended → held.ended ≡ false
    → Consumes a c x → length x ≤ held.room → IsAtEnd c
    → IfSome a (λ left. (rest : Rows) × (rows_to_come held left ≡ Ok (block_rows held ++ rest)))
passes-over_rest held None c x is stays read fits end = tt
passes-over_rest held (Some left) None x is stays read fits end = absurd read
passes-over_rest held (Some left) (Some after) x is stays read fits end = (
  records default_config (drop (held.whole - 1) held.bytes ++ left),
  to_come-fits held left (λ e. absurd (true≢false (sym e ∙ stays))) short
      ∙ ap Ok (block-first held left (cut-at held.bytes held.whole held.ended stays is)),
)
  where
    short : length left ≤ held.room
    short = omega (arith, fits, ap length (read ∙ ap (λ (xs : List ℕ). x ++ xs) end ∙ append-nil x))

pub still-first : (x y more : List ℕ) → 0 < length x → slice_index x 0 ≡ 10 → y ≡ x ++ more → slice_index y 0 ≡ 10
still-first [] y more some first grown = absurd (omega arith)
still-first (b ∷ x) y more some first grown = rw grown first

-- a block has no byte order mark at its start
begins-records-without_mark : (x : List ℕ) → strip_bom (10 ∷ x) ≡ 10 ∷ x
unfolding strip_bom
begins-records-without_mark [] = refl
begins-records-without_mark (a ∷ []) = refl
begins-records-without_mark (a ∷ b ∷ x) = refl

front-line : (whole : ℕ) (bytes : List ℕ) → 0 < whole → slice_index bytes 0 ≡ 10
    → (x : List ℕ) × (take whole bytes ≡ 10 ∷ x)
front-line zero bytes some first = absurd (omega arith)
front-line (suc n) [] some first = absurd (search rules)
front-line (suc n) (b ∷ bytes) some first = (take n bytes, ap (λ (c : ℕ). c ∷ take n bytes) first)

pub rows-of-block : (held : BlockState) (bytes : List ℕ) → IsBlock held.bytes held.whole held.ended
    → bytes ≡ take held.whole held.bytes
    → records default_config (strip_bom bytes) ≡ block_rows held
unfolding block_rows
rows-of-block held bytes is same =
    let line = front-line held.whole held.bytes is.begun is.first in
    ap (λ (xs : List ℕ). records default_config (strip_bom xs)) (same ∙ line.1)
    ∙ ap (λ (xs : List ℕ). records default_config xs) (begins-records-without_mark line.0 ∙ sym line.1)

pub passes-over : (result : Result (Unit {0}) FileFault) (held : BlockState) (a c : Option (List ℕ))
    → IsBlock held.bytes held.whole held.ended → held.ended ≡ false
    → IfErr result (λ e. ExplainsReading e held.room a)
    → IfOk result (λ _. (x : List ℕ) × Consumes a c x × (length x ≤ held.room) × IsAtEnd c)
    → IfSome a (λ left. PassesOverRest result held left)
passes-over (Ok u) held a c is stays fault read = passes-over_rest held a c read.0 is stays read.1 read.2 read.3
passes-over (Err e) held a c is stays fault read = fails-next e held a stays fault

-- the exits at a fault
pub fails-opening : (result : Result BlockState FileFault) (e : FileFault) (most : ℕ) (a new : Option (List ℕ))
    → result ≡ Err e → ExplainsReading e most a
    → IfSome a (λ text. OpensBlock result most new text)
fails-opening result e most a new is h = rw is (fails-open e most a h)

pub fails-going_on : (result : Result Bool FileFault) (e : FileFault) (old held : BlockState) (a new : Option (List ℕ))
    → result ≡ Err e → old.ended ≡ false
    → ExplainsReading e old.room a → IfSome a (λ left. GivesNextBlock result old held new left)
fails-going_on result e old held a new is stays h = rw is (fails-next e old a stays h)

pub fails-taking : {X : Type 0} (result : Result X FileFault) (e : FileFault) (room : ℕ) (room_left : X → ℕ)
    (a b : Option (List ℕ)) → result ≡ Err e
    → TakesAtMost (room + 1) a b → TakesBytesOrFails result room room_left a b
fails-taking result e room room_left a b is taken = rw is taken

-- the line end before the first block
pub mark-first : (bytes x : List ℕ) → bytes ≡ (10 ∷ []) ++ x → (slice_index (without_mark bytes) 0 ≡ 10)
    × (0 < length (without_mark bytes))
unfolding without_mark
mark-first bytes x is =
    rw is
    (by_at_most (nat_le 4 (length (10 ∷ x)) && is_bom (slice_index (10 ∷ x) 1) (slice_index (10 ∷ x) 2)
    (slice_index (10 ∷ x) 3)) refl)
  where
    by_at_most : (q : Bool)
        → (nat_le 4 (length (10 ∷ x)) && is_bom (slice_index (10 ∷ x) 1) (slice_index (10 ∷ x) 2)
        (slice_index (10 ∷ x) 3)) ≡ q
        → (slice_index (without_mark (10 ∷ x)) 0 ≡ 10) × (0 < length (without_mark (10 ∷ x)))
    by_at_most true e = rw e (refl, omega arith)
    by_at_most false e = rw e (refl, omega arith)

pub opens-block-with : (held : BlockState) (most room : ℕ) (ended : Bool) (a b c : Option (List ℕ))
    (start bytes marked : List ℕ) → ReadsBytes a b start bytes most room
    → ReadsBytes b c marked held.bytes room held.room → start ≡ 10 ∷ [] → marked ≡ without_mark bytes
    → MatchBool ended (IsAtEnd b) (4 ≤ length bytes) → (held.ended ≡ true → IsAtEnd c)
    → IfSome a (λ text. IsSomeAnd c (λ left. rows_within most text ≡ rows_to_come held left))
opens-block-with held most room ended a b c start bytes marked r s is_start is_marked enough none =
    opens-block held most room ended a b c bytes
    (subst (λ (xs : List ℕ). ReadsBytes a b xs bytes most room) is_start r) enough
    (subst (λ (xs : List ℕ). ReadsBytes b c xs held.bytes room held.room) is_marked s) none

pub reads-takes_bytes-both : (a b c : Option (List ℕ)) (x y z t : List ℕ) (m n o : ℕ) → ReadsBytes a b x y m n
    → ReadsBytes b c z t n o → TakesBytes m o a c
reads-takes_bytes-both a b c x y z t m n o r s = (
  r.bytes ++ s.bytes,
  consumes-more a b c r.bytes s.bytes r.read s.read,
  omega (arith, r.took, s.took, length-append r.bytes s.bytes),
)

-- the first block is held
pub held-open : (start bytes marked last : List ℕ) (whole : ℕ) (ended : Bool) (a b c : Option (List ℕ)) (m n o : ℕ)
    → ReadsBytes a b start bytes m n
    → ReadsBytes b c marked last n o → start ≡ 10 ∷ [] → marked ≡ without_mark bytes → 0 < whole
    → IsCut last whole ended → IsBlock last whole ended
held-open start bytes marked last whole ended a b c m n o r s is_start is_marked some cut =
    let first = mark-first bytes r.bytes (r.held ∙ ap (λ (xs : List ℕ). xs ++ r.bytes) is_start) in
    let now = subst (λ (xs : List ℕ). (slice_index xs 0 ≡ 10) × (0 < length xs)) (sym is_marked) first in
    record { begun = some; first = still-first marked last s.bytes now.1 now.0 s.held; cut = cut }

-- a block has at least four bytes, or the end was found
pub large : (ended : Bool) (a : Option (List ℕ)) (bytes : List ℕ) → MatchBool ended (IsAtEnd a) (BLOCK ≤ length bytes)
    → MatchBool ended (IsAtEnd a) (4 ≤ length bytes)
large true a bytes h = h
large false a bytes h = omega (arith, h)

-- ---- bytes at the start, which were read before

consumes-prepend : (start : List ℕ) (a b : Option (List ℕ)) (x : List ℕ) → Consumes a b x
    → Consumes (prepend_known start a) b (start ++ x)
consumes-prepend start None b x h = tt
consumes-prepend start (Some p) None x h = absurd h
consumes-prepend start (Some p) (Some q) x h = ap (λ (xs : List ℕ). start ++ xs) h ∙ sym (append_assoc start x q)

-- they and those that are read after them are read of the whole text
pub reads-consumes-prepend : (start : List ℕ) (a b : Option (List ℕ)) (x y : List ℕ) (most m n : ℕ)
    → x ≡ (10 ∷ []) ++ start → length start ≤ most → m ≡ most - length start
    → ReadsBytes a b x y m n → ReadsBytes (prepend_known start a) b (10 ∷ []) y most n
reads-consumes-prepend start a b x y most m n is fits room r = record {
  bytes = start ++ r.bytes;
  read = consumes-prepend start a b r.bytes r.read;
  held = r.held ∙ ap (λ (xs : List ℕ). xs ++ r.bytes) is;
  took = omega (arith, fits, room, r.took, length-append start r.bytes);
}

pub explains-consumes-prepend : (e : FileFault) (start : List ℕ) (a : Option (List ℕ)) (most m : ℕ)
    → length start ≤ most → m ≡ most - length start
    → ExplainsReading e m a → ExplainsReading e most (prepend_known start a)
explains-consumes-prepend file.ReadFailed start a most m fits room h = tt
explains-consumes-prepend file.NoMemory start a most m fits room h = tt
explains-consumes-prepend file.TooLong start None most m fits room h = tt
explains-consumes-prepend file.TooLong start (Some left) most m fits room h =
    omega (arith, fits, room, h, length-append start left)
explains-consumes-prepend (file.BadMember k) start a most m fits room h = absurd h
explains-consumes-prepend (file.BadCommand k) start a most m fits room h = absurd h
explains-consumes-prepend (file.BadCount k) start a most m fits room h = absurd h
explains-consumes-prepend (file.BadField k l) start a most m fits room h = absurd h
explains-consumes-prepend (file.TooManyCommands k) start a most m fits room h = absurd h
explains-consumes-prepend file.NotADay start a most m fits room h = absurd h
