-- The records of a text, one by one.
use Rattle.std.proofs.Common.{Bor, ◌≡◌, ◌<◌, ◌+◌, ◌⊎◌, inl, inr, ℕ, zero, suc, List, [], ◌∷◌, ◌++◌, length, Option}
use Rattle.std.proofs.Common.{Some, None, IsSome, Bool, true, false, refl, ap, arith, add-one, ◌∙◌}
use Rattle.std.specs.Bool.{MatchBool}
use Rattle.csv.specs.Machine.{Read, ends_at_end, field_after, fields_after, is_end, next_record, step}
use Rattle.csv.specs.Reading.{ChangesHeaders, ReadRecord, Reached, default_config, names_headers, reader_config}
use Rattle.csv.specs.Reading.{reader_headers, reader_trim, records, records_from, records_next, reader_state}
use Rattle.csv.specs.Reading.{took_first}
use Rattle.csv.specs.declared.reader.Reader.{Reader}
use Rattle.csv.specs.declared.reader.Headers.{Headers}
use Rattle.csv.specs.declared.reader.Trim.TheVariants as how
use Rattle.csv.proofs.ReadFacts.{rows-end, rows-more}
use Rattle.csv.specs.declared.parser.Config.{Config}
use Rattle.csv.specs.declared.parser.State.{State}
use Rattle.csv.specs.declared.parser.State.TheVariants as st
use Rattle.order_file.specs.Rows.{IsRecordReader, bytes_left, records_left, rows_left}
use Rattle.std.proofs.lemmas.Grind.{common_steps}

-- less is left than there was, or nothing is left, at the start of a record
abbrev pub Shrinks : List ℕ → Read → Type 0
Shrinks bytes p = (length p.2 < length bytes) ⊎ ((p.1 ≡ st.StartRecord) × (p.2 ≡ []))

weaker : (b : ℕ) (bytes : List ℕ) (p : Read) → Shrinks bytes p → Shrinks (b ∷ bytes) p
weaker b bytes p (inl h) = inl (omega arith)
weaker b bytes p (inr h) = inr h

-- a record takes bytes, but at the end of the text
pub shrinks : (cfg : Config) (s : State) (fields : List (List ℕ)) (field bytes : List ℕ) (p : Read)
    → next_record cfg s fields field bytes ≡ Some p → Shrinks bytes p
unfolding next_record
shrinks cfg s fields field [] p e = by_open_end (ends_at_end s) refl e
  where
    by_open_end : (b : Bool) → ends_at_end s ≡ b → next_record cfg s fields field [] ≡ Some p → Shrinks [] p
    by_open_end true eb h =
        let q : Some (fields ++ (field ∷ []), st.StartRecord, []) ≡ Some p = rw eb at h in inr (cc, cc)
    by_open_end false eb h = cc (rw eb at h)
shrinks cfg s fields field (c ∷ rest) p e =
    by_end (is_end (step cfg s c).1) refl e (shrinks cfg (step cfg s c).0 _ _ rest p)
  where
    by_end : (b : Bool) → is_end (step cfg s c).1 ≡ b → next_record cfg s fields field (c ∷ rest) ≡ Some p
        → (next_record cfg (step cfg s c).0 (fields_after (step cfg s c).1 fields field)
        (field_after (step cfg s c).1 c field) rest ≡ Some p → Shrinks rest p)
        → Shrinks (c ∷ rest) p
    by_end true eb h more = grind (arith, common_steps)
    by_end false eb h more = weaker c rest p (more (rw eb at h))

-- the end of a text has no record
pub records_from-done : (cfg : Config) (n : ℕ) → records_from cfg n st.StartRecord [] ≡ []
unfolding records_from next_record
records_from-done cfg zero = refl
records_from-done cfg (suc n) = refl

-- how many records are asked for makes no difference, from one more than there are bytes on
pub enough : (cfg : Config) (n m : ℕ) (s : State) (bytes : List ℕ) → length bytes < n → length bytes < m
    → records_from cfg n s bytes ≡ records_from cfg m s bytes
unfolding records_from
enough cfg zero m s bytes h k = absurd (omega arith)
enough cfg (suc n) zero s bytes h k = absurd (omega arith)
enough cfg (suc n) (suc m) s bytes h k =
    by_next_record (next_record cfg s [] [] bytes) refl (λ p less. enough cfg n m p.1 p.2 (omega arith) (omega arith))
  where
    rest : (p : Read) → (length p.2 < length bytes → records_from cfg n p.1 p.2 ≡ records_from cfg m p.1 p.2)
        → Shrinks bytes p → records_from cfg n p.1 p.2 ≡ records_from cfg m p.1 p.2
    rest p more (inl less) = more less
    rest p more (inr done) = rw (done.0, done.1, records_from-done cfg n, records_from-done cfg m) refl

    by_next_record : (o : Option Read) → next_record cfg s [] [] bytes ≡ o
        → ((p : Read) → length p.2 < length bytes → records_from cfg n p.1 p.2 ≡ records_from cfg m p.1 p.2)
        → records_next (records_from cfg n) o ≡ records_next (records_from cfg m) o
    by_next_record None e more = refl
    by_next_record (Some p) e more =
        ap (λ (rs : List (List (List ℕ))). p.0 ∷ rs) (rest p (more p) (shrinks cfg s [] [] bytes p e))

-- the first record, and then those that it leaves
pub first-record : (s : State) (bytes : List ℕ) (p : Read) → next_record default_config s [] [] bytes ≡ Some p
    → records_left s bytes ≡ p.0 ∷ records_left p.1 p.2
unfolding records_from
first-record s bytes p e =
    rw (add-one (length bytes), e)
    (ap (λ (rs : List (List (List ℕ))). p.0 ∷ rs) (rest (shrinks default_config s [] [] bytes p e)))
  where
    rest : Shrinks bytes p → records_from default_config (length bytes) p.1 p.2 ≡ records_left p.1 p.2
    rest (inl less) = enough default_config (length bytes) (length p.2 + 1) p.1 p.2 (omega arith) (omega arith)
    rest (inr done) =
        rw (done.0, done.1, records_from-done default_config (length bytes), records_from-done default_config 1) refl

-- no record is left
pub no-record : (s : State) (bytes : List ℕ) → next_record default_config s [] [] bytes ≡ None
    → records_left s bytes ≡ []
unfolding records_from
no-record s bytes e = rw (add-one (length bytes), e) refl

same-rows : (f g : List (List ℕ)) (s t : State) (x y : List ℕ) → f ≡ g → s ≡ t → x ≡ y
    → g ∷ records_left s x ≡ f ∷ records_left t y
same-rows f g s t x y a b c = rw (a, b, c) refl

-- a read that found a record
pub row-more : (a b : Reader (Bor (List ℕ))) (fields : List (List ℕ)) → IsRecordReader a → took_first b ≡ true
    → ReadRecord (λ (s : Bor (List ℕ)). Some s.now) a b true fields
    → (rows_left a ≡ fields ∷ rows_left b) × IsRecordReader b
unfolding Reached rows_left
row-more a b fields stands first read =
    let m =
    rows-more (λ (s : Bor (List ℕ)). Some s.now) a b fields default_config (reader_state a) stands.bytes
    stands.bytes [] stands.config stands.known (refl, refl) read in
    let (z, at_z, reached) = m in
    let (p, found, is_fields, ends) = reached in
    let first_of = first-record (reader_state a) stands.bytes p found in (
      rw (stands.known, at_z) (first_of ∙ same-rows _ _ _ _ _ _ is_fields ends.0 ends.1),
      record {
        trim = read.3 ∙ stands.trim;
        ready = inl first;
        config = read.2 ∙ stands.config;
        bytes = z;
        known =
            at_z;
      },
    )

-- a read that found none
pub row-none : (a b : Reader (Bor (List ℕ))) (fields : List (List ℕ)) → IsRecordReader a
    → ReadRecord (λ (s : Bor (List ℕ)). Some s.now) a b false fields → rows_left a ≡ []
unfolding rows_left
row-none a b fields stands read = grind (arith, common_steps, no-record, rows-end)

-- what a read of a record says of the records that are left
pub row-found : (found : Bool) (a b : Reader (Bor (List ℕ))) (fields : List (List ℕ)) → IsRecordReader a
    → took_first b ≡ true
    → ReadRecord (λ (s : Bor (List ℕ)). Some s.now) a b found fields
    → MatchBool found ((rows_left a ≡ fields ∷ rows_left b) × IsRecordReader b) (rows_left a ≡ [])
row-found true a b fields stands first read = row-more a b fields stands first read
row-found false a b fields stands first read = row-none a b fields stands read

-- a reader at the start of a text, set up as for an order file
pub record Starts (r : Reader (Bor (List ℕ))) (bytes : List ℕ) : Type 0 where
  pub names : names_headers r ≡ true
  pub trim : reader_trim r ≡ how.None
  pub config : reader_config r ≡ default_config
  pub state : reader_state r ≡ st.StartRecord
  pub known : bytes_left r ≡ Some bytes

-- With a row of headers given to it, its next read is of the first record, and it has all records of the text left.
pub with-headers : (a b : Reader (Bor (List ℕ))) (bytes : List ℕ) → Starts a bytes → ChangesHeaders a b
    → IsSome (reader_headers b)
    → IsRecordReader b × (rows_left b ≡ records default_config bytes)
unfolding rows_left
with-headers a b bytes start same some = with-row (reader_headers b) b same some
  where
    with-row : (h : Option Headers) (b : Reader (Bor (List ℕ))) → b ≡ record a { headers = h } → IsSome h
        → IsRecordReader b × (rows_left b ≡ records default_config bytes)
    with-row h b same some = rw same (
      record {
        trim = start.trim;
        ready = inr (inl (start.names, some));
        config = start.config;
        bytes = bytes;
        known =
            start.known;
      },
      rw (start.state, start.known) refl,
    )
