-- What the getters read of the options.
use Rattle.std.proofs.Common.{◌≡◌, ◌∙◌, ◌⊎◌, ◌≤◌, ◌||◌, ap, ℕ, Bool, true, false, refl, sym, subst, arith, List, []}
use Rattle.std.proofs.Common.{Option, Some, None, Result, codes, inl, inr}
use Rattle.std.specs.Prelude.{IfSome, IsSomeAnd, option_map, pos, slice_get, unwrap_or}
use Rattle.std.specs.Str.{bytes_eq}
use Rattle.std.specs.Str.Parse.{ParsesUnsigned}
use Rattle.std.proofs.lemmas.Slice.Eq.{bytes_eq-Decides}
use Rattle.auction_terms.specs.declared.limits.TheConstants.{MAX_CALLS, MAX_MEMBERS, MAX_OPEN_ORDERS, MAX_TICK}
use Rattle.clap.specs.Faults.{fault_of, is_simple_and_free}
use Rattle.clap.specs.Matches.{ReadsOne, found_of, one_text}
use Rattle.clap.specs.Simple.{App, HasMatchesOf, app_of, is_simple, matches_of}
use Rattle.clap.specs.Walk.{Row, Text, one_of, rows_of}
use Rattle.clap.specs.declared.builder.command.Command.{Command}
use Rattle.clap.specs.declared.builder.value_parser.ValueParser.TheVariants as parser
use Rattle.clap.specs.declared.parser.matches.ArgMatches.{ArgMatches}
use Rattle.clap.specs.declared.parser.matches.Found.{Found}
use Rattle.clap.proofs.WalkLemmas.{one_text-rows}
use Rattle.settings.specs.Options.{callboard, flag, number}
use Rattle.settings.specs.OptionTexts.{HasSwitch, HasNumber, IsNumberIn, IsParsed, MayHaveNumber}
use Rattle.settings.specs.NumberTexts.{number_at, number_in}
use Rattle.settings.specs.Tasks.{is_given, is_yes}
use Rattle.settings.proofs.Numbers.{number_read, passed_text}
use Rattle.settings.proofs.Parsed.{IsOption, IsReadBy, option_text, option_there}
use Rattle.settings.proofs.Places.{has_own_place}

-- ---- the getters

-- `get_one` of an option that has a number
pub number_got : (E : Type 0) (G : List ℕ → Result ℕ E → Type 0) (f : Found) (id : Text) (r : Option ℕ)
    → HasNumber 0 4294967295 id (rows_of f)
    → ((t : Text) → one_text f id ≡ Some t → ReadsOne G t r)
    → ((t : Text) (x : Result ℕ E) → G t x → ParsesUnsigned 32 10 t x)
    → (n : ℕ) × (r ≡ Some n) × (number_at id (rows_of f) ≡ Some n)
number_got E G f id r has read parses = by_option (one_of id (rows_of f)) refl has
  where
    by_option : (o : Option Text) → one_of id (rows_of f) ≡ o → IsSomeAnd o (IsNumberIn 0 4294967295)
        → (n : ℕ) × (r ≡ Some n)
        × (number_at id (rows_of f) ≡ Some n)
    by_option None e is = absurd is
    by_option (Some t) e is = (
      number_in t,
      number_read E G 0 4294967295 t r (read t (one_text-rows f id ∙ e)) (parses t) (omega arith) is,
      ap (option_map number_in) e,
    )

-- and of one that may be left out
pub number_or_none : (E : Type 0) (G : List ℕ → Result ℕ E → Type 0) (f : Found) (id : Text) (r : Option ℕ)
    → MayHaveNumber 0 4294967295 id (rows_of f)
    → (one_text f id ≡ None → r ≡ None) → ((t : Text) → one_text f id ≡ Some t → ReadsOne G t r)
    → ((t : Text) (x : Result ℕ E) → G t x → ParsesUnsigned 32 10 t x)
    → number_at id (rows_of f) ≡ r
number_or_none E G f id r has none read parses = by_option (one_of id (rows_of f)) refl has
  where
    by_option : (o : Option Text) → one_of id (rows_of f) ≡ o → IfSome o (IsNumberIn 0 4294967295)
        → number_at id (rows_of f) ≡ r
    by_option None e is = ap (option_map number_in) e ∙ sym (none (one_text-rows f id ∙ e))
    by_option (Some t) e is =
        ap (option_map number_in) e
        ∙ sym (number_read E G 0 4294967295 t r (read t (one_text-rows f id ∙ e)) (parses t) (omega arith) is)

-- `get_flag`
pub flag_got : (f : Found) (id : Text) (r : Bool) → HasSwitch id (rows_of f) → (one_text f id ≡ None → r ≡ false)
    → (one_text f id ≡ Some (codes "true") → r ≡ true)
    → (one_text f id ≡ Some (codes "false") → r ≡ false) → is_given id (rows_of f) ≡ r
flag_got f id r has none yes_flag no_flag = by_option (one_of id (rows_of f)) refl has
  where
    by_option : (o : Option Text) → one_of id (rows_of f) ≡ o
        → IfSome o (λ text. (text ≡ codes "true") ⊎ (text ≡ codes "false")) → is_given id (rows_of f) ≡ r
    by_option None e is = ap is_yes e ∙ sym (none (one_text-rows f id ∙ e))
    by_option (Some t) e (inl is) =
        let text : one_of id (rows_of f) ≡ Some (codes "true") = e ∙ ap (λ (x : Text). Some x) is in
        ap is_yes text ∙ sym (yes_flag (one_text-rows f id ∙ text))
    by_option (Some t) e (inr is) =
        let text : one_of id (rows_of f) ≡ Some (codes "false") = e ∙ ap (λ (x : Text). Some x) is in
        ap is_yes text ∙ sym (no_flag (one_text-rows f id ∙ text))

-- ---- the options

passed_number : (least most : ℕ) (t : Text) → IsReadBy (parser.Signed (pos least) (pos most)) t
    → IsNumberIn least most t
passed_number least most t read = subst (IsNumberIn least most) (sym read.1) (passed_text least most read.0 read.2)

a_number : (m : ArgMatches) (k : ℕ) (name : Text) (least most : ℕ) (default : Text) → IsParsed m
    → slice_get callboard.top.rules k ≡ Some (number name least most (Some default))
    → has_own_place k (number name least most (Some default)) callboard.top.rules ≡ true
    → HasNumber least most name (rows_of (found_of m))
a_number m k name least most default parsed at alone =
    let option : IsOption k (number name least most (Some default)) (parser.Signed (pos least) (pos most)) =
    record { at = at; alone = alone; parser = refl; case = refl } in
    let got = option_there m k _ _ parsed option (record { set = refl; range = refl; default = omega arith }) in
    subst (λ (o : Option Text). IsSomeAnd o (IsNumberIn least most)) (sym got.1)
    (passed_number least most got.0 (option_text m k _ _ parsed option got.0 got.1))

maybe_number : (m : ArgMatches) (k : ℕ) (name : Text) (least most : ℕ) → IsParsed m
    → slice_get callboard.top.rules k ≡ Some (number name least most None)
    → has_own_place k (number name least most None) callboard.top.rules ≡ true
    → MayHaveNumber least most name (rows_of (found_of m))
maybe_number m k name least most parsed at alone = by_option (one_of name (rows_of (found_of m))) refl
  where
    by_option : (o : Option Text) → one_of name (rows_of (found_of m)) ≡ o → IfSome o (IsNumberIn least most)
    by_option None e = tt
    by_option (Some t) e =
        passed_number least most t (option_text m k (number name least most None) (parser.Signed (pos least) (pos most))
        parsed (record { at = at; alone = alone; parser = refl; case = refl }) t e)

true_or_false : (t : Text) → (bytes_eq t (codes "true") || bytes_eq t (codes "false")) ≡ true → (t ≡ codes "true")
    ⊎ (t ≡ codes "false")
true_or_false t h = by_test (bytes_eq t (codes "true")) refl
  where
    by_test : (b : Bool) → bytes_eq t (codes "true") ≡ b → (t ≡ codes "true") ⊎ (t ≡ codes "false")
    by_test true e = inl ((bytes_eq-Decides t (codes "true")).0 e)
    by_test false e =
        let other : bytes_eq t (codes "false") ≡ true = rw e at h in
        inr ((bytes_eq-Decides t (codes "false")).0 other)

a_flag : (m : ArgMatches) (k : ℕ) (name : Text) → IsParsed m → slice_get callboard.top.rules k ≡ Some (flag name)
    → has_own_place k (flag name) callboard.top.rules ≡ true → HasSwitch name (rows_of (found_of m))
a_flag m k name parsed at alone = by_option (one_of name (rows_of (found_of m))) refl
  where
    by_option : (o : Option Text) → one_of name (rows_of (found_of m)) ≡ o
        → IfSome o (λ text. (text ≡ codes "true") ⊎ (text ≡ codes "false"))
    by_option None e = tt
    by_option (Some t) e =
        let read = option_text m k (flag name) parser.Bool parsed (record {
          at = at;
          alone = alone;
          parser =
              refl;
          case = refl;
        }) t e in
        true_or_false t (subst (λ (w : Text). (bytes_eq w (codes "true") || bytes_eq w (codes "false")) ≡ true)
        (sym read.1) read.2)

pub record HasOptions (rows : List Row) : Type 0 where
  pub low : HasNumber 1 MAX_TICK (codes "low") rows
  pub high : HasNumber 1 MAX_TICK (codes "high") rows
  pub reference : HasNumber 1 MAX_TICK (codes "reference") rows
  pub max_open : HasNumber 1 MAX_OPEN_ORDERS (codes "open") rows
  pub max_calls : HasNumber 1 MAX_CALLS (codes "calls") rows
  pub range : MayHaveNumber 0 MAX_TICK (codes "range") rows
  pub members : HasNumber 1 MAX_MEMBERS (codes "members") rows
  pub reserve : MayHaveNumber 0 MAX_CALLS (codes "reserve") rows
  pub floor : HasSwitch (codes "floor") rows
  pub history : HasSwitch (codes "history") rows
  pub audit : HasSwitch (codes "audit") rows
  pub results : HasSwitch (codes "results") rows
  pub live : HasSwitch (codes "live") rows

pub has_options : (m : ArgMatches) → IsParsed m → HasOptions (rows_of (found_of m))
unfolding callboard
has_options m parsed = record {
  low = a_number m 0 (codes "low") 1 MAX_TICK (codes "1") parsed refl refl;
  high = a_number m 1 (codes "high") 1 MAX_TICK (codes "1000") parsed refl refl;
  reference = a_number m 2 (codes "reference") 1 MAX_TICK (codes "200") parsed refl refl;
  max_open = a_number m 3 (codes "open") 1 MAX_OPEN_ORDERS (codes "4096") parsed refl refl;
  max_calls = a_number m 4 (codes "calls") 1 MAX_CALLS (codes "65536") parsed refl refl;
  range = maybe_number m 5 (codes "range") 0 MAX_TICK parsed refl refl;
  members = a_number m 6 (codes "members") 1 MAX_MEMBERS (codes "4") parsed refl refl;
  reserve = maybe_number m 7 (codes "reserve") 0 MAX_CALLS parsed refl refl;
  floor = a_flag m 8 (codes "floor") parsed refl refl;
  history = a_flag m 9 (codes "history") parsed refl refl;
  audit = a_flag m 11 (codes "audit") parsed refl refl;
  results = a_flag m 12 (codes "results") parsed refl refl;
  live = a_flag m 13 (codes "live") parsed refl refl;
}

-- ---- their ranges

pub wider : (least most : ℕ) (name : Text) (rows : List Row) → most ≤ 4294967295 → HasNumber least most name rows
    → HasNumber 0 4294967295 name rows
wider least most name rows le has = by_option (one_of name rows) has
  where
    by_option : (o : Option Text) → IsSomeAnd o (IsNumberIn least most) → IsSomeAnd o (IsNumberIn 0 4294967295)
    by_option None is = is
    by_option (Some t) is = (is.0, omega arith, omega arith)

pub wider_or_none : (least most : ℕ) (name : Text) (rows : List Row) → most ≤ 4294967295
    → MayHaveNumber least most name rows → MayHaveNumber 0 4294967295 name rows
wider_or_none least most name rows le has = by_option (one_of name rows) has
  where
    by_option : (o : Option Text) → IfSome o (IsNumberIn least most) → IfSome o (IsNumberIn 0 4294967295)
    by_option None is = is
    by_option (Some t) is = (is.0, omega arith, omega arith)

pub between : (least most : ℕ) (name : Text) (rows : List Row) (n : ℕ) → HasNumber least most name rows
    → number_at name rows ≡ Some n → (least ≤ n) × (n ≤ most)
between least most name rows n has at = by_option (one_of name rows) has at
  where
    by_option : (o : Option Text) → IsSomeAnd o (IsNumberIn least most) → option_map number_in o ≡ Some n
        → (least ≤ n) × (n ≤ most)
    by_option None is e = absurd is
    by_option (Some t) is e =
        let same : number_in t ≡ n = ap (λ (o : Option ℕ). unwrap_or o n) e in
        subst (λ (x : ℕ). (least ≤ x) × (x ≤ most)) same (is.1, is.2)

pub at_most_if_some : (least most : ℕ) (name : Text) (rows : List Row) (r : Option ℕ)
    → MayHaveNumber least most name rows → number_at name rows ≡ r → IfSome r (λ n. n ≤ most)
at_most_if_some least most name rows r has at =
    subst (λ (o : Option ℕ). IfSome o (λ n. n ≤ most)) at (by_option (one_of name rows) has)
  where
    by_option : (o : Option Text) → IfSome o (IsNumberIn least most) → IfSome (option_map number_in o) (λ n. n ≤ most)
    by_option None is = tt
    by_option (Some t) is = is.2

-- ---- the command

pub free_command : (c : Command) → app_of c ≡ callboard → is_simple_and_free (app_of c) ≡ true
unfolding callboard
free_command c same = ap is_simple_and_free same

pub no_fault : (c : Command) (arguments : List Text) → app_of c ≡ callboard
    → (is_simple_and_free (app_of c) ≡ true → fault_of (app_of c) arguments ≡ []) → fault_of callboard arguments ≡ []
no_fault c arguments same kinds = ap (λ (a : App). fault_of a arguments) (sym same) ∙ kinds (free_command c same)

-- the rows of the matches are those that the arguments give
pub rows_are : (c : Command) (m : ArgMatches) (arguments : List Text) → app_of c ≡ callboard
    → HasMatchesOf (app_of c) arguments m → rows_of (found_of m) ≡ matches_of callboard arguments
unfolding callboard
rows_are c m arguments same has = (has (ap is_simple same)).0 ∙ ap (λ (a : App). matches_of a arguments) same
