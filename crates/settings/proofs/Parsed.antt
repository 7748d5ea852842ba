-- What a parse of the command holds of each option.
use Rattle.std.proofs.Common.{◌≡◌, ◌∙◌, ◌<◌, ◌≤◌, ap, ℕ, Bool, true, false, zero, suc, refl, sym, subst, arith, List}
use Rattle.std.proofs.Common.{[], ◌∷◌, length, map, ap₂, Option, Some, None, inl, inr}
use Rattle.std.specs.Borrow.{Bor}
use Rattle.std.specs.List.{All, list_all, slice_index_or}
use Rattle.std.specs.Prelude.{find, option_map, slice_get, unwrap_or}
use Rattle.std.specs.Str.{bytes_eq}
use Rattle.std.proofs.lemmas.Slice.Eq.{bytes_eq-Decides}
use Rattle.std.proofs.lemmas.List.{length-map}
use Rattle.clap.specs.Built.{IsParsedFrom, NamesNoGroup, SameRules}
use Rattle.clap.specs.Simple.{App, IsSimple, IsSimpleArg, app_of, is_ready, is_ready_leaf}
use Rattle.clap.specs.Texts.{items_of}
use Rattle.clap.specs.Walk.{Rule, one_of, rows_of, rule_of, texts}
use Rattle.clap.specs.Facts.{EntryPasses, HasId, HasIn, Entry, ValuesPass, WantsDefault, args_of, groups_of}
use Rattle.clap.specs.Facts.{least_values, parser_of, parser_of_value}
use Rattle.clap.specs.Matches.{found_of, matched_of, one_text}
use Rattle.clap.specs.Values.{Accepts, read_as, reading_of}
use Rattle.clap.specs.declared.builder.action.ArgAction.TheVariants.{Count, Set}
use Rattle.clap.specs.declared.builder.arg.Arg.{Arg}
use Rattle.clap.specs.declared.builder.command.Command.{Command}
use Rattle.clap.specs.declared.builder.value_parser.Reading.{Reading}
use Rattle.clap.specs.declared.builder.value_parser.ValueParser.{ValueParser}
use Rattle.clap.specs.declared.parser.matches.Found.{Found}
use Rattle.clap.specs.declared.parser.matches.MatchedArg.{MatchedArg}
use Rattle.clap.specs.declared.parser.matches.ArgMatches.{ArgMatches}
use Rattle.clap.proofs.CallerLemmas.{default_present, entry_by_id, same_rules_by_id}
use Rattle.clap.proofs.SimpleLemmas.{ready_simple, simple_groups}
use Rattle.clap.proofs.WalkLemmas.{one_text-rows}
use Rattle.settings.specs.Options.{callboard}
use Rattle.settings.specs.OptionTexts.{IsParsed}
use Rattle.settings.proofs.Places.{alone, named, not_auto, only, only_at, place, has_own_place}

-- each argument of the command with this id keeps the rules of `a`
abbrev KeepsArg : Command → List ℕ → Arg → Type 0
KeepsArg c id a = (j : ℕ) (y : Arg) → j < length (args_of c) → slice_index_or (args_of c) j y ≡ y
    → bytes_eq y.id.now id ≡ true → SameRules a y

-- the entry is read by the parser, and its values pass it
record PassesParser (q : ValueParser) (x : MatchedArg) : Type 0 where
  pub reading : x.reading ≡ reading_of q
  pub values : All (λ v. Accepts false q v.now) x.vals.items

parser_kept : (a y : Arg) (q : ValueParser) → SameRules a y → a.value_parser ≡ Some q → parser_of y ≡ q
parser_kept a y q s parser = ap parser_of_value (s.parser q parser)

passes : (a y : Arg) (q : ValueParser) (t : List ℕ) → SameRules a y → a.value_parser ≡ Some q → a.ignore_case ≡ false
    → Accepts y.ignore_case (parser_of y) t → Accepts false q t
passes a y q t s parser case read =
    let by_q = subst (λ (w : ValueParser). Accepts y.ignore_case w t) (parser_kept a y q s parser) read in
    subst (λ (b : Bool). Accepts b q t) (s.ignore_case ∙ case) by_q

no_group : (c : Command) (id : List ℕ) (e : Entry) → groups_of c ≡ [] → (id ≡ [] → ⊥) → e.0.now ≡ id → EntryPasses c e
    → e.1.is_group ≡ true → ⊥
no_group c id e none named key pass g = elim (pass.3 g) [
  | inl empty ↦ named (sym key ∙ empty)
  | inr lots ↦
      let bad : 0 < 0 = rw none at lots in
      absurd (omega arith)
]

held_reading : (c : Command) (id : List ℕ) (a : Arg) (q : ValueParser) (e : Entry) → (e.1.is_group ≡ true → ⊥)
    → KeepsArg c id a → a.value_parser ≡ Some q
    → e.0.now ≡ id → EntryPasses c e → e.1.reading ≡ reading_of q
held_reading c id a q e plain keeps parser key pass = elim pass.4 [
  | inl g ↦ absurd (plain g)
  | inr any ↦
      sym any.4.1 ∙ ap reading_of (parser_kept a any.1 q (keeps any.0 any.1 any.2 any.3 (rw key at any.4.0)) parser)
]

held_values : (c : Command) (id : List ℕ) (a : Arg) (q : ValueParser) (e : Entry) → (e.1.is_group ≡ true → ⊥)
    → KeepsArg c id a → a.value_parser ≡ Some q → a.ignore_case ≡ false
    → e.0.now ≡ id → EntryPasses c e → All (λ v. Accepts false q v.now) e.1.vals.items
held_values c id a q e plain keeps parser case key pass = elim pass.0 [
  | inl g ↦ absurd (plain g)
  | inr vals ↦ λ k d lt.
      let any = vals k d lt in
      passes a any.1 q _ (keeps any.0 any.1 any.2 any.3 (rw key at any.4.0)) parser case any.4.1
]

-- an option that takes a value has one
filled_entry : (c : Command) (id : List ℕ) (a : Arg) (e : Entry) → (e.1.is_group ≡ true → ⊥) → KeepsArg c id a
    → a.action ≡ Some Set → a.val_delim ≡ None → 1 ≤ least_values a
    → e.0.now ≡ id → EntryPasses c e → 0 < length e.1.vals.items
filled_entry c id a e plain keeps set delim least key pass = elim pass.1 [
  | inl h ↦ absurd (plain h.0)
  | inr (inl v) ↦ v
  | inr (inr (inl h)) ↦
      let any = h.1 in
      let s = keeps any.0 any.1 any.2 any.3 (rw key at any.4.0) in
      let is_set : any.1.action ≡ Some Set = s.action Set set in
      let bad : Set ≡ Count = rw is_set at any.4.1 in
      cc
  | inr (inr (inr any)) ↦
      let s = keeps any.0 any.1 any.2 any.3 (rw key at any.4.0) in
      elim any.4.1 [
        | inl none ↦
            let one = s.least set least in
            absurd (omega arith)
        | inr has ↦
            let bad : false ≡ true = rw (s.val_delim, delim) at has in
            cc
      ]
]

-- ---- what the entry of one id gives

-- the argument `a` of the built command c, which `q` parses
record IsKnownArg (c : Command) (id : List ℕ) (a : Arg) (q : ValueParser) : Type 0 where
  pub groups : groups_of c ≡ []
  pub named : id ≡ [] → ⊥
  pub keeps : KeepsArg c id a
  pub parser : a.value_parser ≡ Some q
  pub case : a.ignore_case ≡ false

-- and which takes a value
record TakesOne (a : Arg) : Type 0 where
  pub set : a.action ≡ Some Set
  pub delimiter : a.val_delim ≡ None
  pub least : 1 ≤ least_values a

matched-holds : (c : Command) (f : Found) (id : List ℕ) (a : Arg) (q : ValueParser) (x : MatchedArg)
    → IsKnownArg c id a q
    → ValuesPass c f → matched_of f id ≡ Some x → PassesParser q x
matched-holds c f id a q x known values found =
    let got = entry_by_id (EntryPasses c) f.entries.items id x values found in
    let key : got.0.0.now ≡ id = (bytes_eq-Decides got.0.0.now id).0 got.2 in
    let plain : got.0.1.is_group ≡ true → ⊥ = no_group c id got.0 known.groups known.named key got.3 in
    subst (PassesParser q) got.1 (record {
      reading = held_reading c id a q got.0 plain known.keeps known.parser key got.3;
      values = held_values c id a q got.0 plain known.keeps known.parser known.case key got.3;
    })

matched-is_filled : (c : Command) (f : Found) (id : List ℕ) (a : Arg) (q : ValueParser) (x : MatchedArg)
    → IsKnownArg c id a q → TakesOne a → ValuesPass c f → matched_of f id ≡ Some x
    → 0 < length x.vals.items
matched-is_filled c f id a q x known one values found =
    let got = entry_by_id (EntryPasses c) f.entries.items id x values found in
    let key : got.0.0.now ≡ id = (bytes_eq-Decides got.0.0.now id).0 got.2 in
    let plain : got.0.1.is_group ≡ true → ⊥ = no_group c id got.0 known.groups known.named key got.3 in
    subst (λ (y : MatchedArg). 0 < length y.vals.items) got.1
    (filled_entry c id a got.0 plain known.keeps one.set one.delimiter one.least key got.3)

-- the text was read from a value that passed the parser
abbrev pub IsReadBy : ValueParser → List ℕ → Type 0
IsReadBy q t = (v : List ℕ) × (t ≡ read_as (reading_of q) v) × Accepts false q v

first_text : (q : ValueParser) (how : Reading) (vs : List (Bor (List ℕ))) (t : List ℕ) → how ≡ reading_of q
    → All (λ v. Accepts false q v.now) vs
    → option_map (λ s. read_as how s.now) (slice_get vs 0) ≡ Some t → IsReadBy q t
first_text q how [] t is all h = cc
first_text q how (v ∷ vs) t is all h =
    let same : read_as how v.now ≡ t = ap (λ (o : Option (List ℕ)). unwrap_or o t) h in
    (v.now, sym same ∙ ap (λ (w : Reading). read_as w v.now) is, all 0 v (omega arith))

text_read : (c : Command) (f : Found) (id : List ℕ) (a : Arg) (q : ValueParser) (t : List ℕ) → IsKnownArg c id a q
    → ValuesPass c f → one_text f id ≡ Some t → IsReadBy q t
text_read c f id a q t known values h = by_option (matched_of f id) refl
  where
    by_option : (o : Option MatchedArg) → matched_of f id ≡ o → IsReadBy q t
    by_option None e =
        let bad : None ≡ Some t = rw e at h in
        cc
    by_option (Some x) e =
        let holds = matched-holds c f id a q x known values e in
        first_text q x.reading x.vals.items t holds.reading holds.values (rw e at h)

found_at : (xs : List Entry) (id : List ℕ) (i : ℕ) (d : Entry) → i < length xs
    → bytes_eq (slice_index_or xs i d).0.now id ≡ true
    → (x : MatchedArg) × (option_map (λ e. e.1) (find (λ e. bytes_eq e.0.now id) xs) ≡ Some x)
found_at [] id i d lt h = absurd (omega arith)
found_at (y ∷ ys) id zero d lt h = (y.1, rw h refl)
found_at (y ∷ ys) id (suc i) d lt h = by_test (bytes_eq y.0.now id) refl (found_at ys id i d (omega arith) h)
  where
    by_test : (b : Bool) → bytes_eq y.0.now id ≡ b
        → (x : MatchedArg) × (option_map (λ e. e.1) (find (λ e. bytes_eq e.0.now id) ys) ≡ Some x)
        → (x : MatchedArg) × (option_map (λ e. e.1) (find (λ e. bytes_eq e.0.now id) (y ∷ ys)) ≡ Some x)
    by_test true b rest = (y.1, rw b refl)
    by_test false b rest = (rest.0, rw b rest.1)

found_in : (xs : List Entry) (id : List ℕ) → HasIn xs id
    → (x : MatchedArg) × (option_map (λ e. e.1) (find (λ e. bytes_eq e.0.now id) xs) ≡ Some x)
found_in [] id h = absurd (omega (arith, h.1))
found_in (y ∷ ys) id h = found_at (y ∷ ys) id h.0 y h.1 (h.2 y)

some_text : (how : Reading) (vs : List (Bor (List ℕ))) → 0 < length vs
    → (t : List ℕ) × (option_map (λ s. read_as how s.now) (slice_get vs 0) ≡ Some t)
some_text how [] lt = absurd (omega arith)
some_text how (v ∷ vs) lt = (read_as how v.now, refl)

text_there : (c : Command) (f : Found) (id : List ℕ) (a : Arg) (q : ValueParser) → IsKnownArg c id a q → TakesOne a
    → ValuesPass c f → HasId f id
    → (t : List ℕ) × (one_text f id ≡ Some t)
text_there c f id a q known one values has =
    let x = found_in f.entries.items id has in
    let text = some_text x.0.reading x.0.vals.items (matched-is_filled c f id a q x.0 known one values x.1) in
    (text.0, rw x.1 text.1)

-- ---- the options of the command

-- the option r is at k, and q parses it
pub record IsOption (k : ℕ) (r : Rule) (q : ValueParser) : Type 0 where
  pub at : slice_get callboard.top.rules k ≡ Some r
  pub alone : has_own_place k r callboard.top.rules ≡ true
  pub parser : r.parser ≡ Some q
  pub case : r.ignore_case ≡ false

-- and it always has a value
pub record HasDefault (r : Rule) : Type 0 where
  pub set : r.action ≡ Some Set
  pub range : r.range ≡ None
  pub default : 0 < length r.defaults

is_simple_command : (c : Command) → app_of c ≡ callboard → IsSimple c
unfolding callboard
is_simple_command c same =
    ready_simple c (ap (λ (a : App). is_ready a.top) same) (ap (λ (a : App). list_all is_ready_leaf a.subs) same)

without_groups : (c : Command) → app_of c ≡ callboard → NamesNoGroup c
unfolding callboard
without_groups c same = simple_groups c (ap (λ (a : App). list_all (λ r. r.is_simple) a.top.rules) same)

-- the argument of the option
record Argument (c : Command) (m : ArgMatches) (p : IsParsedFrom c m) (r : Rule) (q : ValueParser) : Type 0 where
  pub a : Arg
  pub is : rule_of a ≡ r
  pub known : IsKnownArg p.built a.id.now a q
  pub simple : IsSimpleArg a
  pub default : WantsDefault a → HasId (found_of m) a.id.now

argument : (c : Command) (m : ArgMatches) (p : IsParsedFrom c m) (k : ℕ) (r : Rule) (q : ValueParser)
    → app_of c ≡ callboard → IsOption k r q → Argument c m p r q
argument c m p k r q same option =
    let rules : map rule_of (args_of c) ≡ callboard.top.rules = ap (λ (a : App). a.top.rules) same in
    let got = place (args_of c) k r (ap (λ (rs : List Rule). slice_get rs k) rules ∙ option.at) in
    let d = got.0 in
    let is = got.2 in
    let id : (slice_index_or (args_of c) k d).id.now ≡ r.id = ap (λ (x : Rule). x.id) is in
    let alone_at : only_at k (slice_index_or (args_of c) k d).id.now (map rule_of (args_of c)) ≡ true =
    ap₂ (only_at k) id rules ∙ alone k r callboard.top.rules option.alone in
    let simple = is_simple_command c same in
    record {
      a = slice_index_or (args_of c) k d;
      is = is;
      known = record {
        groups = (p.from.same_groups (without_groups c same)).1 ∙ simple.groups;
        named = λ none. named k r callboard.top.rules option.alone (sym id ∙ none);
        keeps = same_rules_by_id c m p k d got.1 (only (args_of c) k (slice_index_or (args_of c) k d).id.now alone_at)
            (not_auto k (slice_index_or (args_of c) k d) r callboard.top.rules is option.alone);
        parser = ap (λ (x : Rule). x.parser) is ∙ option.parser;
        case = ap (λ (x : Rule). x.ignore_case) is ∙ option.case;
      };
      simple = simple.args k d got.1;
      default = default_present c m p simple.globals k d got.1;
    }

values_pass : (c : Command) (m : ArgMatches) (p : IsParsedFrom c m) → app_of c ≡ callboard
    → ValuesPass p.built (found_of m)
values_pass c m p same = (p.parsed (p.from.globals ∙ (is_simple_command c same).globals)).values

-- the text that an option has passed its parser
pub option_text : (m : ArgMatches) (k : ℕ) (r : Rule) (q : ValueParser) → IsParsed m → IsOption k r q → (t : List ℕ)
    → one_of r.id (rows_of (found_of m)) ≡ Some t → IsReadBy q t
option_text m k r q parsed option t h =
    let p = parsed.2 in
    let x = argument parsed.0 m p k r q parsed.1 option in
    let id : x.a.id.now ≡ r.id = ap (λ (y : Rule). y.id) x.is in
    text_read p.built (found_of m) x.a.id.now x.a q t x.known (values_pass parsed.0 m p parsed.1)
    (one_text-rows (found_of m) x.a.id.now ∙ ap (λ (w : List ℕ). one_of w (rows_of (found_of m))) id ∙ h)

-- an option with a default has a text
pub option_there : (m : ArgMatches) (k : ℕ) (r : Rule) (q : ValueParser) → IsParsed m → IsOption k r q → HasDefault r
    → (t : List ℕ) × (one_of r.id (rows_of (found_of m)) ≡ Some t)
option_there m k r q parsed option has =
    let p = parsed.2 in
    let x = argument parsed.0 m p k r q parsed.1 option in
    let id : x.a.id.now ≡ r.id = ap (λ (y : Rule). y.id) x.is in
    let range : x.a.num_vals ≡ None = ap (λ (y : Rule). y.range) x.is ∙ has.range in
    let one : TakesOne x.a = record {
      set = ap (λ (y : Rule). y.action) x.is ∙ has.set;
      delimiter = x.simple.delimiter;
      least = rw (range, least_values) (omega arith);
    } in
    let texts_are : length (texts (items_of x.a.default_vals)) ≡ length r.defaults =
    ap (λ (y : Rule). length y.defaults) x.is in
    let some_default : 0 < length (items_of x.a.default_vals) =
    simp length-map at (subst (λ (n : ℕ). 0 < n) (sym texts_are) has.default) in
    let got =
    text_there p.built (found_of m) x.a.id.now x.a q x.known one (values_pass parsed.0 m p parsed.1)
    (x.default (x.simple.default_ifs, some_default)) in (
      got.0,
      ap (λ (w : List ℕ). one_of w (rows_of (found_of m))) (sym id) ∙ sym (one_text-rows (found_of m) x.a.id.now)
          ∙ got.1,
    )
