-- Counts and shares, joined member by member.
use Rattle.std.proofs.Common.{◌≡◌, ℕ, zero, suc, ◌+◌, ◌<◌, ◌≤◌, ◌==◌, Bool, true, false, List, [], ◌∷◌, ◌++◌, All}
use Rattle.std.proofs.Common.{length, sum, count_by, Option, None, Some, IfNone, IfSome, get_or, set, slice_index, refl}
use Rattle.std.proofs.Common.{sym, ap, ◌∙◌, subst, arith, length-set, get_or-set_same, get_or-set_other}
use Rattle.std.specs.Prelude.{if◌then◌else◌}
use Rattle.std.proofs.lemmas.Bool.{eqb-true, eqb-false, eq-eqb}
use Rattle.std.proofs.lemmas.List.{get_or_default}
use Rattle.std.proofs.lemmas.List.Sums.{sum_by-cons, sum_by-set}
use Rattle.std.proofs.lemmas.List.Elements.{All-append, All-cons, All-nil, All-push, All-contains, Contains-append_left}
use Rattle.std.proofs.lemmas.Grind.{common_steps}
use Rattle.board_terms.specs.MemberView.{MemberView}
use Rattle.auction_terms.specs.declared.Call.{Call}
use Rattle.auction_terms.specs.declared.Config.{Config}
use Rattle.auction_terms.specs.Day.{IsLegal}
use Rattle.board_terms.specs.declared.closing.Closing.{Closing}
use Rattle.board_terms.specs.MemberView.{placed_calls}
use Rattle.board_terms.proofs.PrefixLaws.{prefix_whole, prefix_length}
use Rattle.board_terms.proofs.HistoryLaws.{placed_calls-prefix}
use Rattle.board_terms.specs.Closings.{HasEachNumberOnce, AreMemberCounts, HasSeenBeginning, IsAccount, IsKeptBack}
use Rattle.board_terms.specs.Closings.{HasMemberAhead, IsClosing, IsAhead, calls_with_number}

pub calls_with_number-push : (k : ℕ) (ms : List MemberView) (m : MemberView)
    → calls_with_number k (ms ++ m ∷ []) ≡ calls_with_number k ms + (if m.number == k then m.calls else 0)
calls_with_number-push k [] m = omega arith
calls_with_number-push k (x ∷ ms) m = omega (arith, calls_with_number-push k ms m)

-- a count in place i
calls_with_number-at : (n : ℕ) (ms : List MemberView) (m : MemberView) (counts : List ℕ) (k : ℕ) → k < length counts
    → slice_index counts k ≡ calls_with_number k ms → (b : Bool) → (m.number == k) ≡ b
    → slice_index (set counts m.number (slice_index counts m.number + m.calls)) k ≡ calls_with_number k (ms ++ m ∷ [])
calls_with_number-at n ms m counts k within was b is =
    grind (arith, common_steps, eqb-true, get_or-set_same, calls_with_number-push, eqb-false, get_or-set_other)

pub AreMemberCounts-push : (n : ℕ) (ms : List MemberView) (m : MemberView) (counts counts' : List ℕ)
    (amount amount' : ℕ)
    → AreMemberCounts n ms counts amount → m.number < n
    → counts' ≡ set counts m.number (slice_index counts m.number + m.calls) → amount' ≡ amount + m.calls
    → AreMemberCounts n (ms ++ m ∷ []) counts' amount'
AreMemberCounts-push n ms m counts counts' amount amount' h one_of is_counts is_amount =
    let next = slice_index counts m.number + m.calls in
    let within : m.number < length counts = omega (arith, h.wide) in
    record {
      wide = ap length is_counts ∙ length-set counts m.number next ∙ h.wide;
      whole =
          omega (arith, ap sum is_counts, sum_by-set (λ (x : ℕ). x) counts m.number next 0 within, h.whole, is_amount);
      each = λ k lt.
          let inside : k < length counts = omega (arith, h.wide) in
          ap (λ xs. slice_index xs k) is_counts ∙ calls_with_number-at n ms m counts k inside (h.each k lt)
          (m.number == k) refl;
      numbers = let Holds : MemberView → Type 0 = λ x. x.number < n in
          All-append Holds ms (m ∷ []) h.numbers (All-cons Holds m [] one_of (All-nil Holds));
    }

-- one member more, its count written in its place
pub AreMemberCounts-more : (n : ℕ) (ms : List MemberView) (m : MemberView) (counts : List ℕ)
    (at was calls amount amount' : ℕ)
    → AreMemberCounts n ms counts amount → at < n → at ≡ m.number → calls ≡ m.calls → was ≡ get_or counts at was
    → amount' ≡ amount + calls → AreMemberCounts n (ms ++ m ∷ []) (set counts at (was + calls)) amount'
AreMemberCounts-more n ms m counts at was calls amount amount' h below is_at is_calls is_was is_amount =
    let inside : at < length counts = omega (arith, h.wide, below) in
    let was_at : was ≡ slice_index counts m.number =
    is_was ∙ get_or_default counts at was 0 inside ∙ ap (λ (k : ℕ). slice_index counts k) is_at in
    let set_is : set counts at (was + calls) ≡ set counts m.number (slice_index counts m.number + m.calls) =
    λ j. set counts (is_at j) (was_at j + is_calls j) in
    AreMemberCounts-push n ms m counts (set counts at (was + calls)) amount amount' h
    (subst (λ (k : ℕ). k < n) is_at below) set_is (omega (arith, is_amount, is_calls))

-- one member more, which has the number or not
count_by-cons_same : (k : ℕ) (m : MemberView) (ms : List MemberView) → (m.number == k) ≡ true
    → count_by (λ (x : MemberView). x.number == k) (m ∷ ms) ≡ 1 + count_by (λ (x : MemberView). x.number == k) ms
count_by-cons_same k m ms is =
    sum_by-cons (λ (x : MemberView). if x.number == k then 1 else 0) m ms
    ∙ ap (λ (b : Bool). (if b then 1 else 0) + count_by (λ (x : MemberView). x.number == k) ms) is

count_by-cons_other : (k : ℕ) (m : MemberView) (ms : List MemberView) → (m.number == k) ≡ false
    → count_by (λ (x : MemberView). x.number == k) (m ∷ ms) ≡ count_by (λ (x : MemberView). x.number == k) ms
count_by-cons_other k m ms is =
    omega (
      arith,
      sum_by-cons (λ (x : MemberView). if x.number == k then 1 else 0) m ms
          ∙ ap (λ (b : Bool). (if b then 1 else 0) + count_by (λ (x : MemberView). x.number == k) ms) is,
    )

-- a number that no member has
calls_with_number-cons_none : (k : ℕ) (m : MemberView) (ms : List MemberView) (b : Bool) → (m.number == k) ≡ b
    → count_by (λ (x : MemberView). x.number == k) (m ∷ ms) ≡ 0
    → (count_by (λ (x : MemberView). x.number == k) ms ≡ 0 → calls_with_number k ms ≡ 0)
    → calls_with_number k (m ∷ ms) ≡ 0
calls_with_number-cons_none k m ms b is none rest = grind (arith, common_steps, count_by-cons_same, count_by-cons_other)

calls_with_number-none : (k : ℕ) (ms : List MemberView) → count_by (λ (m : MemberView). m.number == k) ms ≡ 0
    → calls_with_number k ms ≡ 0
calls_with_number-none k [] none = refl
calls_with_number-none k (m ∷ ms) none =
    calls_with_number-cons_none k m ms (m.number == k) refl none (calls_with_number-none k ms)

-- a member is counted
count_by-member : (ms : List MemberView) (j : ℕ) (d : MemberView) → j < length ms
    → 1 ≤ count_by (λ (x : MemberView). x.number == (get_or ms j d).number) ms
count_by-member [] j d lt = absurd (omega arith)
count_by-member (m ∷ ms) zero d lt = omega (arith, count_by-cons_same m.number m ms (eq-eqb m.number m.number refl))
count_by-member (m ∷ ms) (suc j) d lt =
    omega (
      arith,
      count_by-member ms j d (omega arith),
      sum_by-cons (λ (x : MemberView). if x.number == (get_or ms j d).number then 1 else 0) m ms,
    )

-- the number of one member alone: it brought its calls
calls_with_number-cons_one : (m : MemberView) (ms : List MemberView) (j : ℕ) (d : MemberView) → j < length ms
    → (b : Bool) → (m.number == (get_or ms j d).number) ≡ b
    → count_by (λ (x : MemberView). x.number == (get_or ms j d).number) (m ∷ ms) ≡ 1
    → (count_by (λ (x : MemberView). x.number == (get_or ms j d).number) ms ≡ 1
    → calls_with_number (get_or ms j d).number ms ≡ (get_or ms j d).calls)
    → calls_with_number (get_or ms j d).number (m ∷ ms) ≡ (get_or ms j d).calls
calls_with_number-cons_one m ms j d lt x is one rest =
    grind (arith, common_steps, count_by-cons_same, count_by-member, count_by-cons_other)

pub calls_with_number-one : (ms : List MemberView) (j : ℕ) (d : MemberView) → j < length ms
    → count_by (λ (x : MemberView). x.number == (get_or ms j d).number) ms ≡ 1
    → calls_with_number (get_or ms j d).number ms ≡ (get_or ms j d).calls
calls_with_number-one [] j d lt one = absurd (omega arith)
calls_with_number-one (m ∷ ms) zero d lt one =
    grind (arith, common_steps, eq-eqb, count_by-cons_same, calls_with_number-none)
calls_with_number-one (m ∷ ms) (suc j) d lt one =
    calls_with_number-cons_one m ms j d (omega arith) (m.number == (get_or ms j d).number) refl one
    (calls_with_number-one ms j d (omega arith))

-- each member's count is the one that it brought
pub each_of : (n : ℕ) (ms : List MemberView) (counts : List ℕ) (amount : ℕ) → HasEachNumberOnce n ms
    → AreMemberCounts n ms counts amount → All (λ (m : MemberView). slice_index counts m.number ≡ m.calls) ms
each_of n ms counts amount once h j d lt =
    let m = get_or ms j d in
    let one_of : m.number < n = h.numbers j d lt in
    h.each m.number one_of ∙ calls_with_number-one ms j d lt (once.1 m.number one_of)

-- where no number is above the one beside it and the sums are the same, the numbers are
sum_le : (xs ys : List ℕ) → length xs ≡ length ys → ((k : ℕ) → k < length xs → slice_index xs k ≤ slice_index ys k)
    → sum xs ≤ sum ys
sum_le [] [] l h = omega arith
sum_le [] (y ∷ ys) l h = absurd (omega arith)
sum_le (x ∷ xs) [] l h = absurd (omega arith)
sum_le (x ∷ xs) (y ∷ ys) l h =
    let first : x ≤ y = h 0 (omega arith) in
    let rest = sum_le xs ys (omega arith) (λ k lt. h (suc k) (omega arith)) in
    omega (arith, first, rest, sum_by-cons (λ (n : ℕ). n) x xs, sum_by-cons (λ (n : ℕ). n) y ys)

pub same_parts : (xs ys : List ℕ) → length xs ≡ length ys
    → ((k : ℕ) → k < length xs → slice_index xs k ≤ slice_index ys k) → sum xs ≡ sum ys → (k : ℕ) → k < length xs
    → slice_index xs k ≡ slice_index ys k
same_parts [] ys l h s k lt = absurd (omega arith)
same_parts (x ∷ xs) [] l h s k lt = absurd (omega arith)
same_parts (x ∷ xs) (y ∷ ys) l h s zero lt =
    let first : x ≤ y = h 0 (omega arith) in
    let rest = sum_le xs ys (omega arith) (λ k lt. h (suc k) (omega arith)) in
    omega (arith, first, rest, s, sum_by-cons (λ (n : ℕ). n) x xs, sum_by-cons (λ (n : ℕ). n) y ys)
same_parts (x ∷ xs) (y ∷ ys) l h s (suc k) lt =
    let first : x ≤ y = h 0 (omega arith) in
    let rest = sum_le xs ys (omega arith) (λ k lt. h (suc k) (omega arith)) in
    same_parts xs ys (omega arith) (λ k lt. h (suc k) (omega arith))
    (omega (arith, first, rest, s, sum_by-cons (λ (n : ℕ). n) x xs, sum_by-cons (λ (n : ℕ). n) y ys)) k
    (omega arith)

-- a member with this number
HasOne : ℕ → List MemberView → Type 0
HasOne k ms = (j : ℕ) × (j < length ms) × ((d : MemberView) → (get_or ms j d).number ≡ k)

HasOne-cons : (k : ℕ) (m : MemberView) (ms : List MemberView) (b : Bool) → (m.number == k) ≡ b
    → count_by (λ (x : MemberView). x.number == k) (m ∷ ms) ≡ 1
    → (count_by (λ (x : MemberView). x.number == k) ms ≡ 1 → HasOne k ms) → HasOne k (m ∷ ms)
unfolding HasOne
HasOne-cons k m ms true is one rest = (0, omega arith, λ d. eqb-true m.number k is)
HasOne-cons k m ms false is one rest = let r = rest (sym (count_by-cons_other k m ms is) ∙ one) in let lt =
    r.1 in (suc r.0, omega (arith, lt), r.2)

count_by-HasOne : (k : ℕ) (ms : List MemberView) → count_by (λ (x : MemberView). x.number == k) ms ≡ 1 → HasOne k ms
count_by-HasOne k [] one = absurd (omega arith)
count_by-HasOne k (m ∷ ms) one = HasOne-cons k m ms (m.number == k) refl one (count_by-HasOne k ms)

-- a count is at most what the story has of that number
at_most : (n : ℕ) (story : List Call) (ms : List MemberView) (counts counted : List ℕ) (amount : ℕ)
    → HasEachNumberOnce n ms → AreMemberCounts n ms counts amount → All (HasSeenBeginning n story) ms
    → ((k : ℕ) → k < n → slice_index counted k ≡ length (placed_calls story k))
    → (k : ℕ) → k < n → HasOne k ms → MemberView → slice_index counts k ≤ slice_index counted k
unfolding HasOne
at_most n story ms counts counted amount once h follow own_counts k within one d =
    let m = get_or ms one.0 d in
    let f = follow one.0 d one.1 in
    let is : m.number ≡ k = one.2 d in
    let brings : slice_index counts m.number ≡ m.calls = each_of n ms counts amount once h one.0 d one.1 in
    let most : length m.mine ≤ length (placed_calls story m.number) =
    prefix_length m.mine (placed_calls story m.number) (placed_calls-prefix n story m f) in
    let has : slice_index counted m.number ≡ length (placed_calls story m.number) = own_counts m.number f.number in
    let le : slice_index counts m.number ≤ slice_index counted m.number = omega (arith, brings, most, has, f.count) in
    subst (λ (i : ℕ). slice_index counts i ≤ slice_index counted i) is le

-- a member that follows the story, and has counted as many calls as it has of it, is an account of it
pub account_by_count : (n : ℕ) (story : List Call) (m : MemberView) → HasSeenBeginning n story m
    → m.calls ≡ length (placed_calls story m.number) → IsAccount story m
account_by_count n story m f counted = record {
  begins = f.begins;
  own_calls =
      sym (prefix_whole m.mine (placed_calls story m.number) (placed_calls-prefix n story m f)
      (omega (arith, f.count, counted)));
  count = f.count;
}

-- an account counts as many calls as the story has of it
pub account-counts : (story : List Call) (m : MemberView) → IsAccount story m
    → m.calls ≡ length (placed_calls story m.number)
account-counts story m is = is.count ∙ sym (ap length is.own_calls)

pub accounts : (n : ℕ) (story : List Call) (ms : List MemberView) (counts counted : List ℕ) (amount : ℕ)
    → HasEachNumberOnce n ms → AreMemberCounts n ms counts amount → All (HasSeenBeginning n story) ms
    → length counted ≡ n → ((k : ℕ) → k < n → slice_index counted k ≡ length (placed_calls story k))
    → sum counts ≡ sum counted → All (IsAccount story) ms
accounts n story ms counts counted amount once h follow wide own_counts sums j d lt =
    let m = get_or ms j d in
    let f = follow j d lt in
    let each = each_of n ms counts amount once h in
    let below : (k : ℕ) → k < length counts → slice_index counts k ≤ slice_index counted k =
    λ k inside. let within : k < n = omega (arith, h.wide) in
    at_most n story ms counts counted amount once h follow own_counts k within (count_by-HasOne k ms (once.1 k within))
    d in
    let same = same_parts counts counted (h.wide ∙ sym wide) below sums m.number (omega (arith, h.wide, f.number)) in
    let all : length (placed_calls story m.number) ≡ m.calls =
    sym (own_counts m.number f.number) ∙ sym same ∙ each j d lt in
    account_by_count n story m f (sym all)

-- a member more, which isn't kept back
pub keeps : (ahead : Option ℕ) (end : ℕ) (ms : List MemberView) (m : MemberView) (kept : Option MemberView)
    → IsKeptBack ahead end ms kept → (kept ≡ None → ahead ≡ Some m.number → length m.seen ≤ end)
    → IsKeptBack ahead end (ms ++ m ∷ []) kept
keeps ahead end ms m kept h f = grind (arith, common_steps, All-push, Contains-append_left)

-- no member was kept back, so none that is ahead was asked for
pub none_ahead : (ahead : Option ℕ) (k end : ℕ) (ms : List MemberView) → IsKeptBack ahead end ms None → ahead ≡ Some k
    → HasMemberAhead k end ms → ⊥
none_ahead ahead k end ms h is has = grind (arith, common_steps, All-contains)

-- the same members, and how many there are
pub complete : (n n' : ℕ) (ms ms' : List MemberView) → n' ≡ n → ms' ≡ ms → HasEachNumberOnce n' ms'
    → HasEachNumberOnce n ms
complete n n' ms ms' many same h = subst (HasEachNumberOnce n) same (subst (λ (k : ℕ). HasEachNumberOnce k ms') many h)

pub closes : (c : Config) (n : ℕ) (ms : List MemberView) (closing : Closing) (amount total : ℕ) → HasEachNumberOnce n ms
    → AreMemberCounts n ms closing.calls.items amount → IsLegal c closing.history.items
    → total ≡ length closing.history.items → amount ≡ total → IsClosing c n ms closing
closes c n ms closing amount total once h legal total_is amount_is = search (arith, each_of)

-- where no member was kept back, all follow the story
pub all_follow : (n end long : ℕ) (story : List Call) (ms ms' : List MemberView) (ahead : Option ℕ) → end ≡ long
    → ms' ≡ ms → IsKeptBack ahead end ms None → IfNone ahead (All (HasSeenBeginning n story) ms')
    → IfSome ahead (λ k. HasMemberAhead k long ms') → All (HasSeenBeginning n story) ms
all_follow n end long story ms ms' None is same h none some = subst (All (HasSeenBeginning n story)) same none
all_follow n end long story ms ms' (Some k) is same h none some =
    absurd
    (none_ahead (Some k) k end ms h refl
    (subst (λ (e : ℕ). HasMemberAhead k e ms) (sym is) (subst (HasMemberAhead k long) same some)))

-- the member that was kept back is the first that is ahead
pub is_ahead : (c : Config) (n end long : ℕ) (ms ms' : List MemberView) (ahead : Option ℕ)
    (m m' : MemberView) (seen : ℕ) (closing : Closing)
    → IsClosing c n ms closing → end ≡ long → ms' ≡ ms → IsKeptBack ahead end ms (Some m) → m' ≡ m
    → seen ≡ length m'.seen → long ≡ length closing.history.items
    → IfSome ahead (λ k. All (λ (x : MemberView). x.number < k → length x.seen ≤ long) ms')
    → IsAhead c n ms m' seen closing
is_ahead c n end long ms ms' ahead m m' seen closing closed is same kept same_m seen_is history first =
    grind (arith, common_steps, closes)
