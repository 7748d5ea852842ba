-- The calls of each member, among all.
use Rattle.std.proofs.Common.{◌≡◌, ◌==◌, ℕ, zero, suc, ◌+◌, ◌<◌, ◌≤◌, nat_le, Bool, true, false, List, [], ◌∷◌, ◌++◌}
use Rattle.std.proofs.Common.{All, filter, get_or, length, map, sum, refl, ap, sym, subst, ◌∙◌, add-one, arith}
use Rattle.std.specs.Prelude.{if◌then◌else◌}
use Rattle.std.specs.List.{range_with_len}
use Rattle.std.proofs.lemmas.Bool.Decides.{nat_tests}
use Rattle.std.proofs.lemmas.List.{length-map, map-append}
use Rattle.std.proofs.lemmas.List.Elements.{All-append, All-cons, All-head, All-map, All-nil, All-tail}
use Rattle.std.proofs.lemmas.List.FromFn.{get_or-range_with_len, length-range_with_len, sum_by-map-range_with_len_more}
use Rattle.order_file.specs.File.{IsBelow}
use Rattle.auction_terms.specs.declared.Call.{Call}
use Rattle.auction_terms.specs.declared.Command.{Command}
use Rattle.auction_terms.specs.declared.limits.TheConstants.{MAX_CALLS}
use Rattle.board_terms.specs.BoardOpening.{newcomers}
use Rattle.board_terms.specs.MemberView.{PlacedCall, MemberView, placed_calls_from, placed_call}
use Rattle.board_terms.specs.declared.calls.Receipt.{Receipt}
use Rattle.member_board.specs.declared.script.Script.{Script}
use Rattle.member_board.specs.PlaysScript.{FitsMembers, HaveSameNumbers, recorded_calls}
use Rattle.program_runs.specs.BoardRun.{IsSplit, commands_of, calls_of_members}

-- ---- the calls of numbers from some number on

abbrev pub calls_of_from : ℕ → List Call → List Call
calls_of_from n calls = filter (λ (call : Call). nat_le n call.member) calls

abbrev calls_of_one : ℕ → List Call → List Call
calls_of_one n calls = filter (λ (call : Call). call.member == n) calls

-- a call is of the number, or of one below or above it
from_by : (x : Call) (n : ℕ) (a b c : List Call) (p q r : Bool) → nat_le n x.member ≡ p → (x.member == n) ≡ q
    → nat_le (n + 1) x.member ≡ r → length a ≡ length b + length c
    → length (if p then x ∷ a else a) ≡ length (if q then x ∷ b else b) + length (if r then x ∷ c else c)
from_by x n a b c true true true is_p is_q is_r e = absurd (grind (arith, nat_tests))
from_by x n a b c true true false is_p is_q is_r e = omega arith
from_by x n a b c true false true is_p is_q is_r e = omega arith
from_by x n a b c true false false is_p is_q is_r e = absurd (grind (arith, nat_tests))
from_by x n a b c false true true is_p is_q is_r e = absurd (grind (arith, nat_tests))
from_by x n a b c false true false is_p is_q is_r e = absurd (grind (arith, nat_tests))
from_by x n a b c false false true is_p is_q is_r e = absurd (grind (arith, nat_tests))
from_by x n a b c false false false is_p is_q is_r e = e

from_next : (n : ℕ) (xs : List Call)
    → length (calls_of_from n xs) ≡ length (calls_of_one n xs) + length (calls_of_from (n + 1) xs)
from_next n [] = refl
from_next n (x ∷ xs) =
    from_by x n (calls_of_from n xs) (calls_of_one n xs) (calls_of_from (n + 1) xs) (nat_le n x.member) (x.member == n)
    (nat_le (n + 1) x.member) refl refl refl (from_next n xs)

all_by : (x : Call) (a xs : List Call) (b : Bool) → nat_le 0 x.member ≡ b → length a ≡ length xs
    → length (if b then x ∷ a else a) ≡ length (x ∷ xs)
all_by x a xs true is e = omega arith
all_by x a xs false is e = absurd (grind (arith, nat_tests))

from_none : (xs : List Call) → length (calls_of_from 0 xs) ≡ length xs
from_none [] = refl
from_none (x ∷ xs) = all_by x (calls_of_from 0 xs) xs (nat_le 0 x.member) refl (from_none xs)

-- all calls are of a number below `n`, or of one from there on
pub sum_counts : (n : ℕ) (xs : List Call) → sum (calls_of_members n xs) + length (calls_of_from n xs) ≡ length xs
sum_counts zero xs = omega (arith, from_none xs)
sum_counts (suc n) xs =
    let count : ℕ → ℕ = λ member. length (commands_of member xs) in
    let more : sum (calls_of_members (n + 1) xs) ≡ sum (calls_of_members n xs) + count n =
    sum_by-map-range_with_len_more (λ (y : ℕ). y) count 0 n n (omega arith) in
    let these : count n ≡ length (calls_of_one n xs) =
    length-map {B = Command} (calls_of_one n xs) (λ (call : Call). call.command) in
    ap (λ k. sum (calls_of_members k xs) + length (calls_of_from k xs)) (sym (add-one n))
    ∙ omega (arith, more, these, from_next n xs, sum_counts n xs)

-- no call is of a number from there on
none_by : (x : Call) (xs : List Call) (n : ℕ) (b : Bool) → nat_le n x.member ≡ b → x.member < n
    → length (calls_of_from n xs) ≡ 0 → length (if b then x ∷ calls_of_from n xs else calls_of_from n xs) ≡ 0
none_by x xs n true is lt e = absurd (grind (arith, nat_tests))
none_by x xs n false is lt e = e

pub none_from : (n : ℕ) (xs : List Call) → All (IsBelow n) xs → length (calls_of_from n xs) ≡ 0
none_from n [] h = refl
none_from n (x ∷ xs) h =
    none_by x xs n (nat_le n x.member) refl (All-head (IsBelow n) x xs h) (none_from n xs (All-tail (IsBelow n) x xs h))

beyond_by : (x : Call) (xs : List Call) (n k : ℕ) (p q : Bool) → nat_le n x.member ≡ p → (x.member == k) ≡ q → n ≤ k
    → length (if p then x ∷ calls_of_from n xs else calls_of_from n xs) ≡ 0
    → (length (calls_of_from n xs) ≡ 0 → calls_of_one k xs ≡ [])
    → (if q then x ∷ calls_of_one k xs else calls_of_one k xs) ≡ []
beyond_by x xs n k true q is_p is_q le e rest = absurd (omega arith)
beyond_by x xs n k false true is_p is_q le e rest = absurd (grind (arith, nat_tests))
beyond_by x xs n k false false is_p is_q le e rest = rest e

with_beyond : (n k : ℕ) (xs : List Call) → n ≤ k → length (calls_of_from n xs) ≡ 0 → calls_of_one k xs ≡ []
with_beyond n k [] le e = refl
with_beyond n k (x ∷ xs) le e =
    beyond_by x xs n k (nat_le n x.member) (x.member == k) refl refl le e (with_beyond n k xs le)

-- then no call is of any such number
pub none_beyond : (n k : ℕ) (xs : List Call) → n ≤ k → length (calls_of_from n xs) ≡ 0 → commands_of k xs ≡ []
none_beyond n k xs le e = ap (map (λ (call : Call). call.command)) (with_beyond n k xs le e)

-- ---- the commands of own calls, and of receipts

own_by : (p : ℕ) (x : Call) (xs : List Call) (m : ℕ) (b : Bool)
    → map (λ (y : PlacedCall). y.command) (placed_calls_from (p + 1) xs m) ≡ commands_of m xs
    → map (λ (y : PlacedCall). y.command) (if b then placed_call p x.command ∷ placed_calls_from (p + 1) xs m
    else placed_calls_from (p + 1) xs m) ≡ map (λ (y : Call). y.command) (if b then x ∷ calls_of_one m xs
    else calls_of_one m xs)
own_by p x xs m true e = ap (λ t. x.command ∷ t) e
own_by p x xs m false e = e

pub own_commands : (p : ℕ) (xs : List Call) (m : ℕ) → map (λ (y : PlacedCall). y.command) (placed_calls_from p xs m)
    ≡ commands_of m xs
own_commands p [] m = refl
own_commands p (x ∷ xs) m = own_by p x xs m (x.member == m) (own_commands (p + 1) xs m)

pub recorded_commands : (rs : List Receipt) (xs : List Command) → length rs ≡ length xs
    → map (λ (y : PlacedCall). y.command) (recorded_calls rs xs) ≡ xs
recorded_commands [] [] e = refl
recorded_commands [] (x ∷ xs) e = absurd (omega arith)
recorded_commands (r ∷ rs) [] e = absurd (omega arith)
recorded_commands (r ∷ rs) (x ∷ xs) e = ap (λ t. x ∷ t) (recorded_commands rs xs (omega arith))

few_by : (x : Call) (a xs : List Call) (b : Bool) → length (map (λ (call : Call). call.command) a) ≤ length xs
    → length (map (λ (call : Call). call.command) (if b then x ∷ a else a)) ≤ length (x ∷ xs)
few_by x a xs true e = omega arith
few_by x a xs false e = omega arith

few_commands : (k : ℕ) (xs : List Call) → length (commands_of k xs) ≤ length xs
few_commands k [] = omega arith
few_commands k (x ∷ xs) = few_by x (calls_of_one k xs) xs (x.member == k) (few_commands k xs)

-- ---- a script for each member

range_push : (a n k : ℕ) → a + n ≡ k → range_with_len a (suc n) ≡ range_with_len a n ++ k ∷ []
range_push a zero k e = let same : a ≡ k = omega arith in ap (λ (j : ℕ). j ∷ []) same
range_push a (suc n) k e = ap (λ t. a ∷ t) (range_push (a + 1) n k (omega arith))

pub split_next : (n k : ℕ) (calls : List Call) (old new : List Script) (s : Script) → IsSplit n calls old → s.member ≡ n
    → s.commands.items ≡ commands_of n calls → new ≡ old ++ s ∷ [] → suc n ≡ k → IsSplit k calls new
split_next n k calls old new s split number commands more next =
    let HasCommands : Script → Type 0 = λ x. x.commands.items ≡ commands_of x.member calls in
    let these : HasCommands s = commands ∙ ap (λ (j : ℕ). commands_of j calls) (sym number) in
    record {
      numbers =
          ap (map (λ (x : Script). x.member)) more ∙ map-append (λ (x : Script). x.member) old (s ∷ [])
          ∙ (λ i. split.numbers i ++ number i ∷ []) ∙ sym (range_push 0 n n (omega arith)) ∙ ap (range_with_len 0) next;
      commands =
          subst (All HasCommands) (sym more)
          (All-append HasCommands old (s ∷ []) split.commands (All-cons HasCommands s [] these (All-nil HasCommands)));
    }

newcomer_numbers : (n : ℕ) → map (λ (m : MemberView). m.number) (newcomers n) ≡ range_with_len 0 n
newcomer_numbers zero = refl
newcomer_numbers (suc n) =
    map-append (λ (m : MemberView). m.number) (newcomers n) _ ∙ ap (λ t. t ++ n ∷ []) (newcomer_numbers n)
    ∙ sym (range_push 0 n n (omega arith))

-- a member that has made no call
abbrev pub IsNewMember : MemberView → Type 0
IsNewMember m = (m.calls ≡ 0) × (m.mine ≡ [])

pub all_new : (n : ℕ) → All IsNewMember (newcomers n)
all_new zero = All-nil IsNewMember
all_new (suc n) = All-append IsNewMember (newcomers n) _ (all_new n)
    (All-cons IsNewMember _ [] (refl, refl) (All-nil IsNewMember))

same_numbers : (ms : List MemberView) (ss : List Script) → map (λ (m : MemberView). m.number) ms
    ≡ map (λ (s : Script). s.member) ss → HaveSameNumbers ms ss
same_numbers [] [] e = tt
same_numbers [] (s ∷ ss) e = absurd cc
same_numbers (m ∷ ms) [] e = absurd cc
same_numbers (m ∷ ms) (s ∷ ss) e = ((cc), same_numbers ms ss (cc))

pub fits : (n : ℕ) (calls : List Call) (ss : List Script) → IsSplit n calls ss → length calls ≤ MAX_CALLS
    → FitsMembers (newcomers n) ss
fits n calls ss split few = record {
  numbers = same_numbers (newcomers n) ss (newcomer_numbers n ∙ sym split.numbers);
  few = λ j d lt. omega (arith, few_commands (get_or ss j d).member calls, ap length (split.commands j d lt));
}

-- what holds of the number of each script holds of each number
pub at_each : (P : ℕ → Type 0) (n : ℕ) (ss : List Script) → map (λ (s : Script). s.member) ss ≡ range_with_len 0 n
    → All (λ (s : Script). P s.member) ss → (k : ℕ) → k < n → P k
at_each P n ss numbers h k lt =
    let all : All P (range_with_len 0 n) = subst (All P) numbers (All-map P (λ (s : Script). s.member) ss h) in
    let same : get_or (range_with_len 0 n) k 0 ≡ 0 + k = get_or-range_with_len 0 n k 0 lt in
    subst P (omega (arith, same)) (all k 0 (omega (arith, length-range_with_len 0 n)))
