-- A call more.
use Rattle.std.proofs.Common.{◌≡◌, ◌==◌, ℕ, Bool, MatchBool, true, false, take, drop, ◌+◌, ◌<◌, ◌≤◌, List, [], ◌∷◌}
use Rattle.std.proofs.Common.{◌++◌, All, length, refl, sym, ap, ◌∙◌, subst, ◌≢◌, set, sum, slice_index, get_or-set_same}
use Rattle.std.proofs.Common.{get_or-set_other, length-set, arith, length-append}
use Rattle.std.specs.Prelude.{if◌then◌else◌}
use mathlib.Core.List.{IsPrefix}
use Rattle.std.proofs.lemmas.List.Sums.{sum_by-set}
use Rattle.std.proofs.lemmas.Bool.{eqb-true, eqb-false, eq-eqb}
use Rattle.board_terms.specs.declared.calls.Receipt.{Receipt}
use Rattle.board_terms.proofs.PrefixLaws.{prefix_whole, prefix_trans, prefix_length}
use Rattle.board_terms.specs.declared.calls.Shown.{Shown}
use Rattle.board_terms.specs.CallsAndLooks.{IsLook, ShowsAfter, CallsOnce, entry}
use Rattle.auction.specs.AuctionState.{call_by}
use Rattle.board_terms.specs.MemberView.{MemberView, PlacedCall, placed_calls, placed_calls_from, placed_call}
use Rattle.board_terms.specs.MemberView.{member_view, after_call}
use Rattle.std.proofs.lemmas.List.Elements.{All-append, All-cons, All-nil}
use Rattle.std.proofs.lemmas.List.{map_push, take-append-drop, take-append-le}
use Rattle.std.proofs.lemmas.Grind.{common_steps}
use Rattle.auction_terms.specs.declared.Config.{Config}
use Rattle.auction_terms.specs.declared.Call.{Call}
use Rattle.auction_terms.specs.declared.Command.{Command}
use Rattle.auction_terms.specs.declared.Reply.{Reply}
use Rattle.auction_terms.specs.declared.Entry.{Entry}
use Rattle.auction_terms.specs.Day.{IsLegal, step, replay, call_of, calls_of, display}
use Rattle.auction_terms.specs.Auxiliary.RunningAuction.{RunningAuction, auction_after_call, auction_after}
use Rattle.auction_terms.proofs.RunLaws.{IsLegal-push, auction_after-push}
use Rattle.board_terms.specs.CoreInvariant.{CoreInvariant}
use Rattle.board_terms.specs.MemberInvariant.{MemberInvariant}
use Rattle.board_terms.specs.Closings.{HasSeenBeginning}

-- the auction that follows the story by one call
pub follows : (c : Config) (a a' : RunningAuction) (v s : List Call) (member : ℕ) (command : Command)
    → a ≡ auction_after c v → a' ≡ auction_after_call a (call_by member command) → s ≡ v ++ call_by member command ∷ []
    → a' ≡ auction_after c s
follows c a a' v s member command was is more =
    is ∙ ap (λ (r : RunningAuction). auction_after_call r (call_by member command)) was
    ∙ auction_after-push c v (call_by member command) ∙ ap (auction_after c) (sym more)

-- what is shown after one call more
pub ShowsAfter-call : (c : Config) (a a' : RunningAuction) (v s : List Call) (member : ℕ) (command : Command)
    (shown : Shown) → a ≡ auction_after c v → a' ≡ auction_after_call a (call_by member command)
    → s ≡ v ++ call_by member command ∷ [] → shown.calls ≡ a'.calls → shown.display ≡ display a'.state
    → ShowsAfter c s shown
ShowsAfter-call c a a' v s member command shown was is more calls display_is =
    grind (arith, common_steps, (follows c a a' v s member command was is more))

-- the own calls of a beginning
placed_calls-append_by : (k : ℕ) (x : Call) (xs ys : List Call) (m : ℕ) (b : Bool)
    → placed_calls_from (k + 1) (xs ++ ys) m ≡ placed_calls_from (k + 1) xs m ++ placed_calls_from (k + length (x ∷ xs))
    ys m
    → (if b then placed_call k x.command ∷ placed_calls_from (k + 1) (xs ++ ys) m
    else placed_calls_from (k + 1) (xs ++ ys) m)
    ≡ (if b then placed_call k x.command ∷ placed_calls_from (k + 1) xs m else placed_calls_from (k + 1) xs m)
    ++ placed_calls_from (k + length (x ∷ xs)) ys m
placed_calls-append_by k x xs ys m b e = grind (arith, common_steps)

pub placed_calls-append : (k : ℕ) (xs ys : List Call) (m : ℕ)
    → placed_calls_from k (xs ++ ys) m ≡ placed_calls_from k xs m ++ placed_calls_from (k + length xs) ys m
placed_calls-append k [] ys m = let e : k ≡ k + 0 = omega arith in ap (λ j. placed_calls_from j ys m) e
placed_calls-append k (x ∷ xs) ys m =
    grind (arith, common_steps, placed_calls-append_by, (placed_calls-append (k + 1) xs ys m))

pub placed_calls-take : (n : ℕ) (xs : List Call) (m : ℕ) → IsPrefix (placed_calls (take n xs) m) (placed_calls xs m)
placed_calls-take n xs m = (
  placed_calls_from (1 + length (take n xs)) (drop n xs) m,
  sym (placed_calls-append 1 (take n xs) (drop n xs) m)
      ∙ ap (λ t. placed_calls t m) (take-append-drop n xs),
)

-- the beginning of a beginning
pub take-prefix : (n : ℕ) (xs ys : List Call) → n ≤ length xs → IsPrefix xs ys → take n ys ≡ take n xs
take-prefix n xs ys le p = ap (take n) (sym p.1) ∙ take-append-le n xs p.0 le

-- a look that takes in a longer story
pub IsLook-longer : (c : Config) (number calls last : ℕ) (seen seen' : List Call) (shown : Shown) → last ≤ length seen
    → IsPrefix seen seen' → ShowsAfter c seen' shown
    → IsLook c (member_view number calls last seen) (member_view number calls last seen') shown
IsLook-longer c number calls last seen seen' shown le pre s =
    grind (arith, common_steps, take-prefix, placed_calls-take)

-- how many calls a member has after one call more
abbrev bit : Bool → ℕ
bit true = 1
bit false = 0

abbrev alone : Bool → ℕ → Command → List PlacedCall
alone b k command = if b then placed_call k command ∷ [] else []

alone-length : (k : ℕ) (x : Call) (m : ℕ) (b : Bool) → length (alone b k x.command) ≡ bit b
alone-length k x m b = grind (arith, common_steps)

pub placed_calls-length-push : (xs : List Call) (x : Call) (m : ℕ) → length (placed_calls (xs ++ x ∷ []) m)
    ≡ length (placed_calls xs m) + bit (x.member == m)
placed_calls-length-push xs x m =
    ap length (placed_calls-append 1 xs (x ∷ []) m)
    ∙ length-append (placed_calls xs m) (placed_calls_from (1 + length xs) (x ∷ []) m)
    ∙ ap (λ k. length (placed_calls xs m) + k) (alone-length (1 + length xs) x m (x.member == m))

pub placed_calls-push : (xs : List Call) (m : ℕ) (command : Command) → placed_calls (xs ++ call_by m command ∷ []) m
    ≡ placed_calls xs m ++ placed_call (length xs + 1) command ∷ []
placed_calls-push xs m command = grind (arith, common_steps, eq-eqb, placed_calls-append)

-- the counts by number, after one call more
counts-after_call : (xs : List Call) (x : Call) (counts : List ℕ) (k : ℕ) → k < length counts
    → slice_index counts k ≡ length (placed_calls xs k) → (b : Bool) → (x.member == k) ≡ b
    → slice_index (set counts x.member (slice_index counts x.member + 1)) k ≡ length (placed_calls (xs ++ x ∷ []) k)
counts-after_call xs x counts k within was h6 is =
    grind (arith, common_steps, eqb-true, get_or-set_same, placed_calls-length-push, eqb-false, get_or-set_other)

pub CoreInvariant-push : (c : Config) (n : ℕ) (a a' : RunningAuction) (h h' : List Entry) (f f' : List Call)
    (counts counts' : List ℕ) (space space' member : ℕ) (command : Command) (reply : Reply)
    → CoreInvariant c n a h f counts space → length h < c.max_calls → member < n
    → reply ≡ (step a.config a.state (call_by member command)).1
    → a' ≡ auction_after_call a (call_by member command) → h' ≡ h ++ entry member command reply ∷ []
    → f' ≡ calls_of h ++ call_by member command ∷ []
    → counts' ≡ set counts member (slice_index counts member + 1) → space' ≡ space
    → CoreInvariant c n a' h' f' counts' space'
CoreInvariant-push c n a a' h h' f f' counts counts' space space' member command reply k lt one_of is_reply is_a is_h
    is_f is_counts is_space =
    let same = is_reply ∙ ap (λ (r : RunningAuction). (step r.config r.state (call_by member command)).1) k.replayed in
    let e : Entry = entry member command reply in
    let x : Call = call_by member command in
    let Holds : Entry → Type 0 = λ y. y.member < n in
    let calls : calls_of h' ≡ calls_of h ++ x ∷ [] = ap calls_of is_h ∙ map_push call_of h e in
    record {
      legal = subst (IsLegal c) (sym is_h) (IsLegal-push c h e k.legal lt same);
      replayed = is_a ∙ ap (λ (r : RunningAuction). auction_after_call r (call_by member command)) k.replayed
          ∙ auction_after-push c (calls_of h) (call_by member command) ∙ ap (auction_after c) (sym calls);
      front_is = is_f ∙ sym calls;
      numbers =
          subst (All Holds) (sym is_h)
          (All-append Holds h (e ∷ []) k.numbers (All-cons Holds e [] one_of (All-nil Holds)));
      wide = ap length is_counts ∙ length-set counts member (slice_index counts member + 1) ∙ k.wide;
      summed = let within : member < length counts = omega (arith, k.wide) in
          omega (
            arith,
            ap sum is_counts,
            sum_by-set (λ (y : ℕ). y) counts member (slice_index counts member + 1) 0
                within,
            k.summed,
            ap length is_h,
            length-append h (e ∷ []),
          );
      counts = λ j lt'.
          let inside : j < length counts = omega (arith, k.wide) in
          ap (λ ys. slice_index ys j) is_counts ∙ counts-after_call (calls_of h) x counts j inside (k.counts j lt')
          (member == j) refl ∙ ap (λ ys. length (placed_calls ys j)) (sym calls);
      has_room = omega (arith, k.has_room, is_space);
      small = k.small;
    }

-- among calls none of which is a member's, all are others'
others-cons : (k : ℕ) (x : Call) (xs : List Call) (m : ℕ) (b : Bool) → (x.member == m) ≡ b
    → length (if b then placed_call k x.command ∷ placed_calls_from (k + 1) xs m else placed_calls_from (k + 1) xs m)
    ≡ 0
    → (length (placed_calls_from (k + 1) xs m) ≡ 0 → All (λ (y : Call). y.member ≢ m) xs)
    → All (λ (y : Call). y.member ≢ m) (x ∷ xs)
others-cons k x xs m b is none rest = grind (arith, common_steps, All-cons, eqb-false)

pub placed_calls-none : (k : ℕ) (xs : List Call) (m : ℕ) → length (placed_calls_from k xs m) ≡ 0
    → All (λ (y : Call). y.member ≢ m) xs
placed_calls-none k [] m none = All-nil (λ (y : Call). y.member ≢ m)
placed_calls-none k (x ∷ xs) m none = others-cons k x xs m (x.member == m) refl none (placed_calls-none (k + 1) xs m)

-- a member that follows the story has no more calls than the story has of it
pub placed_calls-prefix : (n : ℕ) (story : List Call) (m : MemberView) → HasSeenBeginning n story m
    → IsPrefix m.mine (placed_calls story m.number)
placed_calls-prefix n story m f =
    grind (arith, common_steps, (placed_calls-append 1 m.seen f.begins.0 m.number), prefix_trans)

-- a recorded call
pub CallsOnce-recorded : (c : Config) (n : ℕ) (m : MemberView) (xs f' : List Call) (command : Command) (r : Receipt)
    → HasSeenBeginning n xs m → m.calls ≡ length (placed_calls xs m.number) → f' ≡ xs ++ call_by m.number command ∷ []
    → r.number ≡ length xs + 1 → r.reply ≡ (step c (replay c xs).0 (call_by m.number command)).1
    → CallsOnce c m (after_call m f') command r
CallsOnce-recorded c n m xs f' command r f counted is_f is_number is_reply =
    let rest = f.begins.0 in
    let split : placed_calls xs m.number ≡ placed_calls m.seen m.number ++ placed_calls_from (1 + length m.seen) rest
    m.number = ap (λ t. placed_calls t m.number) (sym f.begins.1) ∙ placed_calls-append 1 m.seen rest m.number in
    let mine : m.mine ≡ placed_calls xs m.number =
    prefix_whole m.mine (placed_calls xs m.number) (placed_calls-prefix n xs m f)
    (omega (arith, f.count, counted)) in
    let some : length m.mine ≤ length (placed_calls m.seen m.number) = prefix_length _ _ f.mine in
    let none : length (placed_calls_from (1 + length m.seen) rest m.number) ≡ 0 =
    omega (
      arith,
      some,
      f.count,
      counted,
      ap length split,
      length-append (placed_calls m.seen m.number) (placed_calls_from (1 + length m.seen) rest m.number),
    ) in
    let len : length f' ≡ length xs + 1 =
    omega (arith, ap length is_f, length-append xs (call_by m.number command ∷ [])) in
    record {
      number = refl;
      calls = refl;
      between = rest;
      others = placed_calls-none (1 + length m.seen) rest m.number none;
      seen = is_f ∙ ap (λ t. t ++ call_by m.number command ∷ []) (sym f.begins.1);
      place = is_number ∙ sym len;
      reply = is_reply ∙ ap (λ t. (step c (replay c t).0 (call_by m.number command)).1) (sym f.begins.1);
      mine =
          ap (λ t. placed_calls t m.number) is_f ∙ placed_calls-push xs m.number command
          ∙ (λ i. sym mine i ++ placed_call (sym is_number i) command ∷ []);
      all_mine = refl;
    }

-- after its call a member has one more in the story
pub placed_calls-one_more : (xs f' : List Call) (m : ℕ) (command : Command) (calls : ℕ)
    → f' ≡ xs ++ call_by m command ∷ [] → calls ≡ length (placed_calls xs m) → length (placed_calls f' m) ≡ calls + 1
placed_calls-one_more xs f' m command calls is_f counted =
    omega (
      arith,
      counted,
      ap (λ t. length (placed_calls t m)) is_f,
      ap length (placed_calls-push xs m command),
      length-append (placed_calls xs m) (placed_call (length xs + 1) command ∷ []),
    )

-- a member follows the story that its beginning begins
pub HasSeenBeginning-by_length : (n number calls last : ℕ) (seen story : List Call) (end : ℕ) (b : Bool)
    → MemberInvariant n number calls last seen → MatchBool b (IsPrefix seen story) (end < length seen)
    → MatchBool b (HasSeenBeginning n story (member_view number calls last seen)) (end < length seen)
HasSeenBeginning-by_length n number calls last seen story end true k begins =
    record { number = k.one_of; begins = begins; mine = placed_calls-take last seen number; count = sym k.own_calls }
HasSeenBeginning-by_length n number calls last seen story end false k more = more
