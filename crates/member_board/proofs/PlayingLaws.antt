-- Lists of what was played.
use Rattle.std.proofs.Common.{◌≡◌, ℕ, ◌+◌, List, [], ◌∷◌, ◌++◌, map, take, drop, length, refl, ap, sym, subst, ◌∙◌}
use Rattle.std.proofs.Common.{append_assoc, arith}
use Rattle.std.proofs.lemmas.List.{append-nil}
use Rattle.std.proofs.Math.Seq.{take-append_seam, drop-append-add}
use Rattle.auction_terms.specs.declared.Config.{Config}
use Rattle.board_terms.specs.MemberView.{MemberView}
use Rattle.member_board.specs.declared.script.Script.{Script}
use Rattle.member_board.specs.PlaysScript.{MemberScript, PlayedScript, PlaysScript, EachPlaysScript, AllPlayScripts}
use Rattle.member_board.specs.PlaysScript.{HaveSameNumbers}
use Rattle.std.proofs.lemmas.Grind.{common_steps}

pub EachPlaysScript-push : (c : Config) (ts : List MemberScript) (rs : List PlayedScript) (t : MemberScript)
    (r : PlayedScript)
    → EachPlaysScript c ts rs → PlaysScript c t.member t.commands r → EachPlaysScript c (ts ++ t ∷ []) (rs ++ r ∷ [])
EachPlaysScript-push c [] [] t r h p = (p, tt)
EachPlaysScript-push c [] (y ∷ rs) t r h p = absurd h
EachPlaysScript-push c (x ∷ ts) [] t r h p = absurd h
EachPlaysScript-push c (x ∷ ts) (y ∷ rs) t r h p = (h.0, EachPlaysScript-push c ts rs t r h.1 p)

pub PlaysScript-next : {H : Type 0} (f : H → MemberScript) (c : Config) (ts all : List MemberScript) (h : H)
    (old new : List H)
    (rs rs' : List PlayedScript) (r : PlayedScript)
    → old ≡ h ∷ new → ts ++ map f old ≡ all → rs' ≡ rs ++ r ∷ [] → EachPlaysScript c ts rs
    → PlaysScript c (f h).member (f h).commands r → (us : List MemberScript) × (us ++ map f new ≡ all)
    × EachPlaysScript c us rs'
PlaysScript-next f c ts all h old new rs rs' r is_old is_all is_rs each plays = (
  ts ++ f h ∷ [],
  append_assoc ts (f h ∷ []) (map f new) ∙ (λ i. ts ++ map f (sym is_old i)) ∙ is_all,
  subst (EachPlaysScript c (ts ++ f h ∷ [])) (sym is_rs) (EachPlaysScript-push c ts rs (f h) r each plays),
)

pub PlaysScript-end : {H : Type 0} (f : H → MemberScript) (c : Config) (ts all : List MemberScript) (rest : List H)
    (rs : List PlayedScript) → length rest ≡ 0 → ts ++ map f rest ≡ all → EachPlaysScript c ts rs
    → EachPlaysScript c all rs
PlaysScript-end f c ts all [] rs none is_all each =
    subst (λ us. EachPlaysScript c us rs) (sym (append-nil ts) ∙ is_all) each
PlaysScript-end f c ts all (h ∷ rest) rs none is_all each = absurd (omega arith)

pub all_play : (c : Config) (ts : List MemberScript) (ms : List MemberView) (ss : List Script) (rs : List PlayedScript)
    → map (λ (t : MemberScript). t.member) ts ≡ ms
    → map (λ (t : MemberScript). t.commands) ts ≡ map (λ (s : Script). s.commands.items) ss → EachPlaysScript c ts rs
    → AllPlayScripts c ms ss rs
all_play c [] [] [] [] p q h = tt
all_play c [] [] [] (r ∷ rs) p q h = absurd h
all_play c [] [] (s ∷ ss) rs p q h = absurd cc
all_play c [] (m ∷ ms) ss rs p q h = absurd cc
all_play c (t ∷ ts) [] ss rs p q h = absurd cc
all_play c (t ∷ ts) (m ∷ ms) [] rs p q h = absurd cc
all_play c (t ∷ ts) (m ∷ ms) (s ∷ ss) [] p q h = absurd h
all_play c (t ∷ ts) (m ∷ ms) (s ∷ ss) (r ∷ rs) p q h =
    grind (arith, common_steps, (all_play c ts ms ss rs (cc (p)) (cc (q)) h.1))

pub same_length : (ms : List MemberView) (ss : List Script) → HaveSameNumbers ms ss → length ss ≡ length ms
same_length [] [] h = refl
same_length [] (s ∷ ss) h = absurd h
same_length (m ∷ ms) [] h = absurd h
same_length (m ∷ ms) (s ∷ ss) h = omega (arith, same_length ms ss h.1)

drop_none : (ys : List MemberScript) → drop 0 ys ≡ ys
drop_none [] = refl
drop_none (y ∷ ys) = refl

-- what came of the tasks before one that was lost, and the members of those after it
pub some_play : (c : Config) (xs ys all : List MemberScript) (t : MemberScript) (rs : List PlayedScript)
    (rest : List MemberView)
    → xs ++ t ∷ ys ≡ all → EachPlaysScript c xs rs → rest ≡ map (λ (x : MemberScript). x.member) ys
    → (n : ℕ) × EachPlaysScript c (take n all) rs × (rest ≡ map (λ (x : MemberScript). x.member) (drop (n + 1) all))
some_play c xs ys all t rs rest is each left = (
  length xs,
  subst (λ (ts : List MemberScript). EachPlaysScript c (take (length xs) ts) rs) is
      (subst (λ (ts : List MemberScript). EachPlaysScript c ts rs) (sym (take-append_seam xs (t ∷ ys))) each),
  left ∙ ap (map (λ (x : MemberScript). x.member)) (sym (drop-append-add xs (t ∷ ys) 1 ∙ drop_none ys))
      ∙ ap (λ ts. map (λ (x : MemberScript). x.member) (drop (length xs + 1) ts)) is,
)

pub none_left : (ys : List MemberScript) (rest : List MemberView) → length ys ≡ 0
    → rest ≡ map (λ (x : MemberScript). x.member) ys
    → rest ≡ []
none_left [] rest none left = left
none_left (y ∷ ys) rest none left = absurd (omega arith)

pub whole_play : (c : Config) (xs ys all : List MemberScript) (rs : List PlayedScript) → length ys ≡ 0 → xs ++ ys ≡ all
    → EachPlaysScript c xs rs → EachPlaysScript c all rs
whole_play c xs [] all rs none is each =
    subst (λ (ts : List MemberScript). EachPlaysScript c ts rs) (sym (append-nil xs) ∙ is) each
whole_play c xs (y ∷ ys) all rs none is each = absurd (omega arith)
