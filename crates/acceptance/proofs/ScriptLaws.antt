-- Scripts made member by member.
use Rattle.std.proofs.Common.{◌≡◌, ℕ, ◌+◌, List, [], ◌∷◌, ◌++◌, ◌<◌, take, length, get_or, add-one}
use Rattle.std.proofs.lemmas.List.Elements.{All-append, All-cons, All-nil}
use Rattle.std.proofs.Math.Seq.{take-suc}
use Rattle.board_terms.specs.MemberView.{MemberView}
use Rattle.member_board.specs.declared.script.Script.{Script}
use Rattle.member_board.specs.PlaysScript.{FitsMembers, FitsHistory, HaveSameNumbers}

same_next : (ms : List MemberView) (ss : List Script) (m : MemberView) (s : Script) → HaveSameNumbers ms ss
    → m.number ≡ s.member → HaveSameNumbers (ms ++ m ∷ []) (ss ++ s ∷ [])
same_next [] [] m s h is = (is, tt)
same_next [] (y ∷ ss) m s h is = absurd h
same_next (x ∷ ms) [] m s h is = absurd h
same_next (x ∷ ms) (y ∷ ss) m s h is = (h.0, same_next ms ss m s h.1 is)

-- the scripts of the first members, and one for the next
pub fits_next : (ms : List MemberView) (ss all : List Script) (i : ℕ) (d : MemberView) (s : Script) → i < length ms
    → FitsMembers (take i ms) ss → (get_or ms i d).number ≡ s.member → FitsHistory s → all ≡ ss ++ s ∷ []
    → FitsMembers (take (i + 1) ms) all
fits_next ms ss all i d s within fits is few more =
    rw (more, add-one i, take-suc ms i d within) record {
      numbers = same_next (take i ms) ss (get_or ms i d) s fits.numbers is;
      few = All-append FitsHistory ss (s ∷ []) fits.few (All-cons FitsHistory s [] few (All-nil FitsHistory));
    }
