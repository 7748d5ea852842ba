-- Handles that hold the members of a new board.
use Rattle.std.proofs.Common.{◌≡◌, ℕ, zero, suc, List, [], ◌∷◌, All, length, map, Some, refl, sym, ap, ◌∙◌, arith}
use Rattle.std.proofs.Common.{length-append}
use Rattle.std.proofs.lemmas.List.{length-map}
use Rattle.std.proofs.lemmas.List.Elements.{All-cons, All-nil}
use Rattle.logbook.specs.Pages.{Book}
use Rattle.auction_terms.specs.declared.Config.{Config}
use Rattle.board_terms.specs.MemberView.{newcomer}
use Rattle.board_terms.specs.BoardViews.{OpenedBoard, BoardMember, new_board_members, opened_board, board_member}
use Rattle.auction_c.specs.declared.member_handle.AuctionMember.{AuctionMember}
use Rattle.auction_c.specs.BoardCalls.{HoldsNewMembers}

pub new_board_members-length : (p : OpenedBoard) (n : ℕ) → length (new_board_members p n) ≡ n
new_board_members-length p zero = refl
new_board_members-length p (suc n) =
    let last = board_member p (newcomer n) ∷ [] in
    omega (arith, new_board_members-length p n, length-append (new_board_members p n) last)

pub map-some : {B : Type 0} (f : B → BoardMember) (xs : List B) → map (λ b. Some (f b)) xs ≡ map Some (map f xs)
map-some f [] = refl
map-some f (x ∷ xs) = ap (λ ys. Some (f x) ∷ ys) (map-some f xs)

abbrev first_of : List ℕ → ℕ
first_of [] = 0
first_of (x ∷ xs) = x

abbrev rest_of : List ℕ → List ℕ
rest_of [] = []
rest_of (x ∷ xs) = xs

-- numbers that are one number for each of some boxes are that one
same_at_each : {A B : Type 0} (g : A → ℕ) (number : ℕ) (xs : List A) (boxes : List B)
    → map g xs ≡ map (λ (x : B). number) boxes → All (λ (x : A). g x ≡ number) xs
same_at_each g number [] boxes are = All-nil (λ x. g x ≡ number)
same_at_each g number (x ∷ xs) [] are = absurd (omega (arith, ap length are))
same_at_each g number (x ∷ xs) (b ∷ boxes) are =
    All-cons (λ y. g y ≡ number) x xs (ap first_of are) (same_at_each g number xs boxes (ap rest_of are))

pub holds_new_members : {B : Type 0} (f : B → BoardMember) (identity : ℕ) (config : Config) (reserve n : ℕ) (b : Book)
    (boxes : List B) (members : List BoardMember) (handles : List AuctionMember)
    → map f boxes ≡ members → members ≡ new_board_members (opened_board identity config n b) n
    → map (λ (h : AuctionMember). h.boxed.value) handles ≡ map (λ x. Some (f x)) boxes
    → map (λ (h : AuctionMember). h.reserve) handles ≡ map (λ (x : B). reserve) boxes
    → HoldsNewMembers identity config reserve handles
holds_new_members f identity config reserve n b boxes members handles is_b is_m is_h is_r =
    let new = new_board_members (opened_board identity config n b) n in
    let all : map (λ (h : AuctionMember). h.boxed.value) handles ≡ map Some new =
    is_h ∙ map-some f boxes ∙ ap (map Some) (is_b ∙ is_m) in
    let long : length handles ≡ n =
    sym (length-map handles (λ (h : AuctionMember). h.boxed.value)) ∙ ap length all ∙ length-map new Some
    ∙ new_board_members-length (opened_board identity config n b) n in
    record {
      book = b;
      boxed = all ∙ ap (λ (k : ℕ). map Some (new_board_members (opened_board identity config k b) k)) (sym long);
      reserves = same_at_each (λ (h : AuctionMember). h.reserve) reserve handles boxes is_r;
    }

pub as_many : {B : Type 0} (f : B → BoardMember) (p : OpenedBoard) (n m : ℕ) (boxes : List B)
    (members : List BoardMember) → m ≡ n → map f boxes ≡ members → members ≡ new_board_members p n → m ≡ length boxes
as_many f p n m boxes members is_m is_b is_n =
    is_m ∙ sym (new_board_members-length p n) ∙ sym (ap length (is_b ∙ is_n)) ∙ length-map boxes f
