-- Values written for C one by one.
use Rattle.std.proofs.Common.{◌≡◌, sym, ◌∙◌, ap, ℕ, ◌+◌, ◌<◌, ◌++◌, List, [], ◌∷◌, length, map, take, drop, get_or, set}
use Rattle.std.proofs.Common.{arith, None}
use Rattle.std.proofs.lemmas.List.{append_assoc, drop_more, take_more, map-append, length-map, length-take-le, set_at}
use Rattle.auction_terms.specs.declared.Side.TheVariants.{Bid}
use Rattle.auction_terms.specs.declared.Limit.TheVariants.{Market}
use Rattle.auction_terms.specs.declared.Restriction.TheVariants.{Unrestricted}
use Rattle.auction_terms.specs.declared.OpenOrder.{OpenOrder}

-- any one
abbrev pub no_order : OpenOrder
no_order = record {
  order = record {
    id = 0;
    member = 0;
    side = Bid;
    restriction = Unrestricted;
    limit = Market;
    quantity = 0;
    peak = None;
  };
  visible = 0;
  filled = 0;
}

-- the first i are written, and the one after them is
pub copied_more : {X Y : Type 0} (f : X → Y) (xs : List X) (old now : List Y) (i : ℕ) (x : X) (y : Y) → i < length xs
    → i < length old → now ≡ map f (take i xs) ++ drop i old
    → set now i (f (get_or xs i x)) ≡ map f (take (i + 1) xs) ++ drop (i + 1) old
copied_more {X} {Y} f xs old now i x y in_xs in_old so =
    let v = f (get_or xs i x) in
    let done : List Y = map f (take i xs) in
    let here : now ≡ done ++ get_or old i y ∷ drop (i + 1) old =
    so ∙ ap (λ (ys : List Y). done ++ ys) (drop_more old i y in_old) in
    let long : length done ≡ i = length-map (take i xs) f ∙ length-take-le i xs (omega (arith, in_xs)) in
    let more : map f (take (i + 1) xs) ≡ done ++ v ∷ [] =
    ap (map f) (take_more xs i x in_xs) ∙ map-append f (take i xs) (get_or xs i x ∷ []) in
    ap (λ (ys : List Y). set ys i v) here ∙ set_at done (get_or old i y) (drop (i + 1) old) v i long
    ∙ sym (append_assoc done (v ∷ []) (drop (i + 1) old)) ∙ ap (λ (ys : List Y). ys ++ drop (i + 1) old) (sym more)
