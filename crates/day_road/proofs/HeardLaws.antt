-- What is heard, call by call.
use Rattle.std.proofs.Common.{◌≡◌, ◌++◌, ◌∷◌, ◌∙◌, [], List, map, false, Option, Some, None, Result}
use Rattle.std.proofs.Common.{Ok, Err, refl, ap, sym, subst, arith, append_assoc}
use Rattle.std.proofs.lemmas.List.{length_push, map-append}
use Rattle.std.proofs.lemmas.Grind.{common_steps}
use Rattle.std.specs.Prelude.{IfSome, OnOk}
use Rattle.std.specs.Result.{is_err}
use Rattle.auction.specs.declared.OpenFault.{OpenFault}
use Rattle.auction_terms.specs.declared.Config.{Config}
use Rattle.auction_terms.specs.Day.{State, replies_from, step, state_after}
use Rattle.auction_terms.specs.Auxiliary.RunningAuction.{RunningAuction, auction_after_call}
use Rattle.auction_terms.proofs.RunLaws.{state_after-push}
use Rattle.journal.specs.EntryRecord.{RecordedCall, call_part, reply_part}
use Rattle.day_road.specs.Heard.{HeardEntry, after_all, heard_from, heard_in, heard_of}
use Rattle.day_road.specs.ReplyPairs.{ReplyPair, pair_in, pair_of, pairs}

-- where an auction was opened there is nothing against its config
pub open-none : {X : Type 0} (why : Option OpenFault) (x : X) → IfSome why (λ fault. Ok x ≡ Err fault) → why ≡ None
open-none None x h = refl
open-none (Some w) x h = absurd (cc h)

-- one more call comes to the auction
after_all-more : (auction : RunningAuction) (front : List RecordedCall) (r : RecordedCall)
    → auction_after_call (after_all auction front) r.call ≡ after_all auction (front ++ r ∷ [])
after_all-more auction front r = grind (arith, common_steps, state_after-push, length_push, map-append)

pub came : (old now new : RunningAuction) (front : List RecordedCall) (r : RecordedCall)
    → new ≡ auction_after_call now r.call → now ≡ after_all old front → new ≡ after_all old (front ++ r ∷ [])
came old now new front r put is =
    put ∙ ap (λ (a : RunningAuction). auction_after_call a r.call) is ∙ after_all-more old front r

-- it is heard after those before it
heard-more : (config : Config) (state : State) (front : List RecordedCall) (r : RecordedCall)
    → heard_from config state (front ++ r ∷ []) ≡ heard_from config state front
    ++ heard_of r (step config (state_after config state (map call_part front)) r.call).1 ∷ []
heard-more config state [] r = refl
heard-more config state (first ∷ front) r =
    ap (λ hs. heard_of first (step config state first.call).1 ∷ hs)
    (heard-more config (step config state first.call).0 front r)

pub follows : (auction now : RunningAuction) (before : List HeardEntry) (front : List RecordedCall) (r : RecordedCall)
    → now ≡ after_all auction front
    → (before ++ heard_from auction.config auction.state front) ++ heard_in now r ∷ []
    ≡ before ++ heard_from auction.config auction.state (front ++ r ∷ [])
follows auction now before front r is =
    rw is (append_assoc before _ _
    ∙ ap (λ hs. before ++ hs) (sym (heard-more auction.config auction.state front r)))

-- what was put after the others, where memory wasn't refused
pub was_put : {E P : Type 0} (r : Result (Unit {0}) E) → is_err r ≡ false → OnOk r P → P
was_put (Ok u) e h = h
was_put (Err f) e h = absurd cc

-- one more was heard
pub hears-more : (Hears : RunningAuction → List HeardEntry → Type 0) (auction now mid new : RunningAuction)
    (before : List HeardEntry) (front : List RecordedCall) (r : RecordedCall) → now ≡ after_all auction front
    → mid ≡ now → new ≡ auction_after_call mid r.call
    → Hears (auction_after_call now r.call)
    ((before ++ heard_from auction.config auction.state front) ++ heard_in now r ∷ [])
    → Hears new (before ++ heard_from auction.config auction.state (front ++ r ∷ []))
hears-more Hears auction now mid new before front r is same put heard =
    let last : new ≡ auction_after_call now r.call =
    put ∙ ap (λ (a : RunningAuction). auction_after_call a r.call) same in
    subst (λ (a : RunningAuction). Hears a (before ++ heard_from auction.config auction.state (front ++ r ∷ [])))
    (sym last)
    (subst (λ (heard : List HeardEntry). Hears (auction_after_call now r.call) heard)
    (follows auction now before front r is) heard)

-- the recorded replies beside the lawful ones
pub heard-pairs : (config : Config) (state : State) (rs : List RecordedCall)
    → map pair_in (heard_from config state rs)
    ≡ pairs (map reply_part rs) (replies_from config state (map call_part rs))
heard-pairs config state [] = refl
heard-pairs config state (r ∷ rs) =
    ap (λ (rest : List ReplyPair). pair_of r.text (step config state r.call).1 ∷ rest)
    (heard-pairs config (step config state r.call).0 rs)
