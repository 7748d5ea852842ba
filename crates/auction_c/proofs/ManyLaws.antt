-- Commands applied one after another: what the first i of them leave to do.
use Rattle.std.proofs.Common.{◌≡◌, refl, sym, add-zero, ◌∙◌, ap, subst, ℕ, ◌+◌, ◌<◌, ◌++◌, Bool, true, false}
use Rattle.std.proofs.Common.{if◌then◌else◌, List, ◌∷◌, length, take, drop, get_or, slice_set, Option, Some, None}
use Rattle.std.proofs.Common.{arith}
use Rattle.std.proofs.lemmas.List.{drop_more, take-append-drop, set-get_or}
use Rattle.std.proofs.lemmas.Grind.{common_steps}
use Rattle.auction_terms.specs.declared.Command.{Command}
use Rattle.auction_terms.specs.Auxiliary.RunningAuction.{RunningAuction}
use Rattle.auction_c.specs.declared.structs.AuctionCommand.{AuctionCommand}
use Rattle.auction_c.specs.declared.structs.AuctionReply.{AuctionReply}
use Rattle.auction_c.specs.Decoding.{command_in}
use Rattle.auction_c.specs.Calling.{ApplyResult, ApplyAllResult, apply_command, apply_decoded, apply_struct}
use Rattle.auction_c.specs.Calling.{apply_structs, has_none_left, nothing_applied}

-- after the first i, whose replies are at the head of replies
abbrev pub so_far : ℕ → List AuctionReply → ApplyAllResult → ApplyAllResult
so_far i replies rest = record {
  error = rest.error;
  applied = i + rest.applied;
  auction = rest.auction;
  replies =
      take i replies ++ rest.replies;
}

-- the first i are applied, and this is the auction and these are the replies
abbrev pub IsApplied : ℕ → RunningAuction → List AuctionCommand → List AuctionReply → ℕ → RunningAuction
    → List AuctionReply → Type 0
IsApplied reserve a cs rs i now rs_now =
    apply_structs reserve a cs rs ≡ so_far i rs_now (apply_structs reserve now (drop i cs) (drop i rs_now))

-- no more than these were applied
so_far-nothing : (i error : ℕ) (a : RunningAuction) (rs : List AuctionReply)
    → so_far i rs (nothing_applied error a (drop i rs)) ≡ record {
      error = error;
      applied = i;
      auction = a;
      replies =
          rs;
    }
so_far-nothing i error a rs =
    ap (λ (n : ℕ). record { error = error; applied = n; auction = a; replies = take i rs ++ drop i rs }) (add-zero i)
    ∙ ap (λ (xs : List AuctionReply). record {
      error = error;
      applied = i;
      auction = a;
      replies =
          xs;
    }) (take-append-drop i rs)

-- ---- an error changes nothing

abbrev IsUnchanged : RunningAuction → AuctionReply → ApplyResult → Type 0
IsUnchanged a reply o = (o.auction ≡ a) × (o.reply ≡ reply)

if-error : (b : Bool) (x y : ApplyResult) → y.error ≡ 0 → ((if b then x else y).error ≡ 0 → ⊥)
    → (if b then x else y) ≡ x
if-error true x y done fails = refl
if-error false x y done fails = absurd (fails done)

command_kept : (reserve : ℕ) (a : RunningAuction) (member : ℕ) (c : Command) (r : AuctionReply)
    → ((apply_command reserve a member c r).error ≡ 0 → ⊥) → IsUnchanged a r (apply_command reserve a member c r)
command_kept reserve a member c r fails =
    subst (IsUnchanged a r) (sym (if-error (has_none_left reserve a member) _ _ refl fails)) (refl, refl)

decoded_kept : (reserve : ℕ) (a : RunningAuction) (member : ℕ) (c : Option Command) (r : AuctionReply)
    → ((apply_decoded reserve a member c r).error ≡ 0 → ⊥) → IsUnchanged a r (apply_decoded reserve a member c r)
decoded_kept reserve a member None r fails = (refl, refl)
decoded_kept reserve a member (Some c) r fails = command_kept reserve a member c r fails

apply_structs-halts : (reserve : ℕ) (a : RunningAuction) (c : AuctionCommand) (cs : List AuctionCommand)
    (r : AuctionReply) (rs : List AuctionReply) → ((apply_struct reserve a c r).error ≡ 0 → ⊥)
    → apply_structs reserve a (c ∷ cs) (r ∷ rs) ≡ nothing_applied (apply_struct reserve a c r).error a (r ∷ rs)
apply_structs-halts reserve a c cs r rs fails = grind (arith, common_steps, fails)

-- the next one has an error
pub applied_some : (reserve : ℕ) (a : RunningAuction) (cs : List AuctionCommand) (rs : List AuctionReply) (i : ℕ)
    (now : RunningAuction) (rs_now : List AuctionReply) (dc : AuctionCommand) (dr : AuctionReply) (error : ℕ)
    (after : RunningAuction) (reply : AuctionReply)
    → IsApplied reserve a cs rs i now rs_now → i < length cs → i < length rs_now → (error ≡ 0 → ⊥)
    → error ≡ (apply_struct reserve now (get_or cs i dc) (get_or rs_now i dr)).error
    → after ≡ (apply_struct reserve now (get_or cs i dc) (get_or rs_now i dr)).auction
    → reply ≡ (apply_struct reserve now (get_or cs i dc) (get_or rs_now i dr)).reply
    → apply_structs reserve a cs rs
    ≡ record { error = error; applied = i; auction = after; replies = slice_set rs_now i reply }
applied_some reserve a cs rs i now rs_now dc dr error after reply so in_cs in_rs fails is_error is_after is_reply =
    let c = get_or cs i dc in let r = get_or rs_now i dr in
    let wrong : (apply_struct reserve now c r).error ≡ 0 → ⊥ = λ z. fails (is_error ∙ z) in
    let same = decoded_kept reserve now c.member (command_in c) r wrong in
    let rest : drop i rs_now ≡ r ∷ drop (i + 1) rs_now = drop_more rs_now i dr in_rs in
    let here : apply_structs reserve now (drop i cs) (drop i rs_now)
    ≡ nothing_applied (apply_struct reserve now c r).error now (drop i rs_now) =
    ap (λ xs. apply_structs reserve now xs (drop i rs_now)) (drop_more cs i dc in_cs)
    ∙ ap (λ xs. apply_structs reserve now (c ∷ drop (i + 1) cs) xs) rest
    ∙ apply_structs-halts reserve now c (drop (i + 1) cs) r (drop (i + 1) rs_now) wrong
    ∙ ap (nothing_applied (apply_struct reserve now c r).error now) (sym rest) in
    let same_after : now ≡ after = sym (is_after ∙ same.0) in
    let same_reply : rs_now ≡ slice_set rs_now i reply =
    sym (ap (slice_set rs_now i) (is_reply ∙ same.1) ∙ set-get_or rs_now i dr) in
    so ∙ ap (so_far i rs_now) here ∙ so_far-nothing i (apply_struct reserve now c r).error now rs_now
    ∙ ap (λ (n : ℕ). record { error = n; applied = i; auction = now; replies = rs_now }) (sym is_error)
    ∙ ap (λ (b : RunningAuction). record { error = error; applied = i; auction = b; replies = rs_now }) same_after
    ∙ ap (λ (xs : List AuctionReply). record { error = error; applied = i; auction = after; replies = xs }) same_reply

-- ---- one more is applied
