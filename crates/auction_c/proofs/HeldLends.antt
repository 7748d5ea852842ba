-- `get_mut` lends the value, and the box follows it.
use mathlib.Core.Path.{◌≡◌, refl, sym}
use Prim.Native.Nat.{ℕ}
use mathlib.Core.List.{List, [], ◌∷◌}
use seplogic.Ra.Ura.{Ura}
use base.Fraction.{full_share}
use mir.Syntax.{Fn, Ty, named, erased, mut, ty_ptr, ty_ref, local, value_local, place, deref, field, copy, rv_opd}
use mir.Syntax.{addr_of, seq, assign, block, return}
use mir.Val.{Val, vptr}
use mir.Raw.{raw as bare}
use base.Logic.{SProp, ent, sep, id⊢}
use base.Fml.{Lft, GName, Share, Fml, ftrue, flft, fsep}
use prog.Wp.{Env, Calls, Loops, WpFn, Tables}
use contract.Monad.{Fun, fact}
use types.Logic.{Logic, sem}
use sound.WpLaws.{WpFn-mono}
use types.Kit.{‵, ◌⊛◌, some, at_ret, ◌$◌, ◌∵◌, !, qed, by, move, keep, use1, drop, split, join, pick, fsplit, fsplit3}
use types.Kit.{fjoin, suffices, frame, done, raw, later, await, group, fpack, rewrite}
use types.Part.{whole, sub, look_in}
use types.Run.{stop, fld, load, of_opd, first, blocks, exec, returns, enter, addr}
use types.ByLocal.{alloc_all, pass_all, free_all, look_at, get, through, sets, env, sets_last}
use denote.Builtin.{RefMutOf}
use denote.Param.{layout}
use denote.RattleType.{owns}
use denote.Memory.{part_at, mem, cell_at, part_of}
use denote.RawPtr.{block_ptr}
use denote.Ref.{MutBor, MutRef, mut_vals, mut_Tells}
use denote.Signature.{plain, mut_ref_to}
use denote.Steps.{heard, nothing, opens}
use denote.Triple.Clauses.{closing, Clauses, Ended}
use denote.Triple.Entry.{on_entry}
use denote.Triple.Spec.{Meets}
use denote.Triple.Walked.{says, Stays, stay_dropped, walk_of, ends_at, walked, walk_Meets, Goes-spent_ref}
use denote.Exit.{no}
use denote.Follow.{follows, Part, lends_Part}
use Rattle.core.proofs.alloc.Calls.{token}
use Rattle.std_alloc.proofs.VecSteps.Shapes.{after}
use Rattle.std_alloc.proofs.BoxSteps.Form.{R, B, τ, word, handle}
use Rattle.std_alloc.proofs.BoxSteps.Steps.{box_out, box_in}
use Rattle.std.specs.Prelude.{Option, IsSome, Some}
use Rattle.auction_c.proofs.HeldBox.{Held, E, HB, CR, at, alloc, value, as_box, owns_inside, Some-inner, after_lending}

-- the code as it is generated, at what stands behind its references
abbrev pub lending : Ty → Ty → Ty → Ty → Ty → Fn
lending x y z h k = record {
  lifetimes = 1;
  outlives = [];
  ty_params = [];
  givens = 0;
  params = 1;
  locals =
      local (ty_ref (named 0) mut x) value_local ∷ local (ty_ref (named 0) mut y) value_local
      ∷ local (ty_ref erased mut z) value_local ∷ local ty_ptr value_local ∷ local ty_ptr value_local ∷ [];
  body =
      seq (block (seq (assign (place 3 []) (rv_opd (copy (place 1 (deref h ∷ field 0 ∷ [])))))
      (seq (assign (place 4 []) (rv_opd (copy (place 3 []))))
      (assign (place 2 []) (addr_of (place 4 (deref k ∷ [])))))))
      (seq (assign (place 0 []) (rv_opd (copy (place 2 [])))) return);
}

module _ (H : Held) where
  abbrev pub ended : Ended
  ended = record {
    signature =
        record {
          lifetimes = 1;
          outlives = [];
          params = RefMutOf (0 ∷ []) tt (plain (λ _. HB H)) (λ _. tt) ∷ [];
          result = RefMutOf (0 ∷ []) tt (plain (λ _. CR H)) (λ _. tt);
        };
    kept = (no, tt);
  }

  abbrev stayed : Stays ended.signature.params ended.kept
  stayed = (stay_dropped (mut_ref_to (0 ∷ []) tt (plain (λ _. HB H))) no, tt)

  abbrev pub clauses : {M : Type 1} {𝓤 : Ura M} (𝓛 : Logic 𝓤) → Clauses 𝓤 ended
  clauses {𝓤 = 𝓤} 𝓛 κs a = record {
    ghost = Unit {0};
    requires = λ _. fact 𝓤 (IsSome (value H a.0.now));
    ensures =
        λ _ r _. sep 𝓤 (sem 𝓛 (follows (HB H) (CR H) a.0.ghost_name r.ghost_name (after_lending H a.0.now)))
        (fact 𝓤 (Some r.now ≡ value H a.0.now));
  }

module _ (H : Held) (s t u k : Ty) {M : Type 1} {𝓤 : Ura M} (𝓛 : Logic 𝓤) (κ : Lft) (q : Share) (rb ro : ℕ)
    (γ : GName) (h : H.Boxed) where
  open 𝓛 use {A}

  abbrev fn : Fn
  fn = lending s t u (layout (HB H)) k

  abbrev ref : MutBor H.Boxed
  ref = record { ref_ptr = (rb, ro); ghost_name = γ; now = h }

  abbrev bound : (walk_of 𝓛 (ended H) (stayed H) (clauses H 𝓛)).Ghost
  bound = (((κ, tt), (q, tt), tt, (ref, tt), (vptr rb ro ∷ [], tt)), tt)

  abbrev Post : Val → SProp 𝓤
  Post = (walk_of 𝓛 (ended H) (stayed H) (clauses H 𝓛)).post bound

  abbrev tied : GName → Fml
  tied γ' = follows (HB H) (CR H) γ γ' (after_lending H h)

  module _ (b o : ℕ) (hv : Val) where
    abbrev bits : List Val
    bits = word (E H) hv b o ∷ []

    -- all of the box but its value
    abbrev Rest : Fml
    Rest =
        fsep (fsep (token (E H).al (alloc H h) (bare (τ (E H))) (block_ptr b o)) (handle (E H) (alloc H h) hv))
        (cell_at full_share (HB H).mir bits rb ro)

    back : at H h ≡ block_ptr b o → (w : (CR H).Denot)
        → ent 𝓤 (sep 𝓤 (sem 𝓛 ((mem (CR H)).own_at w b o)) (sem 𝓛 Rest))
        (sem 𝓛 ((mem (HB H)).own_at (after_lending H h w) rb ro))
    unfolding part_of
    back at_b w =
        qed 𝓛 (‵ (part_at (R (E H)) full_share w b o) ∷ ‵ Rest ∷ []) ∵ move ! (1 ∷ []) $ fsplit ! $ fsplit ! $
        move ! (3 ∷ []) $ box_in (E H) ! (as_box H h w) b o w at_b refl $
        use1 𝓛 (‵ (owns_inside H (at H h, (alloc H h, Some w)) bits)) (id⊢ 𝓤 _) $
        rewrite ! 0 (λ i. ‵ (owns_inside H i bits)) (sym (H.makes (at H h) (alloc H h) (Some w))) refl $
        move ! (1 ∷ 0 ∷ []) $ fjoin ! $
        fpack ! (List Val)
        (λ us. fsep (cell_at full_share (HB H).mir us rb ro) ((HB H).own_val (after_lending H h w) us)) bits $ done !

    module _ (x : (CR H).Denot) (γ' : GName) where
      abbrev lent : MutBor (CR H).Denot
      lent = record { ref_ptr = (b, o); ghost_name = γ'; now = x }

      abbrev lent_owns : Fml
      lent_owns = (MutRef (named 0) κ (CR H)).own_val lent (vptr b o ∷ [])

      exits : value H h ≡ Some x
          → ent 𝓤 (sep 𝓤 (sem 𝓛 lent_owns) (sep 𝓤 (A.lft κ q) (sem 𝓛 (tied γ')))) (Post (vptr b o))
      exits is =
          qed 𝓛 (‵ lent_owns ∷ ‵ (flft κ q) ∷ ‵ (tied γ') ∷ []) ∵
          suffices ! _ (ends_at 𝓛 (ended H) (stayed H) (clauses H 𝓛) bound (vptr b o) lent (tt, tt) (tt, tt)) $
          nothing ! $ nothing ! $ fjoin ! $ join ! $ nothing ! $ move ! (2 ∷ 0 ∷ []) $ join ! $ join ! $ frame ! $
          says ! (sym is) $ done !

  walk : (C : Calls 𝓤 𝓛.H) (Λ : Loops 𝓤 𝓛.H)
      → ent 𝓤
      (sep 𝓤 (on_entry 𝓛 (ended H).signature (κ, tt) (q, tt) (ref, tt) (vptr rb ro ∷ [], tt))
      (fact 𝓤 (IsSome (value H h)))) (WpFn 𝓤 𝓛.H C Λ fn (vptr rb ro ∷ []) Post)
  walk C Λ =
      qed 𝓛
      (((‵ (flft κ q) ⊛ ‵ ftrue) ⊛ ‵ (owns (MutRef (named 0) κ (HB H) ∷ []) (ref, tt) (vptr rb ro ∷ [], tt)))
      ∷ raw (fact 𝓤 (IsSome (value H h))) ∷ []) ∵
      move ! (1 ∷ []) $ heard ! (IsSome (value H h)) (λ full.
      let x = (Some-inner H (value H h) full).0 in let is = (Some-inner H (value H h) full).1 in
      let owner = as_box H h x in
      split ! $ enter ! C Λ fn (vptr rb ro ∷ []) _ $ alloc_all ! (λ l. pass_all ! refl ((tt, tt), tt) $
      let En : Env 𝓤 𝓛.H = env fn.locals l in
      move ! (1 ∷ []) $ fsplit ! $ fsplit3 ! $ drop ! $ move ! (3 ∷ []) $ split ! $ move ! (2 ∷ 3 ∷ 0 ∷ []) $
      opens ! tt (HB H) {h = h} rb ro (λ vs. move ! (1 ∷ []) $
      rewrite ! 0 (λ (v : Option (CR H).Denot). ‵ (owns_inside H (at H h, (alloc H h, v)) vs)) is refl $
      use1 𝓛 (‵ ((B (E H)).own_val owner vs)) (id⊢ 𝓤 _) $
      box_out (E H) ! owner vs (λ b o hv at_b ws fa. move ! (1 ∷ 2 ∷ []) $ fjoin ! $ move ! (1 ∷ []) $
      rewrite ! 2 (λ (us : List Val). ‵ (cell_at full_share (HB H).mir us rb ro)) ws refl $
      first ! $ blocks ! $
      sets ! (of_opd ! (load ! (through ! refl (fld ! refl (stop !))) (look_in ! 2 (sub ! 0 refl (whole !))))) refl
      (tt, tt) $
      sets ! (of_opd ! (get ! refl)) refl (tt, tt) $
      sets_last ! (addr ! (through ! refl (stop !))) refl (tt, tt) $
      exec ! C Λ En (after 1 fn.body) (at_ret En Post) $
      sets ! (of_opd ! (get ! refl)) refl (tt, tt) $
      move ! (1 ∷ 2 ∷ []) $ fjoin ! $ move ! (2 ∷ 3 ∷ 4 ∷ 1 ∷ 0 ∷ []) $ group ! 5 $
      let held = sem 𝓛 (Rest b o hv) in let closes = back b o hv at_b in let F = after_lending H h in
      use1 𝓛
      (later (some (λ (γ' : GName). raw (Part 𝓛 (HB H) (CR H) F (named 0) κ q rb ro b o γ held closes x γ'))))
      (lends_Part 𝓛 (HB H) (CR H) F (named 0) κ q rb ro b o γ held closes ((HB H).coded.code h) ((HB H).coded.code h) x)
      $ await ! tt $ pick ! (λ γ'.
      returns ! (look_at ! 0 refl) $ free_all ! refl $ keep ! (0 ∷ []) $ by ! (exits b o hv x γ' is))))))

module _ (H : Held) (s t u k : Ty) {M : Type 1} {𝓤 : Ura M} (𝓛 : Logic 𝓤) (𝓣 : Tables 𝓤 𝓛.H) where
  abbrev run : Fun 𝓤
  run = WpFn 𝓤 𝓛.H 𝓣.C 𝓣.Λ (lending s t u (layout (HB H)) k)

  pub meets : Meets 𝓛 (ended H).signature run (closing 𝓛 (ended H) (clauses H 𝓛))
  meets =
      walk_Meets 𝓛 (ended H) (stayed H) (Goes-spent_ref 𝓛 1 (0 ∷ []) tt (plain (λ _. HB H)), tt) (clauses H 𝓛) run
      (WpFn-mono 𝓤 𝓛.H 𝓛.laws 𝓣 (lending s t u (layout (HB H)) k))
      (walked 𝓛 (ended H) (stayed H) (clauses H 𝓛) run (λ κs. (mut_vals, tt))
      (λ κs. (mut_Tells (named 0) κs.0 (HB H), tt))
      (λ κs qs bounds a g are. let r = a.0 in
      walk H s t u k 𝓛 κs.0 qs.0 r.ref_ptr.0 r.ref_ptr.1 r.ghost_name r.now 𝓣.C 𝓣.Λ))
