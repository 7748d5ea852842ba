-- `none`, `of_parts` and `into_parts`: a box and the parts of one are made of two fields, and own what is theirs.
use mathlib.Core.Path.{◌≡◌, sym, subst, ap, refl}
use mathlib.Core.List.{List, [], ◌∷◌, ◌++◌}
use lib.Dec.{T}
use seplogic.Ra.Ura.{Ura}
use mir.Syntax.{Fn, Sym, Ty, ty_ptr, ty_struct, tcons, tnil, local, value_local, place, field, copy, rv_opd, aggregate}
use mir.Syntax.{seq, assign, return, int, w64}
use mir.Val.{Val, vnull, vstruct, of_list, has_ty, WT}
use base.Logic.{SProp, ent, emp, sep, id⊢}
use base.Fml.{ftrue, fsep}
use prog.Wp.{Calls, Loops, WpFn, Tables}
use types.Logic.{Logic, sem}
use contract.Monad.{Fun, fact}
use sound.WpLaws.{WpFn-mono}
use types.Kit.{Item, ‵, raw, ◌⊛◌, ◌$◌, rewrite, ◌∵◌, !, qed, by, move, keep, drop, use1, join, split, fsplit, fjoin}
use types.Kit.{suffices, done, fpack, feq_i}
use types.Part.{whole, sub, agg}
use types.Run.{stop, fld, no_more, and_then, of_opd, returns, enter, lit}
use types.ByLocal.{alloc_all, pass_all, free_all, look_at, get, get_in, sets}
use denote.Exit.{yes, Last}
use denote.Param.{layout}
use denote.RattleType.{RattleType, Valss}
use denote.RawPtr.{RawPtr, null_ptr}
use denote.Signature.{Slot, plain}
use denote.Steps.{heard, nothing}
use denote.Struct.Owning.{shape}
use denote.Struct.Struct.{within}
use denote.Triple.Clauses.{closing, Clauses, Ended}
use denote.Triple.Spec.{Meets}
use denote.Triple.Walked.{says, Stays, Silent, stay_dropped, walk_of, ends_at, Goes-dropped, walk_Meets}
use Rattle.core.proofs.alloc.Calls.{handle_tells, Fits, α}
use Rattle.std.proofs.Common.{lit<}
use Rattle.std.specs.Prelude.{Option, IsSome, Some, None}
use Rattle.std_alloc.proofs.BoxSteps.Form.{D, B, P, word, box_ty, box_typed, owning}
use Rattle.std_alloc.proofs.BoxSteps.Steps.{box_out, box_in}
use Rattle.std_alloc.proofs.ResultValues.{and_tt}
use Rattle.std_heap.specs.contracts.Global as Heap
use Rattle.auction_c.proofs.HeldBox.{Held, E, HB, CR, Parted, at, alloc, value, as_box, owns_inside, Some-inner}

-- ---- a function of one argument by value, of which nothing is bound at exit
pub record Taking {M : Type 1} (𝓤 : Ura M) : Type 2 where
  pub from : RattleType
  pub to : RattleType
  pub asks : from.Denot → SProp 𝓤
  pub tells : from.Denot → to.Denot → Type 0
  pub bound : (a : from.Denot) → Last (from.exit yes) a

module _ {M : Type 1} {𝓤 : Ura M} (𝓛 : Logic 𝓤) (F : Taking 𝓤) where
  abbrev argument : Slot 0
  argument = plain (λ _. F.from)

  abbrev ended : Ended
  ended = record {
    signature = record { lifetimes = 0; outlives = []; params = argument ∷ []; result = plain (λ _. F.to) };
    kept = (yes, tt);
  }

  abbrev stayed : Stays ended.signature.params ended.kept
  stayed = (stay_dropped argument yes, tt)

  abbrev clauses : Clauses 𝓤 ended
  clauses κs a = record {
    ghost = Unit {0};
    requires = λ _. F.asks a.0;
    ensures = λ _ r _. fact 𝓤 (F.tells a.0 r);
  }

  abbrev Passed : Type 0
  Passed = (walk_of 𝓛 ended stayed clauses).Ghost

  abbrev Post : Passed → Val → SProp 𝓤
  Post = (walk_of 𝓛 ended stayed clauses).post

  ends : (z : Passed) (w : Val) (r : F.to.Denot) → F.tells z.0.3.0 r
      → ent 𝓤 (sem 𝓛 (F.to.own_val r (w ∷ []))) (Post z w)
  ends z w r told =
      qed 𝓛 (‵ (F.to.own_val r (w ∷ [])) ∷ []) ∵
      suffices ! _ (ends_at 𝓛 ended stayed clauses z w r (F.bound z.0.3.0, tt) (tt, tt)) $ says ! told $
      nothing ! $ nothing ! $ fjoin ! $ join ! $ nothing ! $ join ! $ done !

  module _ (𝓣 : Tables 𝓤 𝓛.H) (fn : Fn) where
    abbrev run : Fun 𝓤
    run = WpFn 𝓤 𝓛.H 𝓣.C 𝓣.Λ fn

    abbrev Met : Type 1
    Met = Meets 𝓛 ended.signature run (closing 𝓛 ended clauses)

    meets : Silent 𝓛 0 argument yes
        → ((z : Passed)
        → ent 𝓤 (sep 𝓤 (sem 𝓛 (F.from.own_val z.0.3.0 z.0.4.0)) (F.asks z.0.3.0)) (run (z.0.4.0 ++ []) (Post z)))
        → Met
    meets silent walk =
        walk_Meets 𝓛 ended stayed (Goes-dropped 𝓛 0 argument yes silent, tt) clauses run
        (WpFn-mono 𝓤 𝓛.H 𝓛.laws 𝓣 fn) (λ z.
        qed 𝓛 ((‵ ftrue ⊛ ‵ (fsep (F.from.own_val z.0.3.0 z.0.4.0) ftrue)) ∷ raw (F.asks z.0.3.0) ∷ []) ∵
        split ! $ drop ! $ fsplit ! $ keep ! (0 ∷ 2 ∷ []) $ by ! (walk z))

-- ---- two fields are moved
-- a struct of a pointer and an allocator
abbrev two_fields : Sym → Ty
two_fields name = ty_struct name (tcons ty_ptr (tcons (layout Heap.the_row) tnil))

-- the code of `of_parts` and of `into_parts` as it is generated, at the names of the two structs
abbrev moving : Sym → Sym → Fn
moving to from = record {
  lifetimes = 0;
  outlives = [];
  ty_params = [];
  givens = 0;
  params = 1;
  locals =
      local (two_fields to) value_local ∷ local (two_fields from) value_local ∷ local ty_ptr value_local
      ∷ local (layout Heap.the_row) value_local ∷ local ty_ptr value_local ∷ [];
  body =
      seq (assign (place 2 []) (rv_opd (copy (place 1 (field 0 ∷ []))))) (seq (assign (place 3 [])
      (rv_opd (copy (place 1 (field 1 ∷ []))))) (seq (assign (place 4 []) (rv_opd (copy (place 2 []))))
      (seq (assign (place 0 []) (aggregate (copy (place 4 []) ∷ copy (place 3 []) ∷ []))) return)));
}

module _ (H : Held) (to from : Sym) {M : Type 1} {𝓤 : Ura M} (𝓛 : Logic 𝓤) where
  module _ (C : Calls 𝓤 𝓛.H) (Λ : Loops 𝓤 𝓛.H) (v : D (E H)) (vs : List Val) (Q : Val → SProp 𝓤) where
    -- the result owns what the argument did
    moves : ((w : Val) → ent 𝓤 (sem 𝓛 ((B (E H)).own_val v (w ∷ []))) (Q w))
        → ent 𝓤 (sem 𝓛 ((B (E H)).own_val v vs)) (WpFn 𝓤 𝓛.H C Λ (moving to from) (vs ++ []) Q)
    moves finish =
        qed 𝓛 (‵ ((B (E H)).own_val v vs) ∷ []) ∵ box_out (E H) ! v vs
        (λ b o hv e ws fa. box_in (E H) ! v b o v.value e refl $
        let w = word (E H) hv b o in
        let Γ : List (Item 𝓤) = ‵ ((B (E H)).own_val v (w ∷ [])) ∷ [] in
        by ! (subst (λ (us : List Val). ent 𝓤 (types.Kit.⋆ 𝓛 Γ) (WpFn 𝓤 𝓛.H C Λ (moving to from) (us ++ []) Q))
        (sym ws)
        (qed 𝓛 Γ ∵ enter ! C Λ (moving to from) (w ∷ []) _ $ alloc_all !
        (λ ls. pass_all ! refl (box_typed (E H) hv b o fa, tt) $
        sets ! (of_opd ! (get_in ! (fld ! refl (stop !)) (sub ! 0 refl (whole !)))) refl (tt, tt) $
        sets ! (of_opd ! (get_in ! (fld ! refl (stop !)) (sub ! 1 refl (whole !)))) refl fa $
        sets ! (of_opd ! (get ! refl)) refl (tt, tt) $
        sets ! (agg ! (and_then ! (get ! refl) (and_then ! (get ! refl) (no_more !)))) refl
        (box_typed (E H) hv b o fa) $
        returns ! (look_at ! 0 refl) $ free_all ! refl $ by ! (finish w)))))

  abbrev of_parts : Taking 𝓤
  of_parts = record {
    from = Parted H;
    to = HB H;
    asks = λ _. emp 𝓤;
    tells = λ p r. value H r ≡ Some p.value;
    bound = λ _. tt;
  }

  abbrev into_parts : Taking 𝓤
  into_parts = record {
    from = HB H;
    to = Parted H;
    asks = λ h. fact 𝓤 (IsSome (value H h));
    tells = λ h r. Some r.value ≡ value H h;
    bound = λ _. tt;
  }

  module _ (𝓣 : Tables 𝓤 𝓛.H) where
    pub meets_of_parts : Met 𝓛 of_parts 𝓣 (moving to from)
    meets_of_parts =
        meets 𝓛 of_parts 𝓣 (moving to from) (λ κs x f. refl) (λ z.
        let v : D (E H) = record { ptr = z.0.3.0.ptr; alloc = z.0.3.0.alloc; value = z.0.3.0.value } in
        let is = H.makes v.ptr v.alloc (Some v.value) in
        qed 𝓛 (‵ ((B (E H)).own_val v z.0.4.0) ∷ raw (emp 𝓤) ∷ []) ∵ keep ! (0 ∷ []) $
        by ! (moves 𝓣.C 𝓣.Λ v z.0.4.0 (Post 𝓛 of_parts z) (λ w.
        qed 𝓛 (‵ (owns_inside H (v.ptr, (v.alloc, Some v.value)) (w ∷ [])) ∷ []) ∵
        rewrite ! 0 (λ i. ‵ (owns_inside H i (w ∷ []))) (sym is) refl $
        by ! (ends 𝓛 of_parts z w (H.make v.ptr v.alloc (Some v.value)) (ap (λ i. i.1.1) is)))))

    pub meets_into_parts : Met 𝓛 into_parts 𝓣 (moving to from)
    meets_into_parts =
        meets 𝓛 into_parts 𝓣 (moving to from) (λ κs x f. refl) (λ z. let h = z.0.3.0 in
        qed 𝓛 (‵ ((HB H).own_val h z.0.4.0) ∷ raw (fact 𝓤 (IsSome (value H h))) ∷ []) ∵ move ! (1 ∷ []) $
        heard ! (IsSome (value H h)) (λ some.
        let x = (Some-inner H (value H h) some).0 in let is = (Some-inner H (value H h) some).1 in
        rewrite ! 0 (λ (o : Option (CR H).Denot). ‵ (owns_inside H (at H h, (alloc H h, o)) z.0.4.0)) is refl $
        by ! (moves 𝓣.C 𝓣.Λ (as_box H h x) z.0.4.0 (Post 𝓛 into_parts z) (λ w.
        ends 𝓛 into_parts z w (record { ptr = at H h; alloc = alloc H h; value = x }) (sym is)))))

-- ---- null and an allocator, that own nothing more
abbrev nothing_at : Val → Val
nothing_at hv = vstruct (of_list (vnull ∷ hv ∷ []))

module _ (H : Held) where
  -- the code of `none` as it is generated
  abbrev empty : Fn
  empty = record {
    lifetimes = 0;
    outlives = [];
    ty_params = [];
    givens = 0;
    params = 1;
    locals = local (layout (HB H)) value_local ∷ local (layout Heap.the_row) value_local ∷ [];
    body = seq (assign (place 0 []) (aggregate (int w64 0 ∷ copy (place 1 []) ∷ []))) return;
  }

  empty_typed : (hv : Val) → Fits (E H).al hv → T (has_ty (box_ty (E H)) (nothing_at hv)) × WT (nothing_at hv)
  empty_typed hv fa = (and_tt (has_ty (α (E H).al) hv) fa.0, (record { fits = lit< tt }, (fa.1, tt)))

  module _ {M : Type 1} {𝓤 : Ura M} (𝓛 : Logic 𝓤) (𝓣 : Tables 𝓤 𝓛.H) where
    abbrev none : Taking 𝓤
    none = record {
      from = Heap.the_row;
      to = HB H;
      asks = λ _. emp 𝓤;
      tells = λ _ r. value H r ≡ None;
      bound = λ _. tt;
    }

    pub meets_none : Met 𝓛 none 𝓣 empty
    meets_none =
        meets 𝓛 none 𝓣 empty (λ κs x f. refl) (λ z.
        let a = z.0.3.0 in let is = H.makes null_ptr a None in let Q = Post 𝓛 none z in
        qed 𝓛 (‵ (Heap.the_row.own_val a z.0.4.0) ∷ raw (emp 𝓤) ∷ []) ∵
        handle_tells (E H).al ! a z.0.4.0 (λ hv ea fa.
        let w = nothing_at hv in
        let Γ : List (Item 𝓤) = ‵ (Heap.the_row.own_val a (hv ∷ [])) ∷ raw (emp 𝓤) ∷ [] in
        by ! (subst (λ (us : List Val). ent 𝓤 (types.Kit.⋆ 𝓛 Γ) (WpFn 𝓤 𝓛.H 𝓣.C 𝓣.Λ empty (us ++ []) Q)) (sym ea)
        (qed 𝓛 Γ ∵ enter ! 𝓣.C 𝓣.Λ empty (hv ∷ []) _ $ alloc_all ! (λ ls. pass_all ! refl (fa, tt) $
        sets ! (agg ! (and_then ! (lit ! tt) (and_then ! (get ! refl) (no_more !)))) refl (empty_typed hv fa) $
        returns ! (look_at ! 0 refl) $ free_all ! refl $
        -- the fields, of which the allocator owns nothing, and nothing more
        nothing ! $ move ! (1 ∷ 0 ∷ []) $ fjoin ! $ feq_i ! (List Val) (vnull ∷ []) (vnull ∷ []) refl $ fjoin ! $
        feq_i ! (List Val) (w ∷ []) (w ∷ []) refl $ fjoin ! $
        fpack ! (Valss (RawPtr ∷ P (E H) ∷ [])) (within (shape (owning (E H))) (null_ptr, (a, tt)) (w ∷ []))
        (vnull ∷ [], (hv ∷ [], tt)) $ nothing ! $ move ! (1 ∷ 0 ∷ []) $ fjoin ! $
        use1 𝓛 (‵ (owns_inside H (null_ptr, (a, None)) (w ∷ []))) (id⊢ 𝓤 _) $ keep ! (0 ∷ []) $
        rewrite ! 0 (λ i. ‵ (owns_inside H i (w ∷ []))) (sym is) refl $
        by ! (ends 𝓛 none z w (H.make null_ptr a None) (ap (λ i. i.1.1) is)))))))
