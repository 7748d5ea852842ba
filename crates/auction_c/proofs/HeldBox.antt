-- A box that C holds, at the type of its value, under short names: what the proofs of such boxes share. A function that
-- C calls takes no struct with a type parameter, so each value has a struct of its own.
--     Held             the value's row with its laws, and the struct: its name, its data, and what makes one
--     E, CR, HB        the `Box` at the same types, the value and the struct as rows.        Parted   the parts of one
--     at, alloc, value the struct's fields.        as_box       the `Box` of what is held
--     owns_inside      what such a struct owns.        after_lending      it, once its value was lent
--     by_code          a function meets its contract where its code does
use mathlib.Core.Path.{◌≡◌, refl}
use mathlib.Core.List.{List, [], ◌∷◌}
use seplogic.Ra.Ura.{Ura}
use mir.Syntax.{Fn, Sym, impl, tnil, dnil}
use mir.Val.{Val}
use base.Fml.{Fml, Lft, fsep}
use base.Stored.{Coded}
use Prim.Native.Nat.{ℕ}
use contract.Running.{Running, tables, tables_of}
use prog.Model.{Model}
use prog.Routine.{Callee}
use prog.Wp.{Closed, Tables, WpFn}
use types.Logic.{Logic}
use denote.Exit.{hidden, under}
use denote.Param.{layout}
use denote.Param.Laws.{Laws}
use denote.RattleType.{RattleType}
use denote.RawPtr.{Ptr}
use denote.Signature.{Signature}
use denote.Struct.Field.{Field, RawPtr-field, rows}
use denote.Struct.Owning.{Owning, row}
use denote.Struct.Struct.{Struct, exits_of}
use denote.Struct.Values.{intos}
use denote.Triple.Spec.{Meets, Spec, triple_of}
use denote.Triple.Table.{entered}
use Rattle.std.specs.Global.{Global}
use Rattle.std.specs.Prelude.{Option, Some, None, IsSome}
use Rattle.std_alloc.proofs.BoxSteps.Form.{Bx, D}
use Rattle.std_heap.specs.contracts.Global as Heap
use Rattle.std_heap.specs.contracts.GlobalAllocator.TheImpl.{ghosts, dict}
use Rattle.std_heap.proofs.Global.TheLaws as heap
use Rattle.auction_c.specs.HeapBox.{optional_box_owns}
use Rattle.auction_c.specs.contracts.auction_box.parts.Parts as Parts

pub record Held : Type 2 where
  pub of : RattleType
  pub laws : Laws of
  pub name : Sym
  pub Boxed : Type 0
  pub inside : Boxed → Ptr × (Global × Option of.Denot)
  pub make : Ptr → Global → Option of.Denot → Boxed
  pub makes : (p : Ptr) (a : Global) (o : Option of.Denot) → inside (make p a o) ≡ (p, (a, o))
  pub coded : Coded Boxed
  pub shr_at : Boxed → ℕ → ℕ → Lft → Fml

abbrev fields : List Field
fields = RawPtr-field ∷ Heap.the_field ∷ []

module _ (H : Held) where
  abbrev pub E : Bx
  E = record {
    row = H.of;
    laws = H.laws;
    al =
        record { row = Heap.the_row; laws = heap.the_row_laws; g = ghosts; d = dict; drops = impl [] tnil dnil };
  }

  -- the value's row, of one machine value
  abbrev pub CR : RattleType
  CR = record {
    Denot = H.of.Denot;
    mir = layout H.of ∷ [];
    written = H.of.written;
    reaches = H.of.reaches;
    lives = H.of.lives;
    own_val = H.of.own_val;
    exit = H.of.exit;
    coded = H.of.coded;
    shr_at = H.of.shr_at;
  }

  abbrev pub at : H.Boxed → Ptr
  at h = (H.inside h).0

  abbrev pub alloc : H.Boxed → Global
  alloc h = (H.inside h).1.0

  abbrev pub value : H.Boxed → Option CR.Denot
  value h = (H.inside h).1.1

  abbrev pub the_type : Owning
  the_type = record {
    name = H.name;
    args = [];
    types = [];
    parts = fields;
    D = H.Boxed;
    as_values = λ h. (at h, (alloc h, tt));
    coded = H.coded;
    heap = λ h. optional_box_owns CR (alloc h) (at h) (value h);
    exit = λ k. hidden (under (λ h. intos fields (at h, (alloc h, tt))) (exits_of k (rows fields)));
    shr_at = H.shr_at;
  }

  abbrev pub HB : RattleType
  HB = row the_type

  abbrev pub Parted : RattleType
  Parted = Parts.the_row CR Heap.the_row ghosts

  -- the box of what is held
  abbrev pub as_box : H.Boxed → CR.Denot → D E
  as_box h v = record { ptr = at h; alloc = alloc h; value = v }

  -- h once its value was lent, and is w
  abbrev pub after_lending : H.Boxed → CR.Denot → H.Boxed
  after_lending h w = H.make (at h) (alloc h) (Some w)

  -- what a struct with these inside owns
  abbrev pub owns_inside : Ptr × (Global × Option CR.Denot) → List Val → Fml
  owns_inside i vs =
      fsep ((Struct (record { name = H.name; args = []; types = []; fields = rows fields })).own_val
      (intos fields (i.0, (i.1.0, tt))) vs) (optional_box_owns CR i.1.0 i.0 i.1.1)

  pub Some-inner : (o : Option CR.Denot) → IsSome o → (v : CR.Denot) × (o ≡ Some v)
  Some-inner None s = absurd (cc)
  Some-inner (Some v) s = (v, refl)

module _ {M : Type 1} {𝓤 : Ura M} (𝓛 : Logic 𝓤) (𝓜 : Model 𝓤 𝓛.H) (𝓡 : Running 𝓤 𝓛.H 𝓜) (S : Signature)
    (c : Spec 𝓤 S) (name : Callee) (code : Fn) where
  pub by_code : Closed 𝓤 𝓛.H (tables 𝓤 𝓛.H 𝓜 𝓡 𝓡.env).C (tables 𝓤 𝓛.H 𝓜 𝓡 𝓡.env).Λ name code
      → ((𝓣 : Tables 𝓤 𝓛.H) → Meets 𝓛 S (WpFn 𝓤 𝓛.H 𝓣.C 𝓣.Λ code) c) → Meets 𝓛 S (𝓡.run (𝓡.env name)) c
  unfolding tables_of
  by_code closed meets =
      let 𝓣 : Tables 𝓤 𝓛.H = tables_of 𝓤 𝓛.H 𝓜 (tables 𝓤 𝓛.H 𝓜 𝓡 𝓡.env) in
      entered 𝓤 𝓛.H (triple_of 𝓛 S c) 𝓣.C 𝓣.Λ name code closed (meets 𝓣)
