-- The proofs of `none`, `shut` and `into_parts`, over the type that a handle keeps.
use Rattle.std.proofs.Common.{◌≡◌, List, [], ◌∷◌, ◌++◌, refl, sym, subst, true≢false}
use lib.Dec.{lit<}
use seplogic.Ra.Ura.{Ura}
use mir.Syntax.{Sym, Fn, Body, Callee, local, value_local, ty_ptr, ty_struct, tcons, tnil, seq, assign, return, place, field, copy, int, rv_opd, aggregate, w64}
use mir.Raw.{raw as bare}
use mir.Val.{Val, vptr, vint, vstruct, of_list, has_ty}
use base.Fml.{Fml, ftrue, fsep}
use base.Logic.{SProp, ent, emp, id⊢, never, fst∗}
use prog.Model.{Model}
use prog.Wp.{WpFn, Closed}
use types.Logic.{Logic, sem}
use types.Kit.{‵, raw, ◌⊛◌, ◌$◌, ◌∵◌, !, qed, by, move, keep, drop, split, fsplit, fjoin, fpick, fpack, suffices, use0, feq_i, feq_l, rewrite}
use types.Run.{stop, fld, of_opd, lit, no_more, and_then, returns, enter}
use types.ByLocal.{alloc_all, pass_all, free_all, look_at, get, get_in, sets}
use types.Part.{agg, sub, whole}
use contract.Monad.{fact, fact_i}
use contract.Notation.{Connectives, connectives}
use contract.Running.{Running, MachineTables, tables}
use denote.Builtin.{RawPtr}
use denote.Exit.{Last, yes, no}
use denote.Memory.{lone}
use denote.Param.{layout}
use denote.RattleType.{RattleType, Valss, owns}
use denote.RawPtr.{Ptr, block_ptr, null_ptr, ptr_val, in_a_block}
use denote.Signature.{types_at, plain}
use denote.Steps.{nothing, heard}
use denote.Struct.Struct.{Shape, Struct, within}
use denote.Triple.Clauses.{Ended, Clauses, closing}
use denote.Triple.Spec.{Meets}
use denote.Triple.Walked.{Stays, Silent, stay_dropped, Goes-dropped, walk_of}
use Rattle.core.proofs.alloc.Calls.{Goes-blank, handle_tells}
use Rattle.std.specs.Prelude.{IsSome}
use Rattle.std.specs.Box.Ownership.{box_owns}
use Rattle.std.specs.contracts.alloc.Global as Z
use Rattle.std.specs.contracts.impls.GlobalAllocator.TheImpl.{ghosts as g}
use Rattle.std.specs.declared.alloc.Global.{Global}
use Rattle.std.specs.declared.option.Option.{Option}
use Rattle.std.specs.declared.option.Option.TheVariants.{None, Some}
use Rattle.std.proofs.ResultValues.{and_tt}
use Rattle.std.proofs.alloc.Global.TheLaws.{the_row_laws as LZ}
use Rattle.std.proofs.raw_atomic.Walks.{proved_at, leaves}
use Rattle.box_parts.proofs.Values.{both, Loose, al, loose_good, loose_in, loose_out}
use Rattle.c_handles.specs.Held.{held}

there : {A : Type 0} (o : Option A) → IsSome o → (x : A) × (o ≡ Some x)
there (Some x) is = (x, refl)
there None is = absurd (true≢false (sym is))

-- R is what a handle keeps, and L the handle: `of` makes its value, and `at`, `alloc` and `kept`
-- read it.
module _ (R L : RattleType) (name : Sym) (of : Ptr → Global → Option R.Denot → L.Denot)
    (at : L.Denot → Ptr) (alloc : L.Denot → Global) (kept : L.Denot → Option R.Denot) where
  abbrev P : RattleType
  P = Loose R Z.the_row LZ g

  abbrev the_shape : Shape
  the_shape = record { name = name; args = []; types = []; fields = RawPtr ∷ Z.the_row ∷ [] }

  abbrev pub Own : Ptr → Global → Option R.Denot → List Val → Fml
  Own p a o vs = fsep ((Struct the_shape).own_val (p, (a, tt)) vs) (held R a p o)

  abbrev to_none : Ended
  to_none = record { signature = record { lifetimes = 0; outlives = []; params = plain (λ κs. Z.the_row) ∷ []; result = plain (λ κs. L) }; kept = (yes, tt) }

  abbrev to_shut : Ended
  to_shut = record { signature = record { lifetimes = 0; outlives = []; params = plain (λ κs. P) ∷ []; result = plain (λ κs. L) }; kept = (no, tt) }

  abbrev to_parts : Ended
  to_parts = record { signature = record { lifetimes = 0; outlives = []; params = plain (λ κs. L) ∷ []; result = plain (λ κs. P) }; kept = (yes, tt) }

  abbrev none_fn : Fn
  none_fn = record {
    lifetimes = 0;
    outlives = [];
    ty_params = [];
    givens = 0;
    params = 1;
    locals = local (ty_struct name (tcons ty_ptr (tcons (layout Z.the_row) tnil))) value_local ∷ local (layout Z.the_row) value_local ∷ [];
    body = seq (assign (place 0 []) (aggregate (int w64 0 ∷ copy (place 1 []) ∷ []))) return;
  }

  abbrev body : Body
  body = seq (assign (place 2 []) (rv_opd (copy (place 1 (field 0 ∷ []))))) (seq (assign (place 3 []) (rv_opd (copy (place 1 (field 1 ∷ [])))))
      (seq (assign (place 4 []) (rv_opd (copy (place 2 [])))) (seq (assign (place 0 []) (aggregate (copy (place 4 []) ∷ copy (place 3 []) ∷ []))) return)))

  abbrev shut_fn : Fn
  shut_fn = record {
    lifetimes = 0;
    outlives = [];
    ty_params = [];
    givens = 0;
    params = 1;
    locals = local (ty_struct name (tcons ty_ptr (tcons (layout Z.the_row) tnil))) value_local ∷ local (layout P) value_local ∷ local ty_ptr value_local ∷ local (layout Z.the_row) value_local ∷ local ty_ptr value_local ∷ [];
    body = body;
  }

  abbrev parts_fn : Fn
  parts_fn = record {
    lifetimes = 0;
    outlives = [];
    ty_params = [];
    givens = 0;
    params = 1;
    locals = local (layout P) value_local ∷ local (ty_struct name (tcons ty_ptr (tcons (layout Z.the_row) tnil))) value_local ∷ local ty_ptr value_local ∷ local (layout Z.the_row) value_local ∷ local ty_ptr value_local ∷ [];
    body = body;
  }

  -- `made` and `keeps` are `refl` at each handle, and so are the premises of `parts`.
  module _ (made : (p : Ptr) (a : Global) (o : Option R.Denot) (vs : List Val) → Own p a o vs ≡ L.own_val (of p a o) vs)
      (keeps : (p : Ptr) (a : Global) (o : Option R.Denot) → kept (of p a o) ≡ o)
      {M : Type 1} (𝓤 : Ura M) (𝓛 : Logic 𝓤) (𝓜 : Model 𝓤 𝓛.H) (𝓡 : Running 𝓤 𝓛.H 𝓜) (k : Callee) where
    abbrev 𝓣 : MachineTables 𝓤 𝓛.H 𝓜
    𝓣 = tables 𝓤 𝓛.H 𝓜 𝓡 𝓡.env

    abbrev 𝓝 : Connectives 𝓤
    𝓝 = connectives 𝓤

    open 𝓝 use {⌜◌⌝, ⊤ₛ}

    abbrev none_clauses : Clauses 𝓤 to_none
    none_clauses = λ κs ins. record { ghost = Unit {0}; requires = λ _. ⊤ₛ; ensures = λ _ r _. ⌜◌⌝ (kept r ≡ None) }

    abbrev shut_clauses : Clauses 𝓤 to_shut
    shut_clauses = λ κs ins. record { ghost = Unit {0}; requires = λ _. ⊤ₛ; ensures = λ _ r _. ⌜◌⌝ (kept r ≡ Some ins.0.value) }

    abbrev parts_clauses : Clauses 𝓤 to_parts
    parts_clauses = λ κs ins. record { ghost = Unit {0}; requires = λ _. ⌜◌⌝ (IsSome (kept ins.0)); ensures = λ _ r _. ⌜◌⌝ (Some r.value ≡ kept ins.0) }

    -- `none` owns nothing.
    pub nones : Closed 𝓤 𝓛.H 𝓣.C 𝓣.Λ k none_fn → Meets 𝓛 to_none.signature (𝓣.C k) (closing 𝓛 to_none none_clauses)
    nones closed =
        let H = 𝓛.H in let c = none_clauses in let fn = none_fn in
        let hs : Stays to_none.signature.params to_none.kept = (stay_dropped (plain (λ _. Z.the_row)) yes, tt) in
        proved_at 𝓛 to_none hs c 𝓜 𝓡 (Goes-dropped 𝓛 0 (plain (λ _. Z.the_row)) yes (λ κs x w. refl), tt) k fn closed (λ z are.
        let a = z.0.3.0 in let Post : Val → SProp 𝓤 = (walk_of 𝓛 to_none hs c).post z in let Run : List Val → SProp 𝓤 = λ ws. WpFn 𝓤 H 𝓣.C 𝓣.Λ fn ws Post in
        let asked = raw ((c z.0.0 z.0.3).requires z.1) in
        qed 𝓛 ((‵ ftrue ⊛ ‵ (owns (types_at to_none.signature.params z.0.0) z.0.3 z.0.4)) ∷ asked ∷ []) ∵ split ! $ move ! (1 ∷ []) $ fsplit ! $ handle_tells (al R Z.the_row LZ g) ! a z.0.4.0 (λ h ws fits.
        let n : Val = vint w64 0 in let w : Val = both n h in
        suffices ! (Run (h ∷ [])) (subst (λ (us : List Val). ent 𝓤 (Run (h ∷ [])) (Run us)) (sym (λ i. ws i ++ [])) (id⊢ 𝓤 (Run (h ∷ [])))) $
        enter ! 𝓣.C 𝓣.Λ fn (h ∷ []) Post $ alloc_all ! (λ l. pass_all ! refl (fits, tt) $
        sets ! (agg ! (and_then ! (lit ! tt) (and_then ! (get ! refl) (no_more !)))) refl (and_tt (has_ty (layout Z.the_row) h) fits.0, (record { fits = lit< tt }, (fits.1, tt))) $
        -- [the handle; nothing; nothing; nothing; the locals]
        nothing ! $ nothing ! $ move ! (2 ∷ 0 ∷ []) $ fjoin ! $ feq_i ! (List Val) (n ∷ []) (n ∷ []) refl $ fjoin ! $ feq_i ! (List Val) (w ∷ []) (w ∷ []) refl $ fjoin ! $
        fpack ! (Valss (RawPtr ∷ Z.the_row ∷ [])) (within the_shape (null_ptr, (a, tt)) (w ∷ [])) (n ∷ [], (h ∷ [], tt)) $ fjoin ! $
        rewrite ! 0 (λ (F : Fml). ‵ F) (made null_ptr a None (w ∷ [])) refl $
        use0 𝓛 (raw (fact 𝓤 (kept (of null_ptr a None) ≡ None))) (fact_i 𝓤 (kept (of null_ptr a None) ≡ None) (emp 𝓤) (keeps null_ptr a None)) $ nothing ! $ nothing ! $ fjoin ! $
        returns ! (look_at ! 0 refl) $ free_all ! refl $ keep ! (4 ∷ 0 ∷ 2 ∷ 1 ∷ []) $ by ! (leaves 𝓛 to_none hs c z w (of null_ptr a None) (tt, tt) (tt, tt)))))

    -- `shut` keeps the pointer and forgets its type.
    pub shuts : Closed 𝓤 𝓛.H 𝓣.C 𝓣.Λ k shut_fn → Meets 𝓛 to_shut.signature (𝓣.C k) (closing 𝓛 to_shut shut_clauses)
    shuts closed =
        let H = 𝓛.H in let c = shut_clauses in let fn = shut_fn in
        let hs : Stays to_shut.signature.params to_shut.kept = (stay_dropped (plain (λ _. P)) no, tt) in
        proved_at 𝓛 to_shut hs c 𝓜 𝓡 (Goes-blank 𝓛 0 (plain (λ _. P)) no (λ κs x f. tt), tt) k fn closed (λ z are.
        let v = z.0.3.0 in let a = v.alloc in let Post : Val → SProp 𝓤 = (walk_of 𝓛 to_shut hs c).post z in let Run : List Val → SProp 𝓤 = λ ws. WpFn 𝓤 H 𝓣.C 𝓣.Λ fn ws Post in
        let asked = raw ((c z.0.0 z.0.3).requires z.1) in
        qed 𝓛 ((‵ ftrue ⊛ ‵ (owns (types_at to_shut.signature.params z.0.0) z.0.3 z.0.4)) ∷ asked ∷ []) ∵ split ! $ move ! (1 ∷ []) $ fsplit ! $ loose_out R Z.the_row LZ g ! v z.0.4.0 (λ b o h e ws fits.
        let w : Val = both (vptr b o) h in let typed = loose_good R Z.the_row LZ g b o h fits in let p = block_ptr b o in
        suffices ! (Run (w ∷ [])) (subst (λ (us : List Val). ent 𝓤 (Run (w ∷ [])) (Run us)) (sym (λ i. ws i ++ [])) (id⊢ 𝓤 (Run (w ∷ [])))) $
        enter ! 𝓣.C 𝓣.Λ fn (w ∷ []) Post $ alloc_all ! (λ l. pass_all ! refl (typed, tt) $
        sets ! (of_opd ! (get_in ! (fld ! refl (stop !)) (sub ! 0 refl (whole !)))) refl (tt, tt) $ sets ! (of_opd ! (get_in ! (fld ! refl (stop !)) (sub ! 1 refl (whole !)))) refl fits $
        sets ! (of_opd ! (get ! refl)) refl (tt, tt) $ sets ! (agg ! (and_then ! (get ! refl) (and_then ! (get ! refl) (no_more !)))) refl typed $
        -- [the box; the handle; nothing; nothing; nothing; the locals]
        nothing ! $ move ! (2 ∷ 0 ∷ []) $ fjoin ! $ feq_i ! (List Val) (vptr b o ∷ []) (vptr b o ∷ []) refl $ fjoin ! $ feq_i ! (List Val) (w ∷ []) (w ∷ []) refl $ fjoin ! $
        fpack ! (Valss (RawPtr ∷ Z.the_row ∷ [])) (within the_shape (p, (a, tt)) (w ∷ [])) (vptr b o ∷ [], (h ∷ [], tt)) $ fjoin ! $
        rewrite ! 0 (λ (F : Fml). ‵ F) (made p a (Some v.value) (w ∷ [])) refl $
        use0 𝓛 (raw (fact 𝓤 (kept (of p a (Some v.value)) ≡ Some v.value))) (fact_i 𝓤 (kept (of p a (Some v.value)) ≡ Some v.value) (emp 𝓤) (keeps p a (Some v.value))) $ nothing ! $ nothing ! $ fjoin ! $
        returns ! (look_at ! 0 refl) $ free_all ! refl $ keep ! (4 ∷ 0 ∷ 2 ∷ 1 ∷ []) $ by ! (leaves 𝓛 to_shut hs c z w (of p a (Some v.value)) (tt, tt) (tt, tt)))))

    -- `into_parts` gives the pointer its type again.
    pub parts : ((d : L.Denot) (vs : List Val) → L.own_val d vs ≡ Own (at d) (alloc d) (kept d) vs) → Silent 𝓛 0 (plain (λ _. L)) yes → ((d : L.Denot) → Last (L.exit yes) d)
        → Closed 𝓤 𝓛.H 𝓣.C 𝓣.Λ k parts_fn → Meets 𝓛 to_parts.signature (𝓣.C k) (closing 𝓛 to_parts parts_clauses)
    parts opens silent last closed =
        let H = 𝓛.H in let c = parts_clauses in let fn = parts_fn in
        let hs : Stays to_parts.signature.params to_parts.kept = (stay_dropped (plain (λ _. L)) yes, tt) in
        proved_at 𝓛 to_parts hs c 𝓜 𝓡 (Goes-dropped 𝓛 0 (plain (λ _. L)) yes silent, tt) k fn closed (λ z are.
        let d = z.0.3.0 in let a = alloc d in let Post : Val → SProp 𝓤 = (walk_of 𝓛 to_parts hs c).post z in let Run : List Val → SProp 𝓤 = λ ws. WpFn 𝓤 H 𝓣.C 𝓣.Λ fn ws Post in
        qed 𝓛 ((‵ ftrue ⊛ ‵ (owns (types_at to_parts.signature.params z.0.0) z.0.3 z.0.4)) ∷ raw (fact 𝓤 (IsSome (kept d))) ∷ []) ∵ move ! (1 ∷ []) $ heard ! (IsSome (kept d)) (λ is.
        let x = (there (kept d) is).0 in let ex = (there (kept d) is).1 in let vs = z.0.4.0 in
        split ! $ move ! (1 ∷ []) $ fsplit ! $ rewrite ! 0 (λ (F : Fml). ‵ F) (opens d vs) refl $
        fsplit ! $ fpick ! (λ vss. fsplit ! $ feq_l ! (λ ev. fsplit ! $ feq_l ! (λ ep. fsplit ! $ handle_tells (al R Z.the_row LZ g) ! a vss.1.0 (λ h ea fits. move ! (1 ∷ []) $ drop ! $ move ! (1 ∷ []) $
        rewrite ! 0 (λ (o : Option R.Denot). ‵ (held R a (at d) o)) ex refl $
        in_a_block ! (at d) (λ p. box_owns (g.dealloc_token a) R p x) (fst∗ 𝓤 (never 𝓤) (sem 𝓛 (g.dealloc_token a (bare (lone R.mir)) null_ptr))) (λ b o e.
        let ws : vs ≡ both (vptr b o) h ∷ [] = subst (λ (p : Ptr). vs ≡ vstruct (of_list (ptr_val p ∷ h ∷ [])) ∷ []) e
        (subst (λ (ws : List Val). vs ≡ vstruct (of_list (ptr_val (at d) ∷ (ws ++ []))) ∷ []) ea (subst (λ (ps : List Val). vs ≡ vstruct (of_list (ps ++ (vss.1.0 ++ []))) ∷ []) ep ev)) in
        let w : Val = both (vptr b o) h in let typed = loose_good R Z.the_row LZ g b o h fits in
        suffices ! (Run (w ∷ [])) (subst (λ (us : List Val). ent 𝓤 (Run (w ∷ [])) (Run us)) (sym (λ i. ws i ++ [])) (id⊢ 𝓤 (Run (w ∷ [])))) $
        enter ! 𝓣.C 𝓣.Λ fn (w ∷ []) Post $ alloc_all ! (λ l. pass_all ! refl (typed, tt) $
        sets ! (of_opd ! (get_in ! (fld ! refl (stop !)) (sub ! 0 refl (whole !)))) refl (tt, tt) $ sets ! (of_opd ! (get_in ! (fld ! refl (stop !)) (sub ! 1 refl (whole !)))) refl fits $
        sets ! (of_opd ! (get ! refl)) refl (tt, tt) $ sets ! (agg ! (and_then ! (get ! refl) (and_then ! (get ! refl) (no_more !)))) refl typed $
        -- [the box; the handle; nothing; nothing; the locals]
        loose_in R Z.the_row LZ g ! b o h a x $
        use0 𝓛 (raw (fact 𝓤 (Some x ≡ kept d))) (fact_i 𝓤 (Some x ≡ kept d) (emp 𝓤) (sym ex)) $ nothing ! $ nothing ! $ fjoin ! $
        returns ! (look_at ! 0 refl) $ free_all ! refl $ keep ! (4 ∷ 0 ∷ 2 ∷ 1 ∷ []) $ by ! (leaves 𝓛 to_parts hs c z w (record { at = block_ptr b o; alloc = a; value = x }) (last d, tt) (tt, tt))))))))))
