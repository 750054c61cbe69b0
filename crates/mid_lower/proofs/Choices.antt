-- Conditions, choices and assignments: mid code follows them.
use Rattle.std.proofs.Common.{◌≡◌, ℕ, zero, suc, ◌+◌, ◌<◌, ◌≤◌, Bool, true, false, not, ◌==◌, ◌||◌, eqb, Some, Ok, Err, refl, sym, ap, ◌∙◌, subst, arith, if◌then◌else◌}
use Rattle.c_tree.specs.declared.span.Span.{Span}
use Rattle.c_types.specs.Types.{Ty, VoidY, IntY, BoolY, EnumY, StructY, UnionY, PointerY, ArrayY}
use Rattle.c_types.specs.Typed.{TExprT}
use Rattle.v32_isa.specs.declared.instruction.Two.TheVariants.{INE}
use Rattle.obj_mem.specs.declared.cell.Cell.{Cell}
use Rattle.obj_mem.specs.declared.cell.Cell.TheVariants.{Unwritten, Num, Ptr, Null}
use Rattle.obj_mem.specs.declared.refusal.Refusal.TheVariants.{Strays, Faults}
use Rattle.obj_mem.specs.Stores.{with_objects}
use Rattle.obj_mem.specs.Worlds.{World, on_store, spend}
use Rattle.obj_mem.specs.Queries.{Answer, then_ask, word_of, truth, write, equal_pointers}
use Rattle.c_meaning.specs.declared.end.End.{End}
use Rattle.c_meaning.specs.declared.end.End.TheVariants.{Stray}
use Rattle.c_meaning.specs.Kinds.{type_of, span_of}
use Rattle.c_types.specs.Kinds.{decayed, is_structure, is_pointer}
use Rattle.c_meaning.specs.Outcomes.{Val, Value, Stops, CutOff, Through, asked, then_went, either_way}
use Rattle.c_meaning.specs.Operators.{is_true}
use Rattle.c_meaning.specs.Cells.{stored, cells_set}
use Rattle.c_meaning.specs.Expressions.{tested, assigned, evaluated}
use Rattle.mid_code.specs.Code.{NullO, PtrTestO, StoreO, NodesT, Do, Choose}
use Rattle.mid_code.specs.Meaning.{Res, then_next, choose}
use Rattle.mid_code.specs.States.{pointers_tested, word_tested}
use Rattle.lower_trees.specs.Shape.{Shape, shape_in, words}
use Rattle.lower_trees.specs.Flags.{is_flag, tests_flag}
use Rattle.lower_trees.specs.Parts as part
use Rattle.lower_trees.specs.Pieces.{coded}
use Rattle.lower_trees.specs.Expressions.{low, test}
use Rattle.mid_lower.proofs.Grows.{Mid, Grows}
use Rattle.mid_lower.proofs.Under.{then_both, equal_both}
use Rattle.mid_lower.proofs.Words.{is_word}
use Rattle.mid_lower.proofs.Flagged.{IsFlag, bool_flag, FlagAnswer, then_flag}
use Rattle.mid_lower.proofs.Fits.{Site}
use Rattle.lower_trees.specs.Counts.{value_sizes}
use Rattle.mid_lower.proofs.Room.{Room}
use Rattle.mid_lower.proofs.Following.{Side, mk, Goal, Now, Kept, Way, Free, Before, Rest, scratch, paid, spare, now_work, low_free, eqb_more, M, M_grows, op_of, sets}
use Rattle.mid_lower.proofs.Instructions.{from_eq, tested_eq}
use Rattle.mid_lower.proofs.Values.{Follow, uses}
use Rattle.mid_lower.proofs.Storing.{converts, stores, went_asked}

not_zero : (i : ℕ) → not (suc i == 0) ≡ true
not_zero i = ap not (eqb_more (suc i) 0 (omega arith))

or_false : (b : Bool) → b || false ≡ true → b ≡ true
or_false true e = e
or_false false e = e

not_flag : (q : Answer Bool) → FlagAnswer (then_ask q (λ b. Ok (truth (not b))))
not_flag q = then_flag q (λ b. Ok (truth (not b))) (λ b. bool_flag (not b))

answered_flag : (q : Answer Cell) (z : Cell) → FlagAnswer q → q ≡ Ok z → IsFlag z
answered_flag q z f e = subst FlagAnswer e f

module _ (S : Site) where
  abbrev R : NodesT ℕ → Mid → Res Mid
  R = M S

  abbrev R_grows : (c : NodesT ℕ) (t : Mid) → Grows t (R c t)
  R_grows = M_grows S

  abbrev h : Shape
  h = shape_in S.s

  -- what follows a word in t that is a condition
  abbrev pub Tests : (γ : Goal) (σ : Way γ) → (s0 t n : ℕ) → Side → NodesT ℕ → (flag : Bool) → (go last : World → σ.R) → Type 0
  Tests γ σ s0 t n x c flag go last = (i : ℕ) (w : World) (y : Side) → (flag ≡ true → IsFlag (Num i)) → Now γ s0 w y → y.temps t ≡ Num i → Before t n x y → σ.T (either_way (not (i == 0)) w go last) (R c (mk w y))

  module _ (γ : Goal) (σ : Way γ) (span : Span) (t n : ℕ) (c : NodesT ℕ) (x0 : Side) (go last : World → σ.R) (st : scratch ≤ t) where
    test_word : (s0 : ℕ) (flag : Bool) (w : World) (x : Side) (v : Cell) → (flag ≡ true → IsFlag v) → Now γ s0 w x → x.temps t ≡ v → Before t n x0 x → Tests γ σ s0 t n x0 c flag go last → σ.T (asked σ.stop span w (then_ask (word_of v) (λ i. Ok (not (i == 0)))) (λ b. either_way b w go last)) (R c (mk w x))
    test_word s0 flag w x Unwritten k h0 e below f = σ.stops (Stray span) w (R c (mk w x)) (R_grows c (mk w x))
    test_word s0 flag w x (Ptr o i) k h0 e below f = σ.stops (Stray span) w (R c (mk w x)) (R_grows c (mk w x))
    test_word s0 flag w x Null k h0 e below f = σ.stops (Stray span) w (R c (mk w x)) (R_grows c (mk w x))
    test_word s0 flag w x (Num i) k h0 e below f = f i w x k h0 e below

    not_null : (w : World) (q : Answer Bool) → asked σ.stop span w (then_ask q (λ b. Ok (not b))) (λ b. either_way b w go last) ≡ asked σ.stop span w (then_ask q (λ b. Ok (truth (not b)))) (λ z. asked σ.stop span w (then_ask (word_of z) (λ i. Ok (not (i == 0)))) (λ b. either_way b w go last))
    not_null w (Ok b) = ap (λ z. either_way z w go last) (sym (is_word (not b)))
    not_null w (Err Strays) = refl
    not_null w (Err (Faults k)) = refl

    pub test_as : (s0 : ℕ) (flag : Bool) (w : World) (x : Side) (ty : Ty) (v : Cell) → (flag ≡ true → IsFlag v) → Now γ (s0 + 16) w x → Free γ t → x.temps t ≡ v → Before t n x0 x → Tests γ σ s0 t n x0 c (flag || is_pointer ty) go last → σ.T (asked σ.stop span w (is_true w.store.objects ty v) (λ b. either_way b w go last)) (R (coded (part.tested_as ty t) c) (mk w x))
    test_as s0 flag w x (PointerY of) v k h0 free e below f =
        let q : Answer Cell = then_ask (equal_pointers w.store.objects v Null) (λ b. Ok (truth (not b))) in
        subst (λ r. σ.T r (R (coded (part.tested_as (PointerY of) t) c) (mk w x))) (sym (not_null w (equal_pointers w.store.objects v Null)))
        (sets S σ.T γ (s0 + 8) w x part.other Null (NullO part.other) (Do (PtrTestO INE t t part.other) c) (spare γ (s0 + 16) (s0 + 8 + 8) w x (omega arith) h0) (low_free γ part.other (omega arith)) refl
        (asked σ.stop span w q (λ z. asked σ.stop span w (then_ask (word_of z) (λ i. Ok (not (i == 0)))) (λ b. either_way b w go last))) (λ y hy at rest.
        op_of S γ σ s0 span w y t q (pointers_tested INE y.objs (y.temps t) (y.temps part.other)) (PtrTestO INE t t part.other) c hy free
        (from_eq q (pointers_tested INE y.objs v Null) (pointers_tested INE y.objs (y.temps t) (y.temps part.other)) (tested_eq INE y.objs v Null (y.temps t) (y.temps part.other) (rest t (eqb_more t part.other (omega (arith, st))) ∙ e) at) (then_both (equal_pointers w.store.objects v Null) (equal_pointers y.objs v Null) _ _ (equal_both w.store.objects y.objs v Null hy.stays.fit.under) (λ z. refl))) refl
        (λ z. asked σ.stop span w (then_ask (word_of z) (λ i. Ok (not (i == 0)))) (λ b. either_way b w go last))
        (λ z qz u hu at2 rest2. test_word s0 (flag || true) w u z (λ fl. answered_flag q z (not_flag (equal_pointers w.store.objects v Null)) qz) hu at2 (λ j a b ne. rest2 j ne ∙ rest j (eqb_more j part.other (omega (arith, a))) ∙ below j a b ne) f)))
    test_as s0 flag w x VoidY v k h0 free e below f = test_word s0 (flag || false) w x v (λ fl. k (or_false flag fl)) (spare γ (s0 + 16) s0 w x (omega arith) h0) e below f
    test_as s0 flag w x IntY v k h0 free e below f = test_word s0 (flag || false) w x v (λ fl. k (or_false flag fl)) (spare γ (s0 + 16) s0 w x (omega arith) h0) e below f
    test_as s0 flag w x BoolY v k h0 free e below f = test_word s0 (flag || false) w x v (λ fl. k (or_false flag fl)) (spare γ (s0 + 16) s0 w x (omega arith) h0) e below f
    test_as s0 flag w x (EnumY i) v k h0 free e below f = test_word s0 (flag || false) w x v (λ fl. k (or_false flag fl)) (spare γ (s0 + 16) s0 w x (omega arith) h0) e below f
    test_as s0 flag w x (StructY i) v k h0 free e below f = test_word s0 (flag || false) w x v (λ fl. k (or_false flag fl)) (spare γ (s0 + 16) s0 w x (omega arith) h0) e below f
    test_as s0 flag w x (UnionY i) v k h0 free e below f = test_word s0 (flag || false) w x v (λ fl. k (or_false flag fl)) (spare γ (s0 + 16) s0 w x (omega arith) h0) e below f
    test_as s0 flag w x (ArrayY of i) v k h0 free e below f = test_word s0 (flag || false) w x v (λ fl. k (or_false flag fl)) (spare γ (s0 + 16) s0 w x (omega arith) h0) e below f

  -- a condition
  pub tests : (γ : Goal) (σ : Way γ) (s0 t n m : ℕ) (w : World) (x : Side) (c : NodesT ℕ) → Now γ s0 w x → Free γ t → γ.first ≤ n → scratch ≤ t → t < n → (e : TExprT) → is_structure (type_of e) ≡ false → Room S γ.base m (value_sizes (shape_in S.s) e) → (go last : World → σ.R) → Follow S e → Tests γ σ (s0 + 12) t n x c (tests_flag e) go last
      → σ.T (tested σ.stop S.s S.bound e (evaluated S.s S.bound S.prev e w) go last) (R (coded (test h e (low h e) t n m) c) (mk w x))
  tests γ σ s0 t n m w x c h0 free le st tn e ns room go last sim f =
      uses S γ σ s0 t n m w x (coded (part.tested_as (decayed (type_of e)) t) c) h0 free le st tn e ns room (λ v u. asked σ.stop (span_of e) u (is_true u.store.objects (decayed (type_of e)) v) (λ b. either_way b u go last)) sim
      (λ v wa xa flag ha at below. test_as γ σ (span_of e) t n c x go last st (s0 + 12) (is_flag e) wa xa (decayed (type_of e)) v flag (spare γ (s0 + 28) (s0 + 12 + 16) wa xa (omega arith) ha) free at below f)

  -- a choice by a word
  pub chooses : {A : Type 0} (T : A → Res Mid → Type 0) (w : World) (x : Side) (p i : ℕ) (a b c : NodesT ℕ) (go last : World → A) → x.temps p ≡ Num i → T (go w) (then_next (R a (mk w (paid x))) (R c)) → T (last w) (then_next (R b (mk w (paid x))) (R c)) → T (either_way (not (i == 0)) w go last) (R (Choose p a b c) (mk w x))
  chooses T w x p zero a b c go last e f g = subst (T (last w)) (sym (ap (λ v. then_next (choose (word_tested v) (mk w (paid x)) (R a) (R b)) (R c)) e)) g
  chooses T w x p (suc i) a b c go last e f g =
      subst (λ z. T (either_way z w go last) (R (Choose p a b c) (mk w x))) (sym (not_zero i))
      (subst (T (go w)) (sym (ap (λ v. then_next (choose (word_tested v) (mk w (paid x)) (R a) (R b)) (R c)) e)) f)

  -- ---- assignments

  nothing_spent : (γ : Goal) (s0 : ℕ) (w : World) (x : Side) → Now γ s0 w x → Now γ s0 (spend 0 w) x
  nothing_spent γ s0 w x h0 = now_work γ s0 s0 w (spend 0 w) x x.work refl (omega (arith, h0.cost)) h0

  -- the value in a is converted to the type of the place in p, and stored there
  pub assigns : (γ : Goal) (T : Val → Res Mid → Type 0) (stops : (f : End) (w : World) (m : Res Mid) → Kept γ f w m → T (Stops f w) m) (s0 : ℕ) (span : Span) (w : World) (x : Side) (e : TExprT) (known : Bool) (p a : ℕ) (vp v : Cell) (c : NodesT ℕ) → is_structure (type_of e) ≡ false → Now γ (s0 + 16) w x → Free γ a → eqb p a ≡ false → x.temps p ≡ vp → x.temps a ≡ v → (known ≡ true → IsFlag v)
      → ((z : Cell) (u : World) (y : Side) → Now γ s0 u y → y.temps a ≡ z → Rest a x y → T (Value z u) (R c (mk u y)))
      → T (assigned S.s S.bound e span vp v w) (R (coded (part.converted (type_of e) known a) (Do (StoreO p a) c)) (mk w x))
  assigns γ T stops s0 span w x e known p a vp v c ns h0 free ne ep ev flag f =
      let σ : Way γ = record { R = Val; stop = Stops; T = T; stops = stops } in
      let ty : Ty = type_of e in
      converts S γ σ span w (s0 + 8) x ty known a v (Do (StoreO p a) c) (spare γ (s0 + 16) (s0 + 8 + 8) w x (omega arith) h0) free ev flag (λ z. then_went Stops (stored S.s S.bound 0 ty (span_of e) vp z w) (λ u. Value z u))
      (λ z y hy at rest.
      subst (λ b. T (then_went Stops (if b then cells_set (span_of e) (0 + 1) S.bound (words h ty) (Some z) vp w else asked CutOff (span_of e) (spend 0 w) (write w.store.objects vp z) (λ os. Through (on_store (with_objects os) (spend 0 w)))) (λ u. Value z u)) (R (Do (StoreO p a) c) (mk w y))) (sym ns)
      (subst (λ r. T r (R (Do (StoreO p a) c) (mk w y))) (sym (went_asked Stops (span_of e) (spend 0 w) (write w.store.objects vp z) (λ os. on_store (with_objects os) (spend 0 w)) (λ u. Value z u)))
      (stores S γ σ (span_of e) (spend 0 w) s0 y p a vp z c (nothing_spent γ (s0 + 8) w y hy) (rest p ne ∙ ep) at (λ u. Value z u)
      (λ os u hu alike. f z (on_store (with_objects os) (spend 0 w)) u hu (alike a ∙ at) (λ j nj. alike j ∙ rest j nj)))))
