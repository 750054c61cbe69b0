-- Reading, converting, storing, and steps of one: mid code follows them.
use Rattle.std.proofs.Common.{◌≡◌, ℕ, ◌+◌, ◌<◌, ◌^◌, Bool, true, false, eqb, List, Option, Some, None, Ok, Err, refl, sym, ap, ◌∙◌, subst, arith}
use Rattle.kit_base.specs.Word.{mul, negated}
use Rattle.c_tree.specs.declared.span.Span.{Span}
use Rattle.c_tree.specs.declared.operator.BinOp.TheVariants as bin
use Rattle.c_types.specs.Types.{Ty, VoidY, IntY, BoolY, EnumY, StructY, UnionY, PointerY, ArrayY}
use Rattle.c_types.specs.Sizes.{words_of}
use Rattle.c_types.specs.Kinds.{decayed, pointed}
use Rattle.v32_isa.specs.declared.instruction.One.TheVariants.{CIB, ISGN}
use Rattle.v32_isa.specs.declared.instruction.Two.TheVariants.{IADD, ISUB}
use Rattle.obj_mem.specs.Objects.{ObjectT}
use Rattle.obj_mem.specs.declared.cell.Cell.{Cell}
use Rattle.obj_mem.specs.declared.cell.Cell.TheVariants.{Num}
use Rattle.obj_mem.specs.declared.refusal.Refusal.TheVariants.{Strays, Faults}
use Rattle.obj_mem.specs.Stores.{with_objects}
use Rattle.obj_mem.specs.Worlds.{World, on_store}
use Rattle.obj_mem.specs.Queries.{Answer, answer_if, read, write, step}
use Rattle.c_meaning.specs.declared.end.End.{End}
use Rattle.c_meaning.specs.declared.end.End.TheVariants.{Fault, Stray}
use Rattle.c_meaning.specs.Outcomes.{Through, CutOff, asked, then_went}
use Rattle.c_meaning.specs.Setting.{words}
use Rattle.c_meaning.specs.Operators.{is_of, read_as, converted, cell_binary, operated_on, operated}
use Rattle.mid_code.specs.Code.{ConstO, OneO, TwoO, StepO, LoadO, StoreO, NodesT, Do}
use Rattle.mid_code.specs.Meaning.{Res, did}
use Rattle.mid_code.specs.States.{temporaries, to, to_objects, spent, one_word, two_words}
use Rattle.mid_code.specs.States as mid
use Rattle.lower_trees.specs.Pieces.{coded}
use Rattle.lower_trees.specs.Shape.{Shape, shape_in}
use Rattle.lower_trees.specs.Parts as low
use Rattle.mid_lower.proofs.Grows.{Mid, Grows}
use Rattle.mid_lower.proofs.Under.{Under, same, read_both, WriteBoth, write_both}
use Rattle.mid_lower.proofs.Lives.{Later, later_write}
use Rattle.mid_lower.proofs.Words.{step_once, negated_once, in_words, same_words}
use Rattle.mid_lower.proofs.Fits.{Site}
use Rattle.mid_lower.proofs.Following.{Side, mk, Goal, stays_later, Now, Way, Free, spare, paid, paid_now, fin_now, stopped, M, M_grows, op, sets}
use Rattle.mid_lower.proofs.Instructions.{asked_then, two_eq, step_eq, from_eq, Sets}

module _ (S : Site) where
  abbrev R : NodesT ℕ → Mid → Res Mid
  R = M S

  abbrev R_grows : (c : NodesT ℕ) (t : Mid) → Grows t (R c t)
  R_grows = M_grows S

  abbrev h : Shape
  h = shape_in S.s

  module _ (γ : Goal) (σ : Way γ) (span : Span) (w : World) (s0 : ℕ) where
    sound : (x : Side) (b : Bool) (z : Cell) (go : Cell → σ.R) (c : NodesT ℕ) → σ.T (go z) (R c (mk w x)) → σ.T (asked σ.stop span w (answer_if b z) go) (R c (mk w x))
    sound x true z go c p = p
    sound x false z go c p = σ.stops (Stray span) w (R c (mk w x)) (R_grows c (mk w x))

    -- the cell at the place in p comes to t
    pub loads : (x : Side) (ty : Ty) (t p : ℕ) (vp : Cell) (c : NodesT ℕ) → Now γ (s0 + 8) w x → Free γ t → x.temps p ≡ vp → (go : Cell → σ.R) → Sets S γ σ s0 w x t c go → σ.T (asked σ.stop span w (read_as ty w.store.objects vp) go) (R (Do (LoadO t p) c) (mk w x))
    loads x ty t p vp c h0 free e go f =
        subst (λ r. σ.T r (R (Do (LoadO t p) c) (mk w x))) (sym (asked_then σ.stop span w (read w.store.objects vp) (λ z. answer_if (is_of ty z) z) go))
        (op S γ σ s0 span w x t (read w.store.objects vp) (read x.objs (x.temps p)) (LoadO t p) c h0 free (from_eq (read w.store.objects vp) (read x.objs vp) (read x.objs (x.temps p)) (ap (λ u. read x.objs u) e) (read_both w.store.objects x.objs vp h0.stays.fit.under)) refl
        (λ z. asked σ.stop span w (answer_if (is_of ty z) z) go) (λ z y hy at rest. sound y (is_of ty z) z go c (f z y hy at rest)))

    -- the cell in a is converted
    pub converts : (x : Side) (ty : Ty) (known : Bool) (a : ℕ) (va : Cell) (c : NodesT ℕ) → Now γ (s0 + 8) w x → Free γ a → x.temps a ≡ va → (known ≡ true → converted BoolY va ≡ Ok va) → (go : Cell → σ.R) → Sets S γ σ s0 w x a c go → σ.T (asked σ.stop span w (converted ty va) go) (R (coded (low.converted ty known a) c) (mk w x))
    converts x BoolY false a va c h0 free e flag go f =
        op S γ σ s0 span w x a (converted BoolY va) (one_word CIB (x.temps a)) (OneO CIB a a) c h0 free (same (converted BoolY va) (one_word CIB (x.temps a)) (ap (one_word CIB) e)) refl go f
    converts x BoolY true a va c h0 free e flag go f = subst (λ q. σ.T (asked σ.stop span w q go) (R c (mk w x))) (sym (flag refl)) (f va x (spare γ (s0 + 8) s0 w x (omega arith) h0) e (λ j ne. refl))
    converts x VoidY known a va c h0 free e flag go f = f va x (spare γ (s0 + 8) s0 w x (omega arith) h0) e (λ j ne. refl)
    converts x IntY known a va c h0 free e flag go f = f va x (spare γ (s0 + 8) s0 w x (omega arith) h0) e (λ j ne. refl)
    converts x (EnumY k) known a va c h0 free e flag go f = f va x (spare γ (s0 + 8) s0 w x (omega arith) h0) e (λ j ne. refl)
    converts x (StructY k) known a va c h0 free e flag go f = f va x (spare γ (s0 + 8) s0 w x (omega arith) h0) e (λ j ne. refl)
    converts x (UnionY k) known a va c h0 free e flag go f = f va x (spare γ (s0 + 8) s0 w x (omega arith) h0) e (λ j ne. refl)
    converts x (PointerY ty) known a va c h0 free e flag go f = f va x (spare γ (s0 + 8) s0 w x (omega arith) h0) e (λ j ne. refl)
    converts x (ArrayY ty k) known a va c h0 free e flag go f = f va x (spare γ (s0 + 8) s0 w x (omega arith) h0) e (λ j ne. refl)

    -- one more, or one less, than the cell in a comes to t; by how much comes to u
    abbrev pub Further : (x : Side) (t u : ℕ) (c : NodesT ℕ) (go : Cell → σ.R) → Type 0
    Further x t u c go = (v : Cell) (y : Side) → Now γ s0 w y → y.temps t ≡ v → ((j : ℕ) → eqb j t ≡ false → eqb j u ≡ false → y.temps j ≡ x.temps j) → σ.T (go v) (R c (mk w y))

    one_further : (x : Side) (t a u : ℕ) (va : Cell) (c : NodesT ℕ) → Now γ (s0 + 24) w x → Free γ t → Free γ u → eqb a u ≡ false → x.temps a ≡ va → (go : Cell → σ.R) → Further x t u c go
        → σ.T (asked σ.stop span w (cell_binary bin.Add va (Num 1)) go) (R (Do (ConstO u 1) (Do (TwoO IADD t a u) c)) (mk w x))
    one_further x t a u va c h0 free free_u ne e go f =
        sets S σ.T γ (s0 + 8) w x u (Num 1) (ConstO u 1) (Do (TwoO IADD t a u) c) (spare γ (s0 + 24) (s0 + 8 + 8) w x (omega arith) h0) free_u refl (asked σ.stop span w (cell_binary bin.Add va (Num 1)) go) (λ y hy at rest.
        op S γ σ s0 span w y t (cell_binary bin.Add va (Num 1)) (two_words IADD (y.temps a) (y.temps u)) (TwoO IADD t a u) c hy free (same (cell_binary bin.Add va (Num 1)) (two_words IADD (y.temps a) (y.temps u)) (two_eq IADD va (Num 1) (y.temps a) (y.temps u) (rest a ne ∙ e) at ∙ same_words bin.Add IADD (λ i j. refl) va (Num 1))) refl go
        (λ v z hz at2 rest2. f v z hz at2 (λ j nj nu. rest2 j nj ∙ rest j nu)))

    one_up : (x : Side) (size t a u : ℕ) (va : Cell) (c : NodesT ℕ) → Now γ (s0 + 24) w x → Free γ t → Free γ u → eqb a u ≡ false → x.temps a ≡ va → (go : Cell → σ.R) → Further x t u c go → σ.T (asked σ.stop span w (step va (mul 1 size)) go) (R (Do (ConstO u size) (Do (StepO t a u) c)) (mk w x))
    one_up x size t a u va c h0 free free_u ne e go f =
        subst (λ q. σ.T (asked σ.stop span w q go) (R (Do (ConstO u size) (Do (StepO t a u) c)) (mk w x))) (sym (step_once va size))
        (sets S σ.T γ (s0 + 8) w x u (Num size) (ConstO u size) (Do (StepO t a u) c) (spare γ (s0 + 24) (s0 + 8 + 8) w x (omega arith) h0) free_u refl (asked σ.stop span w (step va size) go) (λ y hy at rest.
        op S γ σ s0 span w y t (step va size) (mid.stepped (y.temps a) (y.temps u)) (StepO t a u) c hy free (same (step va size) (mid.stepped (y.temps a) (y.temps u)) (step_eq va (Num size) (y.temps a) (y.temps u) (rest a ne ∙ e) at)) refl go
        (λ v z hz at2 rest2. f v z hz at2 (λ j nj nu. rest2 j nj ∙ rest j nu))))

    one_down : (x : Side) (size t a u : ℕ) (va : Cell) (c : NodesT ℕ) → size < 2 ^ 32 → Now γ (s0 + 24) w x → Free γ t → Free γ u → eqb a u ≡ false → x.temps a ≡ va → (go : Cell → σ.R) → Further x t u c go → σ.T (asked σ.stop span w (step va (mul (negated 1) size)) go) (R (Do (ConstO u size) (Do (OneO ISGN u u) (Do (StepO t a u) c))) (mk w x))
    one_down x size t a u va c lt h0 free free_u ne e go f =
        subst (λ q. σ.T (asked σ.stop span w (step va q) go) (R (Do (ConstO u size) (Do (OneO ISGN u u) (Do (StepO t a u) c))) (mk w x))) (sym (negated_once size lt))
        (sets S σ.T γ (s0 + 16) w x u (Num size) (ConstO u size) (Do (OneO ISGN u u) (Do (StepO t a u) c)) (spare γ (s0 + 24) (s0 + 16 + 8) w x (omega arith) h0) free_u refl (asked σ.stop span w (step va (negated size)) go) (λ y hy at rest.
        sets S σ.T γ (s0 + 8) w y u (Num (negated size)) (OneO ISGN u u) (Do (StepO t a u) c) (spare γ (s0 + 16) (s0 + 8 + 8) w y (omega arith) hy) free_u (ap (λ d. to temporaries u (one_word ISGN d) (spent 8 (mk w y))) at) (asked σ.stop span w (step va (negated size)) go) (λ z hz at2 rest2.
        op S γ σ s0 span w z t (step va (negated size)) (mid.stepped (z.temps a) (z.temps u)) (StepO t a u) c hz free (same (step va (negated size)) (mid.stepped (z.temps a) (z.temps u)) (step_eq va (Num (negated size)) (z.temps a) (z.temps u) (rest2 a ne ∙ rest a ne ∙ e) at2)) refl go
        (λ v d hd at3 rest3. f v d hd at3 (λ j nj nu. rest3 j nj ∙ rest2 j nu ∙ rest j nu)))))

    one_fewer : (x : Side) (t a u : ℕ) (va : Cell) (c : NodesT ℕ) → Now γ (s0 + 24) w x → Free γ t → Free γ u → eqb a u ≡ false → x.temps a ≡ va → (go : Cell → σ.R) → Further x t u c go
        → σ.T (asked σ.stop span w (cell_binary bin.Sub va (Num 1)) go) (R (Do (ConstO u 1) (Do (TwoO ISUB t a u) c)) (mk w x))
    one_fewer x t a u va c h0 free free_u ne e go f =
        sets S σ.T γ (s0 + 8) w x u (Num 1) (ConstO u 1) (Do (TwoO ISUB t a u) c) (spare γ (s0 + 24) (s0 + 8 + 8) w x (omega arith) h0) free_u refl (asked σ.stop span w (cell_binary bin.Sub va (Num 1)) go) (λ y hy at rest.
        op S γ σ s0 span w y t (cell_binary bin.Sub va (Num 1)) (two_words ISUB (y.temps a) (y.temps u)) (TwoO ISUB t a u) c hy free (same (cell_binary bin.Sub va (Num 1)) (two_words ISUB (y.temps a) (y.temps u)) (two_eq ISUB va (Num 1) (y.temps a) (y.temps u) (rest a ne ∙ e) at ∙ same_words bin.Sub ISUB (λ i j. refl) va (Num 1))) refl go
        (λ v z hz at2 rest2. f v z hz at2 (λ j nj nu. rest2 j nj ∙ rest j nu)))

    more_by : (x : Side) (type : Option Ty) (t a u : ℕ) (va : Cell) (c : NodesT ℕ) → Now γ (s0 + 24) w x → Free γ t → Free γ u → eqb a u ≡ false → x.temps a ≡ va → (go : Cell → σ.R) → Further x t u c go → σ.T (asked σ.stop span w (operated_on S.s bin.Add type false w.store.objects va (Num 1)) go) (R (coded (low.one_more h type t a u) c) (mk w x))
    more_by x None t a u va c h0 free free_u ne e go f = one_further x t a u va c h0 free free_u ne e go f
    more_by x (Some ty) t a u va c h0 free free_u ne e go f = one_up x (words S.s ty) t a u va c h0 free free_u ne e go f

    less_by : (x : Side) (type : Option Ty) (t a u : ℕ) (va : Cell) (c : NodesT ℕ) → Now γ (s0 + 24) w x → Free γ t → Free γ u → eqb a u ≡ false → x.temps a ≡ va → (go : Cell → σ.R) → Further x t u c go → σ.T (asked σ.stop span w (operated_on S.s bin.Sub type false w.store.objects va (Num 1)) go) (R (coded (low.one_less h type t a u) c) (mk w x))
    less_by x None t a u va c h0 free free_u ne e go f = one_fewer x t a u va c h0 free free_u ne e go f
    less_by x (Some ty) t a u va c h0 free free_u ne e go f = one_down x (words S.s ty) t a u va c (in_words (words_of S.s.layouts ty)) h0 free free_u ne e go f

    pub ups : (x : Side) (ty : Ty) (t a u : ℕ) (va : Cell) (c : NodesT ℕ) → Now γ (s0 + 24) w x → Free γ t → Free γ u → eqb a u ≡ false → x.temps a ≡ va → (go : Cell → σ.R) → Further x t u c go → σ.T (asked σ.stop span w (operated S.s bin.Add ty IntY w.store.objects va (Num 1)) go) (R (coded (low.one_more h (pointed (decayed ty)) t a u) c) (mk w x))
    ups x ty t a u va c h0 free free_u ne e go f = more_by x (pointed (decayed ty)) t a u va c h0 free free_u ne e go f

    pub downs : (x : Side) (ty : Ty) (t a u : ℕ) (va : Cell) (c : NodesT ℕ) → Now γ (s0 + 24) w x → Free γ t → Free γ u → eqb a u ≡ false → x.temps a ≡ va → (go : Cell → σ.R) → Further x t u c go → σ.T (asked σ.stop span w (operated S.s bin.Sub ty IntY w.store.objects va (Num 1)) go) (R (coded (low.one_less h (pointed (decayed ty)) t a u) c) (mk w x))
    downs x ty t a u va c h0 free free_u ne e go f = less_by x (pointed (decayed ty)) t a u va c h0 free free_u ne e go f

    objects_now : (x : Side) (os os' : List ObjectT) → Now γ (s0 + 8) w x → Under os os' → Later w.store.objects os → Now γ s0 (on_store (with_objects os) w) (paid (record x { objs = os' }))
    objects_now x os os' h0 u l = record { stays = stays_later γ.base w x (on_store (with_objects os) w) (paid (record x { objs = os' })) refl refl refl refl u l h0.stays; below = h0.below; cost = omega (arith, h0.cost) }

    -- the cell in a is stored at the place in p
    pub stores : (x : Side) (p a : ℕ) (vp va : Cell) (c : NodesT ℕ) → Now γ (s0 + 8) w x → x.temps p ≡ vp → x.temps a ≡ va → (go : World → σ.R) → ((os : List ObjectT) (y : Side) → Now γ s0 (on_store (with_objects os) w) y → ((j : ℕ) → y.temps j ≡ x.temps j) → σ.T (go (on_store (with_objects os) w)) (R c (mk (on_store (with_objects os) w) y))) → σ.T (asked σ.stop span w (write w.store.objects vp va) (λ os. go (on_store (with_objects os) w))) (R (Do (StoreO p a) c) (mk w x))
    stores x p a vp va c h0 ep ea go f = by (write w.store.objects vp va) refl (subst (WriteBoth (write w.store.objects vp va)) (sym (ap (λ u. write x.objs u (x.temps a)) ep ∙ ap (λ u. write x.objs vp u) ea)) (write_both w.store.objects x.objs vp va h0.stays.fit.under))
      where
        by : (q : Answer (List ObjectT)) → write w.store.objects vp va ≡ q → WriteBoth q (write x.objs (x.temps p) (x.temps a)) → σ.T (asked σ.stop span w q (λ os. go (on_store (with_objects os) w))) (R (Do (StoreO p a) c) (mk w x))
        by (Ok os) eq k = subst (σ.T (go (on_store (with_objects os) w))) (sym (ap (λ q. did (to_objects q (spent 8 (mk w x))) (R c)) k.1)) (f os (paid (record x { objs = k.0 })) (objects_now x os k.0 h0 k.2 (later_write w.store.objects vp va os eq)) (λ j. refl))
        by (Err Strays) eq k = σ.stops (Stray span) w (R (Do (StoreO p a) c) (mk w x)) (R_grows (Do (StoreO p a) c) (mk w x))
        by (Err (Faults v)) eq k = σ.stops (Fault v) w (R (Do (StoreO p a) c) (mk w x)) (stopped γ (Fault v) w (paid x) (R (Do (StoreO p a) c) (mk w x)) (fin_now γ s0 w (paid x) (paid_now γ s0 w x h0)) (ap (λ q. did (to_objects q (spent 8 (mk w x))) (R c)) k))

-- a store that may be followed
pub went_asked : {A : Type 0} (stop : End → World → A) (span : Span) (w : World) (q : Answer (List ObjectT)) (f : List ObjectT → World) (go : World → A) → then_went stop (asked CutOff span w q (λ os. Through (f os))) go ≡ asked stop span w q (λ os. go (f os))
went_asked stop span w (Ok os) f go = refl
went_asked stop span w (Err Strays) f go = refl
went_asked stop span w (Err (Faults k)) f go = refl
