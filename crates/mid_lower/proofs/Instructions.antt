-- Operators, reading, converting and storing: mid code follows them.
use Rattle.std.proofs.Common.{◌≡◌, ℕ, ◌+◌, Bool, true, false, not, ◌==◌, eqb, List, Option, Some, None, Ok, Err, refl, sym, ap, ◌∙◌, subst, arith, if◌then◌else◌}
use Rattle.std.proofs.lemmas.Bool.{eqb-true}
use Rattle.kit_base.specs.Word.{mul, negated}
use Rattle.c_tree.specs.declared.span.Span.{Span}
use Rattle.c_tree.specs.declared.operator.BinOp.{BinOp}
use Rattle.c_tree.specs.declared.operator.BinOp.TheVariants as bin
use Rattle.c_types.specs.Types.{Ty}
use Rattle.c_types.specs.Kinds.{decayed, pointed, is_pointer}
use Rattle.v32_isa.specs.declared.instruction.One.TheVariants.{ISGN}
use Rattle.v32_isa.specs.declared.instruction.Two.{Two}
use Rattle.v32_isa.specs.declared.instruction.Two.TheVariants.{IEQ, INE, IGT, IGE, ILT, ILE, AND, OR, XOR, SHL, IADD, ISUB, IMUL, IDIV, IMOD}
use Rattle.obj_mem.specs.Objects.{ObjectT}
use Rattle.obj_mem.specs.declared.cell.Cell.{Cell}
use Rattle.obj_mem.specs.declared.cell.Cell.TheVariants.{Unwritten, Num, Ptr, Null}
use Rattle.obj_mem.specs.declared.refusal.Refusal.TheVariants.{Strays, Faults}
use Rattle.obj_mem.specs.Worlds.{World}
use Rattle.obj_mem.specs.Queries.{Answer, then_ask, word_of, truth, step, equal_pointers, offsets, apart}
use Rattle.c_meaning.specs.declared.end.End.{End}
use Rattle.c_meaning.specs.declared.end.End.TheVariants.{Stray}
use Rattle.c_meaning.specs.Outcomes.{asked}
use Rattle.c_meaning.specs.Setting.{words}
use Rattle.c_meaning.specs.Operators.{cell_binary, word_binary, stepped, stepped_back, distance, ordered, pointer_operated, operated_on, operated}
use Rattle.mid_code.specs.Code.{ConstO, OneO, TwoO, StepO, ApartO, PtrTestO, NodesT, Do}
use Rattle.mid_code.specs.Meaning.{Res}
use Rattle.mid_code.specs.States.{temporaries, to, to_objects, spent, one_word, two_words, pointers_tested}
use Rattle.mid_code.specs.States as mid
use Rattle.lower_trees.specs.Pieces.{coded}
use Rattle.lower_trees.specs.Shape.{Shape, shape_in}
use Rattle.lower_trees.specs.Parts as low
use Rattle.mid_lower.proofs.Grows.{Mid, Grows}
use Rattle.mid_lower.proofs.Under.{Under, Alike, same, then_both, equal_both, offsets_both}
use Rattle.mid_lower.proofs.Words.{step_words, same_words, div_words, mod_words}
use Rattle.mid_lower.proofs.Fits.{Site}
use Rattle.mid_lower.proofs.Following.{Side, mk, Goal, Now, Way, Free, Rest, spare, M, M_grows, op, sets}

-- one question after another
pub asked_then : {A B R : Type 0} (stop : End → World → R) (span : Span) (w : World) (q : Answer A) (r : A → Answer B) (go : B → R) → asked stop span w (then_ask q r) go ≡ asked stop span w q (λ a. asked stop span w (r a) go)
asked_then stop span w (Ok a) r go = refl
asked_then stop span w (Err Strays) r go = refl
asked_then stop span w (Err (Faults k)) r go = refl

apart_both : (xs ys : List ObjectT) (a b : Cell) → Under xs ys → Alike (apart xs a b) (apart ys a b)
apart_both xs ys a b u = then_both (offsets xs a b) (offsets ys a b) _ _ (offsets_both xs ys a b u) (λ at. refl)

pub two_eq : (o : Two) (a b a' b' : Cell) → a' ≡ a → b' ≡ b → two_words o a' b' ≡ two_words o a b
two_eq o a b a' b' e f = ap (λ u. two_words o u b') e ∙ ap (λ u. two_words o a u) f

pub tested_eq : (o : Two) (os : List ObjectT) (a b a' b' : Cell) → a' ≡ a → b' ≡ b → pointers_tested o os a' b' ≡ pointers_tested o os a b
tested_eq o os a b a' b' e f = ap (λ u. pointers_tested o os u b') e ∙ ap (λ u. pointers_tested o os a u) f

pub step_eq : (a b a' b' : Cell) → a' ≡ a → b' ≡ b → mid.stepped a' b' ≡ mid.stepped a b
step_eq a b a' b' e f = ap (λ u. mid.stepped u b') e ∙ ap (λ u. mid.stepped a u) f

pub from_eq : {A : Type 0} (q r r' : Answer A) → r' ≡ r → Alike q r → Alike q r'
from_eq q r r' e a = subst (Alike q) (sym e) a

-- the temporaries of an operator, of which all but the first operand's may be set; that one may be the target
pub record Four (γ : Goal) (t a b u : ℕ) : Type 0 where
  pub free_t : Free γ t
  pub free_b : Free γ b
  pub free_u : Free γ u
  pub a_b : eqb a b ≡ false
  pub a_u : eqb a u ≡ false
  pub b_u : eqb b u ≡ false
  pub u_b : eqb u b ≡ false
  pub t_u : eqb t u ≡ false

-- others stay
abbrev pub Rest3 : (t b u : ℕ) → Side → Side → Type 0
Rest3 t b u x y = (j : ℕ) → eqb j t ≡ false → eqb j b ≡ false → eqb j u ≡ false → y.temps j ≡ x.temps j

module _ (S : Site) where
  abbrev R : NodesT ℕ → Mid → Res Mid
  R = M S

  abbrev R_grows : (c : NodesT ℕ) (t : Mid) → Grows t (R c t)
  R_grows = M_grows S

  abbrev h : Shape
  h = shape_in S.s

  -- what follows a temporary that was set
  abbrev pub Sets : (γ : Goal) (σ : Way γ) → ℕ → World → Side → ℕ → NodesT ℕ → (Cell → σ.R) → Type 0
  Sets γ σ s0 w x t c go = (v : Cell) (y : Side) → Now γ s0 w y → y.temps t ≡ v → Rest t x y → σ.T (go v) (R c (mk w y))

  abbrev pub Operates : (γ : Goal) (σ : Way γ) → ℕ → World → Side → (t b u : ℕ) → NodesT ℕ → (Cell → σ.R) → Type 0
  Operates γ σ s0 w x t b u c go = (v : Cell) (y : Side) → Now γ s0 w y → y.temps t ≡ v → Rest3 t b u x y → σ.T (go v) (R c (mk w y))

  -- a word is needed
  pub word : {A : Type 0} (γ : Goal) (σ : Way γ) (span : Span) (w : World) (x : Side) (c : NodesT ℕ) (v : Cell) (q : ℕ → Answer A) (go : A → σ.R) → ((i : ℕ) → v ≡ Num i → σ.T (asked σ.stop span w (q i) go) (R c (mk w x))) → σ.T (asked σ.stop span w (then_ask (word_of v) q) go) (R c (mk w x))
  word γ σ span w x c Unwritten q go f = σ.stops (Stray span) w (R c (mk w x)) (R_grows c (mk w x))
  word γ σ span w x c (Num i) q go f = f i refl
  word γ σ span w x c (Ptr o i) q go f = σ.stops (Stray span) w (R c (mk w x)) (R_grows c (mk w x))
  word γ σ span w x c Null q go f = σ.stops (Stray span) w (R c (mk w x)) (R_grows c (mk w x))

  module _ (γ : Goal) (σ : Way γ) (span : Span) (w : World) (s0 : ℕ) where
    -- an operation on two words that is an instruction
    one_two : (x : Side) (o : BinOp) (i : Two) (t a b u : ℕ) (va vb : Cell) (c : NodesT ℕ) → two_words i va vb ≡ cell_binary o va vb → Now γ (s0 + 32) w x → Four γ t a b u → x.temps a ≡ va → x.temps b ≡ vb → (go : Cell → σ.R) → Operates γ σ s0 w x t b u c go → σ.T (asked σ.stop span w (cell_binary o va vb) go) (R (Do (TwoO i t a b) c) (mk w x))
    one_two x o i t a b u va vb c e h0 k ea eb go f =
        op S γ σ s0 span w x t (cell_binary o va vb) (two_words i (x.temps a) (x.temps b)) (TwoO i t a b) c (spare γ (s0 + 32) (s0 + 8) w x (omega arith) h0) k.free_t (same (cell_binary o va vb) (two_words i (x.temps a) (x.temps b)) (two_eq i va vb (x.temps a) (x.temps b) ea eb ∙ e)) refl go
        (λ v y hy at rest. f v y hy at (λ j nt nb nu. rest j nt))

    -- a test of pointers
    one_test : (x : Side) (i : Two) (t a b u : ℕ) (va vb : Cell) (q : Answer Cell) (c : NodesT ℕ) → Alike q (pointers_tested i x.objs va vb) → Now γ (s0 + 32) w x → Four γ t a b u → x.temps a ≡ va → x.temps b ≡ vb → (go : Cell → σ.R) → Operates γ σ s0 w x t b u c go → σ.T (asked σ.stop span w q go) (R (Do (PtrTestO i t a b) c) (mk w x))
    one_test x i t a b u va vb q c al h0 k ea eb go f =
        op S γ σ s0 span w x t q (pointers_tested i x.objs (x.temps a) (x.temps b)) (PtrTestO i t a b) c (spare γ (s0 + 32) (s0 + 8) w x (omega arith) h0) k.free_t (from_eq q (pointers_tested i x.objs va vb) (pointers_tested i x.objs (x.temps a) (x.temps b)) (tested_eq i x.objs va vb (x.temps a) (x.temps b) ea eb) al) refl go
        (λ v y hy at rest. f v y hy at (λ j nt nb nu. rest j nt))

    words_sim : (x : Side) (o : BinOp) (t a b u : ℕ) (va vb : Cell) (c : NodesT ℕ) → Now γ (s0 + 32) w x → Four γ t a b u → x.temps a ≡ va → x.temps b ≡ vb → (go : Cell → σ.R) → Operates γ σ s0 w x t b u c go → σ.T (asked σ.stop span w (cell_binary o va vb) go) (R (coded (low.with_word o t a b) c) (mk w x))
    words_sim x bin.Mul t a b u va vb c h0 k ea eb go f = one_two x bin.Mul IMUL t a b u va vb c (same_words bin.Mul IMUL (λ i j. refl) va vb) h0 k ea eb go f
    words_sim x bin.Div t a b u va vb c h0 k ea eb go f = one_two x bin.Div IDIV t a b u va vb c (div_words va vb) h0 k ea eb go f
    words_sim x bin.Mod t a b u va vb c h0 k ea eb go f = one_two x bin.Mod IMOD t a b u va vb c (mod_words va vb) h0 k ea eb go f
    words_sim x bin.Add t a b u va vb c h0 k ea eb go f = one_two x bin.Add IADD t a b u va vb c (same_words bin.Add IADD (λ i j. refl) va vb) h0 k ea eb go f
    words_sim x bin.Sub t a b u va vb c h0 k ea eb go f = one_two x bin.Sub ISUB t a b u va vb c (same_words bin.Sub ISUB (λ i j. refl) va vb) h0 k ea eb go f
    words_sim x bin.Shl t a b u va vb c h0 k ea eb go f = one_two x bin.Shl SHL t a b u va vb c (same_words bin.Shl SHL (λ i j. refl) va vb) h0 k ea eb go f
    words_sim x bin.Less t a b u va vb c h0 k ea eb go f = one_two x bin.Less ILT t a b u va vb c (same_words bin.Less ILT (λ i j. refl) va vb) h0 k ea eb go f
    words_sim x bin.LessEq t a b u va vb c h0 k ea eb go f = one_two x bin.LessEq ILE t a b u va vb c (same_words bin.LessEq ILE (λ i j. refl) va vb) h0 k ea eb go f
    words_sim x bin.More t a b u va vb c h0 k ea eb go f = one_two x bin.More IGT t a b u va vb c (same_words bin.More IGT (λ i j. refl) va vb) h0 k ea eb go f
    words_sim x bin.MoreEq t a b u va vb c h0 k ea eb go f = one_two x bin.MoreEq IGE t a b u va vb c (same_words bin.MoreEq IGE (λ i j. refl) va vb) h0 k ea eb go f
    words_sim x bin.Equal t a b u va vb c h0 k ea eb go f = one_two x bin.Equal IEQ t a b u va vb c (same_words bin.Equal IEQ (λ i j. refl) va vb) h0 k ea eb go f
    words_sim x bin.NotEqual t a b u va vb c h0 k ea eb go f = one_two x bin.NotEqual INE t a b u va vb c (same_words bin.NotEqual INE (λ i j. refl) va vb) h0 k ea eb go f
    words_sim x bin.BitAnd t a b u va vb c h0 k ea eb go f = one_two x bin.BitAnd AND t a b u va vb c (same_words bin.BitAnd AND (λ i j. refl) va vb) h0 k ea eb go f
    words_sim x bin.BitXor t a b u va vb c h0 k ea eb go f = one_two x bin.BitXor XOR t a b u va vb c (same_words bin.BitXor XOR (λ i j. refl) va vb) h0 k ea eb go f
    words_sim x bin.BitOr t a b u va vb c h0 k ea eb go f = one_two x bin.BitOr OR t a b u va vb c (same_words bin.BitOr OR (λ i j. refl) va vb) h0 k ea eb go f
    words_sim x bin.AndAlso t a b u va vb c h0 k ea eb go f =
        word γ σ span w x c va (λ i. then_ask (word_of vb) (λ j. Err Strays)) go (λ i ei. word γ σ span w x c vb (λ j. Err Strays) go (λ j ej. σ.stops (Stray span) w (R c (mk w x)) (R_grows c (mk w x))))
    words_sim x bin.OrElse t a b u va vb c h0 k ea eb go f =
        word γ σ span w x c va (λ i. then_ask (word_of vb) (λ j. Err Strays)) go (λ i ei. word γ σ span w x c vb (λ j. Err Strays) go (λ j ej. σ.stops (Stray span) w (R c (mk w x)) (R_grows c (mk w x))))
    words_sim x bin.Shr t a b u va vb c h0 k ea eb go f =
        word γ σ span w x (coded (low.with_word bin.Shr t a b) c) va (λ i. then_ask (word_of vb) (λ j. then_ask (word_binary bin.Shr i j) (λ z. Ok (Num z)))) go (λ i ei.
        word γ σ span w x (coded (low.with_word bin.Shr t a b) c) vb (λ j. then_ask (word_binary bin.Shr i j) (λ z. Ok (Num z))) go (λ j ej.
        sets S σ.T γ (s0 + 8) w x b (Num (negated j)) (OneO ISGN b b) (Do (TwoO SHL t a b) c) (spare γ (s0 + 32) (s0 + 8 + 8) w x (omega arith) h0) k.free_b (ap (λ u. to temporaries b (one_word ISGN u) (spent 8 (mk w x))) (eb ∙ ej)) (asked σ.stop span w (cell_binary bin.Shr (Num i) (Num j)) go) (λ y hy at rest.
        op S γ σ s0 span w y t (cell_binary bin.Shr (Num i) (Num j)) (two_words SHL (y.temps a) (y.temps b)) (TwoO SHL t a b) c hy k.free_t
        (same (cell_binary bin.Shr (Num i) (Num j)) (two_words SHL (y.temps a) (y.temps b)) (two_eq SHL (Num i) (Num (negated j)) (y.temps a) (y.temps b) (rest a k.a_b ∙ ea ∙ ei) at)) refl go
        (λ v z hz at3 rest3. f v z hz at3 (λ l nt nb nu. rest3 l nt ∙ rest l nb)))))

    -- ---- pointers

    -- the word in b tells how many elements
    elements_sim : (x : Side) (size t a b u i : ℕ) (va : Cell) (c : NodesT ℕ) → Now γ (s0 + 24) w x → Four γ t a b u → x.temps a ≡ va → x.temps b ≡ Num i → (go : Cell → σ.R) → Operates γ σ s0 w x t b u c go → σ.T (asked σ.stop span w (step va (mul i size)) go) (R (coded (low.stepped size t a b u) c) (mk w x))
    elements_sim x size t a b u i va c h0 k ea eb go f = by (size == 1) refl
      where
        short : σ.T (asked σ.stop span w (step va (mul i 1)) go) (R (Do (StepO t a b) c) (mk w x))
        short =
            subst (λ q. σ.T (asked σ.stop span w q go) (R (Do (StepO t a b) c) (mk w x))) (sym (step_words va i))
            (op S γ σ s0 span w x t (step va i) (mid.stepped (x.temps a) (x.temps b)) (StepO t a b) c (spare γ (s0 + 24) (s0 + 8) w x (omega arith) h0) k.free_t (same (step va i) (mid.stepped (x.temps a) (x.temps b)) (step_eq va (Num i) (x.temps a) (x.temps b) ea eb)) refl go (λ v y hy at rest. f v y hy at (λ l nt nb nu. rest l nt)))

        long : σ.T (asked σ.stop span w (step va (mul i size)) go) (R (Do (ConstO u size) (Do (TwoO IMUL b b u) (Do (StepO t a b) c))) (mk w x))
        long =
            sets S σ.T γ (s0 + 16) w x u (Num size) (ConstO u size) (Do (TwoO IMUL b b u) (Do (StepO t a b) c)) (spare γ (s0 + 24) (s0 + 16 + 8) w x (omega arith) h0) k.free_u refl (asked σ.stop span w (step va (mul i size)) go) (λ y hy at rest.
            sets S σ.T γ (s0 + 8) w y b (Num (mul i size)) (TwoO IMUL b b u) (Do (StepO t a b) c) (spare γ (s0 + 16) (s0 + 8 + 8) w y (omega arith) hy) k.free_b (ap (λ d. to temporaries b d (spent 8 (mk w y))) (two_eq IMUL (Num i) (Num size) (y.temps b) (y.temps u) (rest b k.b_u ∙ eb) at)) (asked σ.stop span w (step va (mul i size)) go) (λ z hz at2 rest2.
            op S γ σ s0 span w z t (step va (mul i size)) (mid.stepped (z.temps a) (z.temps b)) (StepO t a b) c hz k.free_t (same (step va (mul i size)) (mid.stepped (z.temps a) (z.temps b)) (step_eq va (Num (mul i size)) (z.temps a) (z.temps b) (rest2 a k.a_b ∙ rest a k.a_u ∙ ea) at2)) refl go
            (λ v d hd at3 rest3. f v d hd at3 (λ l nt nb nu. rest3 l nt ∙ rest2 l nb ∙ rest l nu))))

        by : (q : Bool) → (size == 1) ≡ q → σ.T (asked σ.stop span w (step va (mul i size)) go) (R (if q then Do (StepO t a b) c else Do (ConstO u size) (Do (TwoO IMUL b b u) (Do (StepO t a b) c))) (mk w x))
        by true e = subst (λ n. σ.T (asked σ.stop span w (step va (mul i n)) go) (R (Do (StepO t a b) c) (mk w x))) (sym (eqb-true size 1 e)) short
        by false e = long

    stepped_sim : (x : Side) (size t a b u : ℕ) (va vb : Cell) (c : NodesT ℕ) → Now γ (s0 + 32) w x → Four γ t a b u → x.temps a ≡ va → x.temps b ≡ vb → (go : Cell → σ.R) → Operates γ σ s0 w x t b u c go → σ.T (asked σ.stop span w (stepped size va vb) go) (R (coded (low.stepped size t a b u) c) (mk w x))
    stepped_sim x size t a b u va vb c h0 k ea eb go f = word γ σ span w x (coded (low.stepped size t a b u) c) vb (λ i. step va (mul i size)) go (λ i ei. elements_sim x size t a b u i va c (spare γ (s0 + 32) (s0 + 24) w x (omega arith) h0) k ea (eb ∙ ei) go f)

    back_sim : (x : Side) (size t a b u : ℕ) (va vb : Cell) (c : NodesT ℕ) → Now γ (s0 + 32) w x → Four γ t a b u → x.temps a ≡ va → x.temps b ≡ vb → (go : Cell → σ.R) → Operates γ σ s0 w x t b u c go → σ.T (asked σ.stop span w (stepped_back size va vb) go) (R (coded (low.stepped_back size t a b u) c) (mk w x))
    back_sim x size t a b u va vb c h0 k ea eb go f =
        word γ σ span w x (coded (low.stepped_back size t a b u) c) vb (λ i. step va (mul (negated i) size)) go (λ i ei.
        sets S σ.T γ (s0 + 24) w x b (Num (negated i)) (OneO ISGN b b) (coded (low.stepped size t a b u) c) (spare γ (s0 + 32) (s0 + 24 + 8) w x (omega arith) h0) k.free_b (ap (λ u. to temporaries b (one_word ISGN u) (spent 8 (mk w x))) (eb ∙ ei)) (asked σ.stop span w (step va (mul (negated i) size)) go) (λ y hy at rest.
        elements_sim y size t a b u (negated i) va c hy k (rest a k.a_b ∙ ea) at go (λ v d hd at2 rest2. f v d hd at2 (λ l nt nb nu. rest2 l nt nb nu ∙ rest l nb))))

    distance_sim : (x : Side) (size t a b u : ℕ) (va vb : Cell) (c : NodesT ℕ) → Now γ (s0 + 32) w x → Four γ t a b u → x.temps a ≡ va → x.temps b ≡ vb → (go : Cell → σ.R) → Operates γ σ s0 w x t b u c go → σ.T (asked σ.stop span w (distance size w.store.objects va vb) go) (R (coded (low.distant size t a b u) c) (mk w x))
    distance_sim x size t a b u va vb c h0 k ea eb go f =
        let numbers : Answer Cell = then_ask (apart w.store.objects va vb) (λ i. Ok (Num i)) in
        subst (λ r. σ.T r (R (coded (low.distant size t a b u) c) (mk w x))) (sym (split (apart w.store.objects va vb)))
        (op S γ σ (s0 + 16) span w x t numbers (mid.distance x.objs (x.temps a) (x.temps b)) (ApartO t a b) (Do (ConstO u size) (Do (TwoO IDIV t t u) c)) (spare γ (s0 + 32) (s0 + 16 + 8) w x (omega arith) h0) k.free_t
        (from_eq numbers (mid.distance x.objs va vb) (mid.distance x.objs (x.temps a) (x.temps b)) (ap (λ u. mid.distance x.objs u (x.temps b)) ea ∙ ap (λ u. mid.distance x.objs va u) eb) (then_both (apart w.store.objects va vb) (apart x.objs va vb) _ _ (apart_both w.store.objects x.objs va vb h0.stays.fit.under) (λ i. refl))) refl (λ z. asked σ.stop span w (cell_binary bin.Div z (Num size)) go)
        (λ z y hy at rest.
        sets S σ.T γ (s0 + 8) w y u (Num size) (ConstO u size) (Do (TwoO IDIV t t u) c) (spare γ (s0 + 16) (s0 + 8 + 8) w y (omega arith) hy) k.free_u refl (asked σ.stop span w (cell_binary bin.Div z (Num size)) go) (λ d hd at2 rest2.
        op S γ σ s0 span w d t (cell_binary bin.Div z (Num size)) (two_words IDIV (d.temps t) (d.temps u)) (TwoO IDIV t t u) c hd k.free_t
        (same (cell_binary bin.Div z (Num size)) (two_words IDIV (d.temps t) (d.temps u)) (two_eq IDIV z (Num size) (d.temps t) (d.temps u) (rest2 t k.t_u ∙ at) at2 ∙ div_words z (Num size))) refl go
        (λ v e he at4 rest4. f v e he at4 (λ l nt nb nu. rest4 l nt ∙ rest2 l nu ∙ rest l nt)))))
      where
        split : (q : Answer ℕ) → asked σ.stop span w (then_ask q (λ i. then_ask (word_binary bin.Div i size) (λ z. Ok (Num z)))) go ≡ asked σ.stop span w (then_ask q (λ i. Ok (Num i))) (λ z. asked σ.stop span w (cell_binary bin.Div z (Num size)) go)
        split (Ok i) = refl
        split (Err Strays) = refl
        split (Err (Faults v)) = refl

    none_sim : (x : Side) (c : NodesT ℕ) (go : Cell → σ.R) → σ.T (asked σ.stop span w (Err Strays) go) (R c (mk w x))
    none_sim x c go = σ.stops (Stray span) w (R c (mk w x)) (R_grows c (mk w x))

    pointers_sim : (x : Side) (o : BinOp) (size : ℕ) (two : Bool) (t a b u : ℕ) (va vb : Cell) (c : NodesT ℕ) → Now γ (s0 + 32) w x → Four γ t a b u → x.temps a ≡ va → x.temps b ≡ vb → (go : Cell → σ.R) → Operates γ σ s0 w x t b u c go → σ.T (asked σ.stop span w (pointer_operated o size two w.store.objects va vb) go) (R (coded (low.with_pointer o size two t a b u) c) (mk w x))
    pointers_sim x bin.Add size two t a b u va vb c h0 k ea eb go f = stepped_sim x size t a b u va vb c h0 k ea eb go f
    pointers_sim x bin.Sub size true t a b u va vb c h0 k ea eb go f = distance_sim x size t a b u va vb c h0 k ea eb go f
    pointers_sim x bin.Sub size false t a b u va vb c h0 k ea eb go f = back_sim x size t a b u va vb c h0 k ea eb go f
    pointers_sim x bin.Equal size two t a b u va vb c h0 k ea eb go f = one_test x IEQ t a b u va vb (then_ask (equal_pointers w.store.objects va vb) (λ z. Ok (truth z))) c (then_both (equal_pointers w.store.objects va vb) (equal_pointers x.objs va vb) _ _ (equal_both w.store.objects x.objs va vb h0.stays.fit.under) (λ z. refl)) h0 k ea eb go f
    pointers_sim x bin.NotEqual size two t a b u va vb c h0 k ea eb go f = one_test x INE t a b u va vb (then_ask (equal_pointers w.store.objects va vb) (λ z. Ok (truth (not z)))) c (then_both (equal_pointers w.store.objects va vb) (equal_pointers x.objs va vb) _ _ (equal_both w.store.objects x.objs va vb h0.stays.fit.under) (λ z. refl)) h0 k ea eb go f
    pointers_sim x bin.Less size two t a b u va vb c h0 k ea eb go f = one_test x ILT t a b u va vb (ordered bin.Less w.store.objects va vb) c (then_both (offsets w.store.objects va vb) (offsets x.objs va vb) _ _ (offsets_both w.store.objects x.objs va vb h0.stays.fit.under) (λ z. refl)) h0 k ea eb go f
    pointers_sim x bin.LessEq size two t a b u va vb c h0 k ea eb go f = one_test x ILE t a b u va vb (ordered bin.LessEq w.store.objects va vb) c (then_both (offsets w.store.objects va vb) (offsets x.objs va vb) _ _ (offsets_both w.store.objects x.objs va vb h0.stays.fit.under) (λ z. refl)) h0 k ea eb go f
    pointers_sim x bin.More size two t a b u va vb c h0 k ea eb go f = one_test x IGT t a b u va vb (ordered bin.More w.store.objects va vb) c (then_both (offsets w.store.objects va vb) (offsets x.objs va vb) _ _ (offsets_both w.store.objects x.objs va vb h0.stays.fit.under) (λ z. refl)) h0 k ea eb go f
    pointers_sim x bin.MoreEq size two t a b u va vb c h0 k ea eb go f = one_test x IGE t a b u va vb (ordered bin.MoreEq w.store.objects va vb) c (then_both (offsets w.store.objects va vb) (offsets x.objs va vb) _ _ (offsets_both w.store.objects x.objs va vb h0.stays.fit.under) (λ z. refl)) h0 k ea eb go f
    pointers_sim x bin.Mul size two t a b u va vb c h0 k ea eb go f = none_sim x c go
    pointers_sim x bin.Div size two t a b u va vb c h0 k ea eb go f = none_sim x c go
    pointers_sim x bin.Mod size two t a b u va vb c h0 k ea eb go f = none_sim x c go
    pointers_sim x bin.Shl size two t a b u va vb c h0 k ea eb go f = none_sim x c go
    pointers_sim x bin.Shr size two t a b u va vb c h0 k ea eb go f = none_sim x c go
    pointers_sim x bin.BitAnd size two t a b u va vb c h0 k ea eb go f = none_sim x c go
    pointers_sim x bin.BitXor size two t a b u va vb c h0 k ea eb go f = none_sim x c go
    pointers_sim x bin.BitOr size two t a b u va vb c h0 k ea eb go f = none_sim x c go
    pointers_sim x bin.AndAlso size two t a b u va vb c h0 k ea eb go f = none_sim x c go
    pointers_sim x bin.OrElse size two t a b u va vb c h0 k ea eb go f = none_sim x c go

    operated_on_sim : (x : Side) (o : BinOp) (type : Option Ty) (two : Bool) (t a b u : ℕ) (va vb : Cell) (c : NodesT ℕ) → Now γ (s0 + 32) w x → Four γ t a b u → x.temps a ≡ va → x.temps b ≡ vb → (go : Cell → σ.R) → Operates γ σ s0 w x t b u c go → σ.T (asked σ.stop span w (operated_on S.s o type two w.store.objects va vb) go) (R (coded (low.operated_on h o type two t a b u) c) (mk w x))
    operated_on_sim x o None two t a b u va vb c h0 k ea eb go f = words_sim x o t a b u va vb c h0 k ea eb go f
    operated_on_sim x o (Some ty) two t a b u va vb c h0 k ea eb go f = pointers_sim x o (words S.s ty) two t a b u va vb c h0 k ea eb go f

    -- an operator on the cells in a and b
    pub operates : (x : Side) (o : BinOp) (ta tb : Ty) (t a b u : ℕ) (va vb : Cell) (c : NodesT ℕ) → Now γ (s0 + 32) w x → Four γ t a b u → x.temps a ≡ va → x.temps b ≡ vb → (go : Cell → σ.R) → Operates γ σ s0 w x t b u c go → σ.T (asked σ.stop span w (operated S.s o ta tb w.store.objects va vb) go) (R (coded (low.operated h o ta tb t a b u) c) (mk w x))
    operates x o ta tb = operated_on_sim x o (pointed (decayed ta)) (is_pointer (decayed tb))

    pub steps : (x : Side) (size t a b u : ℕ) (va vb : Cell) (c : NodesT ℕ) → Now γ (s0 + 32) w x → Four γ t a b u → x.temps a ≡ va → x.temps b ≡ vb → (go : Cell → σ.R) → Operates γ σ s0 w x t b u c go → σ.T (asked σ.stop span w (stepped size va vb) go) (R (coded (low.stepped size t a b u) c) (mk w x))
    steps = stepped_sim
