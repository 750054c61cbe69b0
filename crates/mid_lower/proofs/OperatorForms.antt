-- Numbers, names, and operators on values: mid code follows them.
use Rattle.std.proofs.Common.{◌++◌, ◌≡◌, ℕ, ◌+◌, ◌<◌, ◌≤◌, Bool, true, false, not, ◌==◌, Ok, Err, refl, sym, ap, ◌∙◌, subst, arith}
use Rattle.std.proofs.lemmas.Bool.{false≢true}
use Rattle.c_tree.specs.declared.span.Span.{Span}
use Rattle.c_tree.specs.declared.operator.UnOp.{UnOp}
use Rattle.c_tree.specs.declared.operator.UnOp.TheVariants as un
use Rattle.c_tree.specs.declared.operator.BinOp.{BinOp}
use Rattle.c_tree.specs.declared.operator.BinOp.TheVariants as bin
use Rattle.c_types.specs.Types.{Ty, VoidY, IntY, BoolY, EnumY, StructY, UnionY, PointerY, ArrayY}
use Rattle.c_types.specs.Typed.{TExprT, UnaryK}
use Rattle.c_exprs.specs.Nodes.{is_place, is_place_kind}
use Rattle.v32_isa.specs.declared.instruction.One.{One}
use Rattle.v32_isa.specs.declared.instruction.One.TheVariants.{CIB, ISGN, NOT, BNOT}
use Rattle.v32_isa.specs.declared.instruction.Two.TheVariants.{IEQ}
use Rattle.obj_mem.specs.declared.cell.Cell.{Cell}
use Rattle.obj_mem.specs.declared.cell.Cell.TheVariants.{Unwritten, Num, Ptr, Null}
use Rattle.obj_mem.specs.declared.refusal.Refusal.TheVariants.{Strays, Faults}
use Rattle.obj_mem.specs.Worlds.{World, spend}
use Rattle.obj_mem.specs.Queries.{Answer, then_ask, word_of, truth, equal_pointers}
use Rattle.c_meaning.specs.Kinds.{type_of, span_of}
use Rattle.c_types.specs.Kinds.{decayed, is_structure}
use Rattle.c_meaning.specs.Outcomes.{Val, Value, Place, NoValue, Stops, asked, either_way}
use Rattle.c_meaning.specs.Operators.{is_true, cell_unary, operated}
use Rattle.c_meaning.specs.Expressions as src
use Rattle.c_meaning.specs.Expressions.{evaluated}
use Rattle.mid_code.specs.Code.{OpT, ConstO, NullO, OneO, PtrTestO, NodesT, Stop, Do, Choose}
use Rattle.mid_code.specs.Meaning.{Res, Next, then_next}
use Rattle.mid_code.specs.States.{temporaries, to, spent, one_word, pointers_tested}
use Rattle.lower_trees.specs.Pieces.{coded}
use Rattle.lower_trees.specs.Shape.{Shape, shape_in}
use Rattle.lower_trees.specs.Flags.{tests_flag}
use Rattle.lower_trees.specs.Parts as part
use Rattle.lower_trees.specs.Expressions as low
use Rattle.lower_trees.specs.Counts.{sizes, unary_sizes, value_sizes}
use Rattle.mid_lower.proofs.Grows.{Mid, Grows, then_grows}
use Rattle.mid_lower.proofs.Under.{same, then_both, equal_both}
use Rattle.mid_lower.proofs.Flagged.{IsFlag}
use Rattle.mid_lower.proofs.Fits.{Site}
use Rattle.mid_lower.proofs.Room.{Room, room_first, room_second}
use Rattle.mid_lower.proofs.Following.{Fit, Side, mk, Goal, goal, base_of, restay, stays_here, Now, SimV, way_v, scratch, paid, paid_now, less_now, spare, bind_place, kept_through, at_free, above_free, low_free, eqb_less, eqb_more, L, M, M_grows, op, sets}
use Rattle.mid_lower.proofs.Instructions.{Four, operates, word, from_eq, tested_eq}
use Rattle.mid_lower.proofs.Values.{Follow, uses}
use Rattle.mid_lower.proofs.Choices.{tests, chooses}

negated_way : (b : Bool) (w : World) → either_way (not b) w (λ u. Value (truth false) u) (λ u. Value (truth true) u) ≡ Value (truth b) w
negated_way true w = refl
negated_way false w = refl

truth_way : (b : Bool) (w : World) → either_way b w (λ u. Value (truth true) u) (λ u. Value (truth false) u) ≡ Value (truth b) w
truth_way true w = refl
truth_way false w = refl

abbrev cell_in : Answer Cell → Cell
cell_in (Ok c) = c
cell_in (Err r) = Null

-- the temporaries of a node whose operands stand in n and behind, and behind both the size of an element
pub four : (b : Bool) (t n n2 u : ℕ) (w : World) (x : Side) → t < n → n < n2 → n2 < u → Four (goal b t n w x) t n n2 u
four b t n n2 u w x tn nn nu = record {
  free_t = at_free (goal b t n w x);
  free_b = above_free (goal b t n w x) n2 (omega (arith, nn));
  free_u = above_free (goal b t n w x) u (omega (arith, nn, nu));
  a_b = eqb_less n n2 nn;
  a_u = eqb_less n u (omega (arith, nn, nu));
  b_u = eqb_less n2 u nu;
  u_b = eqb_more u n2 nu;
  t_u = eqb_less t u (omega (arith, tn, nn, nu));
}

module _ (S : Site) where
  abbrev R : NodesT ℕ → Mid → Res Mid
  R = M S

  abbrev R_grows : (c : NodesT ℕ) (t : Mid) → Grows t (R c t)
  R_grows = M_grows S

  abbrev h : Shape
  h = shape_in S.s

  abbrev tick : World → World
  tick w = spend 1 w

  -- the beginning of a form
  pub begin_place : (t n : ℕ) (w : World) (x : Side) → Fit w x → Now (goal true t n w x) 12 (tick w) x
  begin_place t n w x u = record { stays = restay (base_of w x) w x (tick w) x refl refl refl refl (stays_here w x u); below = λ j sc lt ne. refl; cost = omega arith }

  pub begin_value : (t n : ℕ) (w : World) (x : Side) → Fit w x → Now (goal false t n w x) 36 (tick w) x
  begin_value t n w x u = record { stays = restay (base_of w x) w x (tick w) x refl refl refl refl (stays_here w x u); below = λ j sc lt ne. refl; cost = omega arith }

  -- the form has come to a value or a place
  pub to_value : (t n : ℕ) (w0 : World) (x0 : Side) (c : NodesT ℕ) (s0 : ℕ) (v : Cell) (w : World) (x : Side) → Now (goal false t n w0 x0) s0 w x → x.temps t ≡ v → SimV (goal false t n w0 x0) (R c) false (Value v w) (R c (mk w x))
  to_value t n w0 x0 c s0 v w x h0 e = (refl, x, refl, less_now (goal false t n w0 x0) s0 w x h0, e)

  pub to_place : (t n : ℕ) (w0 : World) (x0 : Side) (c : NodesT ℕ) (s0 : ℕ) (v : Cell) (w : World) (x : Side) → Now (goal true t n w0 x0) s0 w x → x.temps t ≡ v → SimV (goal true t n w0 x0) (R c) true (Place v w) (R c (mk w x))
  to_place t n w0 x0 c s0 v w x h0 e = (refl, x, refl, less_now (goal true t n w0 x0) s0 w x h0, e)

  pub leaf_value : (t n : ℕ) (w : World) (x : Side) (v : Cell) (o : OpT ℕ) (c : NodesT ℕ) → Fit w x → (L S).act o (mk w x) ≡ to temporaries t (Ok v) (spent 8 (mk w x)) → SimV (goal false t n w x) (R c) false (Value v (tick w)) (R (Do o c) (mk w x))
  leaf_value t n w x v o c u e = sets S (SimV (goal false t n w x) (R c) false) (goal false t n w x) 28 (tick w) x t v o c (begin_value t n w x u) (at_free (goal false t n w x)) e (Value v (tick w)) (λ y hy at rest. to_value t n w x c 28 v (tick w) y hy at)

  pub leaf_place : (t n : ℕ) (w : World) (x : Side) (v : Cell) (o : OpT ℕ) (c : NodesT ℕ) → Fit w x → (L S).act o (mk w x) ≡ to temporaries t (Ok v) (spent 8 (mk w x)) → SimV (goal true t n w x) (R c) true (Place v (tick w)) (R (Do o c) (mk w x))
  leaf_place t n w x v o c u e = sets S (SimV (goal true t n w x) (R c) true) (goal true t n w x) 4 (tick w) x t v o c (begin_place t n w x u) (at_free (goal true t n w x)) e (Place v (tick w)) (λ y hy at rest. to_place t n w x c 4 v (tick w) y hy at)

  -- ---- operators on one value

  one_sim : (e : TExprT) → Follow S e → is_structure (type_of e) ≡ false → (span : Span) (o : UnOp) (i : One) (t n m : ℕ) (c : NodesT ℕ) (w : World) (y : Side) → scratch ≤ t → t < n → Fit w y → Room S (base_of w y) m (value_sizes h e) → ((v : Cell) → one_word i v ≡ cell_unary o v) → SimV (goal false t n w y) (R c) false (src.with_value Stops S.s S.bound e (evaluated S.s S.bound S.prev e (tick w)) (λ v u. asked Stops span u (cell_unary o v) (λ z. Value z u))) (R (coded (low.value h e (low.low h e) t n m) (Do (OneO i t t) c)) (mk w y))
  one_sim e sim ns span o i t n m c w y st tn u room same_op =
      let γ = goal false t n w y in
      uses S γ (way_v γ (R c) false) 36 t n m (tick w) y (Do (OneO i t t) c) (begin_value t n w y u) (at_free γ) (omega arith) st tn e ns room (λ v wa. asked Stops span wa (cell_unary o v) (λ z. Value z wa)) sim
      (λ v wa xa flag ha at below. op S γ (way_v γ (R c) false) 56 span wa xa t (cell_unary o v) (one_word i (xa.temps t)) (OneO i t t) c ha (at_free γ)
      (same (cell_unary o v) (one_word i (xa.temps t)) (ap (λ z. one_word i z) at ∙ same_op v)) refl (λ z. Value z wa) (λ z y2 hy at2 rest. to_value t n w y c 56 z wa y2 hy at2))

  not_as : (t n : ℕ) (w0 : World) (x0 : Side) (span : Span) (ty : Ty) (c : NodesT ℕ) (w : World) (x : Side) (v : Cell) → scratch ≤ t → Now (goal false t n w0 x0) 64 w x → x.temps t ≡ v → SimV (goal false t n w0 x0) (R c) false (asked Stops span w (is_true w.store.objects ty v) (λ b. either_way b w (λ u. Value (truth false) u) (λ u. Value (truth true) u))) (R (coded (part.negated_as ty t) c) (mk w x))
  not_as t n w0 x0 span ty c w x v st h0 e = by ty
    where
      by_word : SimV (goal false t n w0 x0) (R c) false (asked Stops span w (then_ask (word_of v) (λ i. Ok (not (i == 0)))) (λ b. either_way b w (λ u. Value (truth false) u) (λ u. Value (truth true) u))) (R (Do (OneO BNOT t t) c) (mk w x))
      by_word =
          let γ = goal false t n w0 x0 in
          word S γ (way_v γ (R c) false) span w x (Do (OneO BNOT t t) c) v (λ i. Ok (not (i == 0))) (λ b. either_way b w (λ u. Value (truth false) u) (λ u. Value (truth true) u))
          (λ i ei. subst (λ r. SimV γ (R c) false r (R (Do (OneO BNOT t t) c) (mk w x))) (sym (negated_way (i == 0) w))
          (sets S (SimV γ (R c) false) γ 56 w x t (truth (i == 0)) (OneO BNOT t t) c h0 (at_free γ) (ap (λ z. to temporaries t (one_word BNOT z) (spent 8 (mk w x))) (e ∙ ei)) (Value (truth (i == 0)) w) (λ y hy at rest. to_value t n w0 x0 c 56 (truth (i == 0)) w y hy at)))

      split : (q : Answer Bool) → asked Stops span w (then_ask q (λ b. Ok (not b))) (λ b. either_way b w (λ u. Value (truth false) u) (λ u. Value (truth true) u)) ≡ asked Stops span w (then_ask q (λ b. Ok (truth b))) (λ z. Value z w)
      split (Ok b) = negated_way b w
      split (Err Strays) = refl
      split (Err (Faults k)) = refl

      by : (ty : Ty) → SimV (goal false t n w0 x0) (R c) false (asked Stops span w (is_true w.store.objects ty v) (λ b. either_way b w (λ u. Value (truth false) u) (λ u. Value (truth true) u))) (R (coded (part.negated_as ty t) c) (mk w x))
      by (PointerY of) =
          let γ = goal false t n w0 x0 in
          let q : Answer Cell = then_ask (equal_pointers w.store.objects v Null) (λ b. Ok (truth b)) in
          subst (λ r. SimV γ (R c) false r (R (coded (part.negated_as (PointerY of) t) c) (mk w x))) (sym (split (equal_pointers w.store.objects v Null)))
          (sets S (SimV γ (R c) false) γ 56 w x part.other Null (NullO part.other) (Do (PtrTestO IEQ t t part.other) c) h0 (low_free γ part.other (omega arith)) refl (asked Stops span w q (λ z. Value z w)) (λ y hy at rest.
          op S γ (way_v γ (R c) false) 48 span w y t q (pointers_tested IEQ y.objs (y.temps t) (y.temps part.other)) (PtrTestO IEQ t t part.other) c hy (at_free γ)
          (from_eq q (pointers_tested IEQ y.objs v Null) (pointers_tested IEQ y.objs (y.temps t) (y.temps part.other)) (tested_eq IEQ y.objs v Null (y.temps t) (y.temps part.other) (rest t (eqb_more t part.other (omega (arith, st))) ∙ e) at) (then_both (equal_pointers w.store.objects v Null) (equal_pointers y.objs v Null) _ _ (equal_both w.store.objects y.objs v Null hy.stays.fit.under) (λ z. refl))) refl
          (λ z. Value z w) (λ z u hu at2 rest2. to_value t n w0 x0 c 48 z w u hu at2)))
      by VoidY = by_word
      by IntY = by_word
      by BoolY = by_word
      by (EnumY k) = by_word
      by (StructY k) = by_word
      by (UnionY k) = by_word
      by (ArrayY of k) = by_word

  pub address_sim : (e : TExprT) → Follow S e → (span : Span) (t n m : ℕ) (c : NodesT ℕ) (w : World) (y : Side) → scratch ≤ t → t < n → Fit w y → Room S (base_of w y) m (sizes h e) → SimV (goal false t n w y) (R c) false (src.unary S.s S.bound un.Address e span (evaluated S.s S.bound S.prev e (tick w))) (R (coded (low.unary h un.Address e (low.low h e) t n m) c) (mk w y))
  address_sim e sim span t n m c w y st tn u room =
      let γ = goal false t n w y in
      bind_place γ (R c) false 36 t n (tick w) y (R c) (begin_value t n w y u) (at_free γ) (omega arith) (R_grows c) (is_place e) span (evaluated S.s S.bound S.prev e (tick w)) (R (coded (low.low h e t n m) c) (mk w y)) (sim t n m c (tick w) y st tn u room) (λ p wa. Value p wa) (λ v wa xa er ha at below. to_value t n w y c 88 v wa xa ha at)

  pub unary_sim : (o : UnOp) (e : TExprT) → Follow S e → is_structure (type_of e) ≡ false → (span : Span) (t n m : ℕ) (c : NodesT ℕ) (w : World) (y : Side) → scratch ≤ t → t < n → Fit w y → Room S (base_of w y) m (unary_sizes h o e (sizes h e)) → SimV (goal (is_place_kind (UnaryK o e)) t n w y) (R c) (is_place_kind (UnaryK o e)) (src.unary S.s S.bound o e span (evaluated S.s S.bound S.prev e (tick w))) (R (coded (low.unary h o e (low.low h e) t n m) c) (mk w y))
  unary_sim un.Deref e sim ns span t n m c w y st tn u room =
      let γ = goal true t n w y in
      uses S γ (way_v γ (R c) true) 12 t n m (tick w) y c (begin_place t n w y u) (at_free γ) (omega arith) st tn e ns room (λ p wa. Place p wa) sim (λ v wa xa flag ha at below. to_place t n w y c 40 v wa xa ha at)
  unary_sim un.Address e sim ns span t n m c w y st tn u room = address_sim e sim span t n m c w y st tn u room
  unary_sim un.Not e sim ns span t n m c w y st tn u room =
      let γ = goal false t n w y in
      uses S γ (way_v γ (R c) false) 36 t n m (tick w) y (coded (part.negated_as (decayed (type_of e)) t) c) (begin_value t n w y u) (at_free γ) (omega arith) st tn e ns room
      (λ v wa. asked Stops (span_of e) wa (is_true wa.store.objects (decayed (type_of e)) v) (λ b. either_way b wa (λ u. Value (truth false) u) (λ u. Value (truth true) u))) sim
      (λ v wa xa flag ha at below. not_as t n w y (span_of e) (decayed (type_of e)) c wa xa v st ha at)
  unary_sim un.Minus e sim ns span t n m c w y st tn u room = one_sim e sim ns span un.Minus ISGN t n m c w y st tn u room by
    where
      by : (v : Cell) → one_word ISGN v ≡ cell_unary un.Minus v
      by Unwritten = refl
      by (Num i) = refl
      by (Ptr o i) = refl
      by Null = refl
  unary_sim un.Flip e sim ns span t n m c w y st tn u room = one_sim e sim ns span un.Flip NOT t n m c w y st tn u room by
    where
      by : (v : Cell) → one_word NOT v ≡ cell_unary un.Flip v
      by Unwritten = refl
      by (Num i) = refl
      by (Ptr o i) = refl
      by Null = refl
  unary_sim un.Plus e sim ns span t n m c w y st tn u room =
      let γ = goal false t n w y in
      uses S γ (way_v γ (R c) false) 36 t n m (tick w) y c (begin_value t n w y u) (at_free γ) (omega arith) st tn e ns room (λ v wa. asked Stops span wa (cell_unary un.Plus v) (λ z. Value z wa)) sim
      (λ v wa xa flag ha at below. word S γ (way_v γ (R c) false) span wa xa c v (λ i. Ok (Num i)) (λ z. Value z wa) (λ i ei. to_value t n w y c 64 (Num i) wa xa ha (at ∙ ei)))

  -- ---- operators on two values

  both_sim : (o : BinOp) (a b : TExprT) → Follow S a → Follow S b → is_structure (type_of a) ≡ false → is_structure (type_of b) ≡ false → (span : Span) (t n m : ℕ) (c : NodesT ℕ) (w : World) (y : Side) → scratch ≤ t → t < n → Fit w y → Room S (base_of w y) m (value_sizes h a ++ value_sizes h b)
      → SimV (goal false t n w y) (R c) false (src.both_operated S.s S.bound o a b span (evaluated S.s S.bound S.prev a (tick w)) (evaluated S.s S.bound S.prev b)) (R (coded (low.value h a (low.low h a) n (n + 1) m) (coded (low.value h b (low.low h b) (low.second a n) (low.second a n + 1) (low.beyond h a m)) (coded (part.operated h o (type_of a) (type_of b) t n (low.second a n) (low.size_at a b n)) c))) (mk w y))
  both_sim o a b sima simb nsa nsb span t n m c w y st tn u room =
      let γ = goal false t n w y in
      let σ = way_v γ (R c) false in
      let n2 : ℕ = low.second a n in
      let m2 : ℕ = low.beyond h a m in
      let n3 : ℕ = low.size_at a b n in
      let c1 : NodesT ℕ = coded (part.operated h o (type_of a) (type_of b) t n n2 n3) c in
      uses S γ σ 36 n (n + 1) m (tick w) y (coded (low.value h b (low.low h b) n2 (n2 + 1) m2) c1) (begin_value t n w y u) (above_free γ n (omega arith)) (omega arith) (omega (arith, st, tn)) (omega arith) a nsa (room_first S γ.base m (value_sizes h a) (value_sizes h b) room)
      (λ v wa. src.with_value Stops S.s S.bound b (evaluated S.s S.bound S.prev b wa) (λ d wb. asked Stops span wb (operated S.s o (type_of a) (type_of b) wb.store.objects v d) (λ z. Value z wb))) sima
      (λ v wa xa flag ha at below.
      uses S γ σ 64 n2 (n2 + 1) m2 wa xa c1 ha (above_free γ n2 (omega arith)) (omega arith) (omega (arith, st, tn)) (omega arith) b nsb (room_second S γ.base m (value_sizes h a) (value_sizes h b) room) (λ d wb. asked Stops span wb (operated S.s o (type_of a) (type_of b) wb.store.objects v d) (λ z. Value z wb)) simb
      (λ d wb xb flag2 hb at2 below2. operates S γ σ span wb 60 xb o (type_of a) (type_of b) t n n2 n3 v d c hb (four false t n n2 n3 w y tn (omega arith) (omega arith)) (below2 n (omega (arith, st, tn)) (omega arith) (eqb_less n n2 (omega arith)) ∙ at) at2 (λ z. Value z wb) (λ z xc hc at3 rest. to_value t n w y c 60 z wb xc hc at3)))

  abbrev k_next : Mid → Res Mid
  k_next t = Next t

  -- what follows a choice
  through : (γ : Goal) (c : NodesT ℕ) (r : Val) (q : Res Mid) → SimV γ k_next false r q → SimV γ (R c) false r (then_next q (R c))
  through γ c (Value v w) q a = (a.0, a.1, ap (λ z. then_next z (R c)) a.2, a.3, a.4)
  through γ c (Place v w) q a = absurd (false≢true a.0)
  through γ c (NoValue w) q a = (a.0, a.1, ap (λ z. then_next z (R c)) a.2, a.3)
  through γ c (Stops f w) q a = kept_through γ f w q (λ z. then_next z (R c)) (λ g t. refl) (λ z. then_grows z (R c) (R_grows c)) a

  -- 1 or 0 for the word of a condition
  as_bool : (known : Bool) (t n : ℕ) (w0 : World) (y0 : Side) (i : ℕ) (w : World) (x : Side) → (known ≡ true → IsFlag (Num i)) → Now (goal false t n w0 y0) 24 w x → x.temps t ≡ Num i → SimV (goal false t n w0 y0) k_next false (Value (truth (not (i == 0))) w) (R (coded (part.as_flag known t) Stop) (mk w x))
  as_bool true t n w0 y0 i w x flag h0 e = (refl, x, refl, less_now (goal false t n w0 y0) 24 w x h0, e ∙ sym (ap cell_in (flag refl)))
  as_bool false t n w0 y0 i w x flag h0 e =
      let γ = goal false t n w0 y0 in
      sets S (SimV γ k_next false) γ 16 w x t (truth (not (i == 0))) (OneO CIB t t) Stop h0 (at_free γ) (ap (λ z. to temporaries t (one_word CIB z) (spent 8 (mk w x))) e) (Value (truth (not (i == 0))) w) (λ y hy at2 rest. (refl, y, refl, less_now γ 16 w y hy, at2))

  -- the second operand of `&&` and `||`, as 1 or 0
  second_sim : (t n : ℕ) (w0 : World) (y0 : Side) (b : TExprT) → Follow S b → is_structure (type_of b) ≡ false → (n2 m2 : ℕ) (w : World) (x : Side) (c : NodesT ℕ) → n ≤ n2 → scratch ≤ t → t < n → Room S (base_of w0 y0) m2 (value_sizes h b) → Now (goal false t n w0 y0) 12 w x → SimV (goal false t n w0 y0) (R c) false (src.truth_of S.s S.bound b (evaluated S.s S.bound S.prev b w)) (then_next (R (coded (low.test h b (low.low h b) t n2 m2) (coded (part.as_flag (tests_flag b) t) Stop)) (mk w x)) (R c))
  second_sim t n w0 y0 b sim ns n2 m2 w x c lt st tn room h0 =
      let γ = goal false t n w0 y0 in
      let last : NodesT ℕ = coded (part.as_flag (tests_flag b) t) Stop in
      through γ c (src.truth_of S.s S.bound b (evaluated S.s S.bound S.prev b w)) (R (coded (low.test h b (low.low h b) t n2 m2) last) (mk w x))
      (tests S γ (way_v γ k_next false) 12 t n2 m2 w x last h0 (at_free γ) lt st (omega (arith, tn, lt)) b ns room (λ u. Value (truth true) u) (λ u. Value (truth false) u) sim
      (λ i wa xa flag ha at below. subst (λ r. SimV γ k_next false r (R last (mk wa xa))) (sym (truth_way (not (i == 0)) wa)) (as_bool (tests_flag b) t n w0 y0 i wa xa flag ha at)))

  -- where the first operand decides
  decided : (t n : ℕ) (w0 : World) (y0 : Side) (i : ℕ) (w : World) (x : Side) (c : NodesT ℕ) → Now (goal false t n w0 y0) 8 w x → SimV (goal false t n w0 y0) (R c) false (Value (Num i) w) (then_next (R (Do (ConstO t i) Stop) (mk w x)) (R c))
  decided t n w0 y0 i w x c h0 =
      let γ = goal false t n w0 y0 in
      through γ c (Value (Num i) w) (R (Do (ConstO t i) Stop) (mk w x)) (sets S (SimV γ k_next false) γ 0 w x t (Num i) (ConstO t i) Stop h0 (at_free γ) refl (Value (Num i) w) (λ y hy at rest. (refl, y, refl, hy, at)))

  pub binary_sim : (o : BinOp) (a b : TExprT) → Follow S a → Follow S b → is_structure (type_of a) ≡ false → is_structure (type_of b) ≡ false → (span : Span) (t n m : ℕ) (c : NodesT ℕ) (w : World) (y : Side) → scratch ≤ t → t < n → Fit w y → Room S (base_of w y) m (value_sizes h a ++ value_sizes h b)
      → SimV (goal false t n w y) (R c) false (src.binary S.s S.bound o a b span (evaluated S.s S.bound S.prev a (tick w)) (evaluated S.s S.bound S.prev b)) (R (coded (low.binary h o a b (low.low h a) (low.low h b) t n m) c) (mk w y))
  binary_sim bin.AndAlso a b sima simb nsa nsb span t n m c w y st tn u room =
      let γ = goal false t n w y in
      let last : NodesT ℕ = coded (low.test h b (low.low h b) t (low.second a n) (low.beyond h a m)) (coded (part.as_flag (tests_flag b) t) Stop) in
      tests S γ (way_v γ (R c) false) 36 t n m (tick w) y (Choose t last (Do (ConstO t 0) Stop) c) (begin_value t n w y u) (at_free γ) (omega arith) st tn a nsa (room_first S γ.base m (value_sizes h a) (value_sizes h b) room) (λ v. src.truth_of S.s S.bound b (evaluated S.s S.bound S.prev b v)) (λ v. Value (truth false) v) sima
      (λ i wa xa flag ha at below. chooses S (SimV γ (R c) false) wa xa t i last (Do (ConstO t 0) Stop) c (λ v. src.truth_of S.s S.bound b (evaluated S.s S.bound S.prev b v)) (λ v. Value (truth false) v) at
      (second_sim t n w y b simb nsb (low.second a n) (low.beyond h a m) wa (paid xa) c (omega arith) st tn (room_second S γ.base m (value_sizes h a) (value_sizes h b) room) (spare γ 40 12 wa (paid xa) (omega arith) (paid_now γ 40 wa xa ha)))
      (decided t n w y 0 wa (paid xa) c (spare γ 40 8 wa (paid xa) (omega arith) (paid_now γ 40 wa xa ha))))
  binary_sim bin.OrElse a b sima simb nsa nsb span t n m c w y st tn u room =
      let γ = goal false t n w y in
      let last : NodesT ℕ = coded (low.test h b (low.low h b) t (low.second a n) (low.beyond h a m)) (coded (part.as_flag (tests_flag b) t) Stop) in
      tests S γ (way_v γ (R c) false) 36 t n m (tick w) y (Choose t (Do (ConstO t 1) Stop) last c) (begin_value t n w y u) (at_free γ) (omega arith) st tn a nsa (room_first S γ.base m (value_sizes h a) (value_sizes h b) room) (λ v. Value (truth true) v) (λ v. src.truth_of S.s S.bound b (evaluated S.s S.bound S.prev b v)) sima
      (λ i wa xa flag ha at below. chooses S (SimV γ (R c) false) wa xa t i (Do (ConstO t 1) Stop) last c (λ v. Value (truth true) v) (λ v. src.truth_of S.s S.bound b (evaluated S.s S.bound S.prev b v)) at
      (decided t n w y 1 wa (paid xa) c (spare γ 40 8 wa (paid xa) (omega arith) (paid_now γ 40 wa xa ha)))
      (second_sim t n w y b simb nsb (low.second a n) (low.beyond h a m) wa (paid xa) c (omega arith) st tn (room_second S γ.base m (value_sizes h a) (value_sizes h b) room) (spare γ 40 12 wa (paid xa) (omega arith) (paid_now γ 40 wa xa ha))))
  binary_sim bin.Mul a b sima simb nsa nsb span t n m c w y st tn u room = both_sim bin.Mul a b sima simb nsa nsb span t n m c w y st tn u room
  binary_sim bin.Div a b sima simb nsa nsb span t n m c w y st tn u room = both_sim bin.Div a b sima simb nsa nsb span t n m c w y st tn u room
  binary_sim bin.Mod a b sima simb nsa nsb span t n m c w y st tn u room = both_sim bin.Mod a b sima simb nsa nsb span t n m c w y st tn u room
  binary_sim bin.Add a b sima simb nsa nsb span t n m c w y st tn u room = both_sim bin.Add a b sima simb nsa nsb span t n m c w y st tn u room
  binary_sim bin.Sub a b sima simb nsa nsb span t n m c w y st tn u room = both_sim bin.Sub a b sima simb nsa nsb span t n m c w y st tn u room
  binary_sim bin.Shl a b sima simb nsa nsb span t n m c w y st tn u room = both_sim bin.Shl a b sima simb nsa nsb span t n m c w y st tn u room
  binary_sim bin.Shr a b sima simb nsa nsb span t n m c w y st tn u room = both_sim bin.Shr a b sima simb nsa nsb span t n m c w y st tn u room
  binary_sim bin.Less a b sima simb nsa nsb span t n m c w y st tn u room = both_sim bin.Less a b sima simb nsa nsb span t n m c w y st tn u room
  binary_sim bin.LessEq a b sima simb nsa nsb span t n m c w y st tn u room = both_sim bin.LessEq a b sima simb nsa nsb span t n m c w y st tn u room
  binary_sim bin.More a b sima simb nsa nsb span t n m c w y st tn u room = both_sim bin.More a b sima simb nsa nsb span t n m c w y st tn u room
  binary_sim bin.MoreEq a b sima simb nsa nsb span t n m c w y st tn u room = both_sim bin.MoreEq a b sima simb nsa nsb span t n m c w y st tn u room
  binary_sim bin.Equal a b sima simb nsa nsb span t n m c w y st tn u room = both_sim bin.Equal a b sima simb nsa nsb span t n m c w y st tn u room
  binary_sim bin.NotEqual a b sima simb nsa nsb span t n m c w y st tn u room = both_sim bin.NotEqual a b sima simb nsa nsb span t n m c w y st tn u room
  binary_sim bin.BitAnd a b sima simb nsa nsb span t n m c w y st tn u room = both_sim bin.BitAnd a b sima simb nsa nsb span t n m c w y st tn u room
  binary_sim bin.BitXor a b sima simb nsa nsb span t n m c w y st tn u room = both_sim bin.BitXor a b sima simb nsa nsb span t n m c w y st tn u room
  binary_sim bin.BitOr a b sima simb nsa nsb span t n m c w y st tn u room = both_sim bin.BitOr a b sima simb nsa nsb span t n m c w y st tn u room
