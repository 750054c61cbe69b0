-- Assignments, steps, elements, members, casts and ports: mid code follows them.
use Rattle.std.proofs.Common.{◌++◌, ◌≡◌, ℕ, ◌+◌, ◌<◌, ◌≤◌, true, false, eqb, List, [], ◌∷◌, length, Option, Some, None, refl, sym, ap, ◌∙◌, subst, arith, if◌then◌else◌}
use Rattle.std.proofs.lemmas.Bool.{false≢true}
use Rattle.kit_base.specs.declared.event.Event.TheVariants as event
use Rattle.c_tree.specs.declared.span.Span.{Span}
use Rattle.c_tree.specs.declared.operator.BinOp.{BinOp}
use Rattle.c_tree.specs.declared.operator.StepOp.{StepOp}
use Rattle.c_tree.specs.declared.operator.StepOp.TheVariants as stepping
use Rattle.c_types.specs.Types.{Ty, IntY}
use Rattle.c_types.specs.Typed.{TExprT}
use Rattle.c_exprs.specs.Nodes.{is_place}
use Rattle.obj_mem.specs.declared.cell.Cell.{Cell}
use Rattle.obj_mem.specs.declared.cell.Cell.TheVariants.{Unwritten, Num, Ptr, Null}
use Rattle.obj_mem.specs.Worlds.{World, spend, happened, answered}
use Rattle.obj_mem.specs.Queries.{word_of, step}
use Rattle.c_meaning.specs.declared.end.End.{End}
use Rattle.c_meaning.specs.declared.end.End.TheVariants.{Starved}
use Rattle.c_meaning.specs.Kinds.{type_of, span_of}
use Rattle.c_types.specs.Kinds.{is_structure}
use Rattle.c_meaning.specs.Outcomes.{Val, Value, Place, NoValue, Stops, asked, then_place}
use Rattle.c_meaning.specs.Setting.{words}
use Rattle.c_meaning.specs.Operators.{converted, read_as, operated, stepped}
use Rattle.c_meaning.specs.Expressions as src
use Rattle.c_meaning.specs.Expressions.{evaluated, old_or_new}
use Rattle.mid_code.specs.Code.{ConstO, StepO, LoadO, StoreO, OutO, NodesT, Do}
use Rattle.mid_code.specs.Meaning.{Res, did}
use Rattle.mid_code.specs.States.{temporaries, to, spent}
use Rattle.mid_code.specs.States as mid
use Rattle.lower_trees.specs.Pieces.{coded}
use Rattle.lower_trees.specs.Shape.{Shape, shape_in}
use Rattle.lower_trees.specs.Flags.{is_flag}
use Rattle.lower_trees.specs.Parts as part
use Rattle.lower_trees.specs.Counts.{sizes, value_sizes}
use Rattle.lower_trees.specs.Expressions as low
use Rattle.mid_lower.proofs.Grows.{Mid, Grows}
use Rattle.mid_lower.proofs.Under.{Under, same}
use Rattle.mid_lower.proofs.Lives.{Later, later_same}
use Rattle.mid_lower.proofs.Fits.{Site}
use Rattle.mid_lower.proofs.Room.{Room, room_first, room_second}
use Rattle.mid_lower.proofs.Following.{base_of, Fit, Free, Side, mk, Goal, goal, stays_later, Now, SimV, Way, way_v, scratch, set, paid, paid_now, set_now, less_now, fin_now, stopped, spare, now_work, bind_place, at_free, above_free, eqb_less, eqb_more, putting, put_at, M, M_grows, op, sets}
use Rattle.mid_lower.proofs.Instructions.{Four, Sets, operates, steps, step_eq}
use Rattle.mid_lower.proofs.Storing.{Further, loads, converts, ups, downs}
use Rattle.mid_lower.proofs.Values.{Follow, uses}
use Rattle.mid_lower.proofs.Choices.{assigns}
use Rattle.mid_lower.proofs.OperatorForms.{four, begin_place, begin_value, to_value, to_place}

unknown : {A : Type 0} → false ≡ true → A
unknown e = absurd (false≢true e)

abbrev IsStop : Val → Type 0
IsStop (Stops f w) = Unit {0}
IsStop _ = ⊥

no_stop : (f : End) (w : World) (p : Cell) (u : World) → Stops f w ≡ Place p u → ⊥
no_stop f w p u e = subst IsStop e tt

module _ (S : Site) where
  abbrev R : NodesT ℕ → Mid → Res Mid
  R = M S

  abbrev R_grows : (c : NodesT ℕ) (t : Mid) → Grows t (R c t)
  R_grows = M_grows S

  abbrev h : Shape
  h = shape_in S.s

  abbrev tick : World → World
  tick w = spend 1 w

  pub assign_sim : (o : Option BinOp) (a b : TExprT) → Follow S a → Follow S b → is_structure (type_of a) ≡ false → is_structure (type_of b) ≡ false → (span : Span) (t n m : ℕ) (c : NodesT ℕ) (w : World) (y : Side) → scratch ≤ t → t < n → Fit w y → Room S (base_of w y) m (sizes h a ++ value_sizes h b)
      → SimV (goal false t n w y) (R c) false (src.assign S.s S.bound o a b span (evaluated S.s S.bound S.prev a (tick w)) (evaluated S.s S.bound S.prev b)) (R (coded (low.assign h o a b (low.low h a) (low.low h b) t n m) c) (mk w y))
  assign_sim None a b sima simb nsa nsb span t n m c w y st tn u room =
      let γ = goal false t n w y in
      let σ = way_v γ (R c) false in
      let n2 : ℕ = low.behind_place a n + 2 in
      let m2 : ℕ = m + length (sizes h a) in
      let c1 : NodesT ℕ = coded (part.converted (type_of a) (is_flag b) t) (Do (StoreO n t) c) in
      let c0 : NodesT ℕ = coded (low.value h b (low.low h b) t n2 m2) c1 in
      subst (λ z. SimV γ (R c) false (src.assign S.s S.bound None a b span (evaluated S.s S.bound S.prev a (tick w)) (evaluated S.s S.bound S.prev b)) (R (coded (low.low h a n (n + 1) m) (coded (low.value h b (low.low h b) t n2 m2) (coded (part.converted (type_of a) (is_flag b) t) (if z then coded (part.copied_between (words S.s (type_of a)) t n) c else Do (StoreO n t) c)))) (mk w y))) (sym nsa)
      (bind_place γ (R c) false 36 n (n + 1) (tick w) y (R c0) (begin_value S t n w y u) (above_free γ n (omega arith)) (omega arith) (R_grows c0) (is_place a) span (evaluated S.s S.bound S.prev a (tick w)) (R (coded (low.low h a n (n + 1) m) c0) (mk w y)) (sima n (n + 1) m c0 (tick w) y (omega (arith, st, tn)) (omega arith) u (room_first S γ.base m (sizes h a) (value_sizes h b) room))
      (λ p wa. src.with_value Stops S.s S.bound b (evaluated S.s S.bound S.prev b wa) (λ d wb. src.assigned S.s S.bound a span p d wb))
      (λ p wa xa er ha at below.
      uses S γ σ 88 t n2 m2 wa xa c1 ha (at_free γ) (omega arith) st (omega (arith, tn)) b nsb (room_second S γ.base m (sizes h a) (value_sizes h b) room) (λ d wb. src.assigned S.s S.bound a span p d wb) simb
      (λ d wb xb flag hb at2 below2. assigns S γ (SimV γ (R c) false) (λ f w m q. q) 100 span wb xb a (is_flag b) n t p d c nsa hb (at_free γ) (eqb_more n t tn) (below2 n (omega (arith, st, tn)) (omega arith) (eqb_more n t tn) ∙ at) at2 flag
      (λ z v xc hc at3 rest. to_value S t n w y c 100 z v xc hc at3))))
  assign_sim (Some o) a b sima simb nsa nsb span t n m c w y st tn u room =
      let γ = goal false t n w y in
      let σ = way_v γ (R c) false in
      let nb : ℕ = low.behind_place a n in
      let m2 : ℕ = m + length (sizes h a) in
      let c3 : NodesT ℕ = coded (part.converted (type_of a) false t) (Do (StoreO n t) c) in
      let c2 : NodesT ℕ = coded (part.operated h o (type_of a) (type_of b) t t nb (nb + 1)) c3 in
      let c1 : NodesT ℕ = Do (LoadO t n) c2 in
      let c0 : NodesT ℕ = coded (low.value h b (low.low h b) nb (nb + 2) m2) c1 in
      let four : Four γ t t nb (nb + 1) = record { free_t = at_free γ; free_b = above_free γ nb (omega arith); free_u = above_free γ (nb + 1) (omega arith); a_b = eqb_less t nb (omega (arith, tn)); a_u = eqb_less t (nb + 1) (omega (arith, tn)); b_u = eqb_less nb (nb + 1) (omega arith); u_b = eqb_more (nb + 1) nb (omega arith); t_u = eqb_less t (nb + 1) (omega (arith, tn)) } in
      bind_place γ (R c) false 36 n (n + 1) (tick w) y (R c0) (begin_value S t n w y u) (above_free γ n (omega arith)) (omega arith) (R_grows c0) (is_place a) span (evaluated S.s S.bound S.prev a (tick w)) (R (coded (low.low h a n (n + 1) m) c0) (mk w y)) (sima n (n + 1) m c0 (tick w) y (omega (arith, st, tn)) (omega arith) u (room_first S γ.base m (sizes h a) (value_sizes h b) room))
      (λ p wa. src.with_value Stops S.s S.bound b (evaluated S.s S.bound S.prev b wa) (λ d wb. asked Stops (span_of a) wb (read_as (type_of a) wb.store.objects p) (λ old. asked Stops span wb (operated S.s o (type_of a) (type_of b) wb.store.objects old d) (λ z. src.assigned S.s S.bound a span p z wb))))
      (λ p wa xa er ha at below.
      uses S γ σ 88 nb (nb + 2) m2 wa xa c1 ha (above_free γ nb (omega arith)) (omega arith) (omega (arith, st, tn)) (omega arith) b nsb (room_second S γ.base m (sizes h a) (value_sizes h b) room) (λ d wb. asked Stops (span_of a) wb (read_as (type_of a) wb.store.objects p) (λ old. asked Stops span wb (operated S.s o (type_of a) (type_of b) wb.store.objects old d) (λ z. src.assigned S.s S.bound a span p z wb))) simb
      (λ d wb xb flag hb at2 below2.
      let placed : xb.temps n ≡ p = below2 n (omega (arith, st, tn)) (omega arith) (eqb_less n nb (omega arith)) ∙ at in
      loads S γ σ (span_of a) wb 108 xb (type_of a) t n p c2 hb (at_free γ) placed (λ old. asked Stops span wb (operated S.s o (type_of a) (type_of b) wb.store.objects old d) (λ z. src.assigned S.s S.bound a span p z wb))
      (λ old xc hc at3 rest3. operates S γ σ span wb 76 xc o (type_of a) (type_of b) t t nb (nb + 1) old d c3 hc four at3 (rest3 nb (eqb_more nb t (omega (arith, tn))) ∙ at2) (λ z. src.assigned S.s S.bound a span p z wb)
      (λ z xd hd at4 rest4. assigns S γ (SimV γ (R c) false) (λ f w m q. q) 60 span wb xd a false n t p z c nsa hd (at_free γ) (eqb_more n t tn)
      (rest4 n (eqb_more n t tn) (eqb_less n nb (omega arith)) (eqb_less n (nb + 1) (omega arith)) ∙ rest3 n (eqb_more n t tn) ∙ placed) at4 (λ e. unknown e)
      (λ v u2 xe he at5 rest5. to_value S t n w y c 60 v u2 xe he at5)))))

  -- ---- steps

  -- one more or one less than the cell in a
  made : (o : StepOp) (γ : Goal) (σ : Way γ) (span : Span) (w : World) (s0 : ℕ) (x : Side) (ty : Ty) (t a u : ℕ) (va : Cell) (c : NodesT ℕ) → Now γ (s0 + 24) w x → Free γ t → Free γ u → eqb a u ≡ false → x.temps a ≡ va → (go : Cell → σ.R) → Further S γ σ span w s0 x t u c go
      → σ.T (asked σ.stop span w (operated S.s (src.step_operator o) ty IntY w.store.objects va (Num 1)) go) (R (coded (low.step_made h (low.counts_up o) ty t a u) c) (mk w x))
  made stepping.PreUp γ σ span w s0 x ty t a u va c h0 free free_u ne e go f = ups S γ σ span w s0 x ty t a u va c h0 free free_u ne e go f
  made stepping.PostUp γ σ span w s0 x ty t a u va c h0 free free_u ne e go f = ups S γ σ span w s0 x ty t a u va c h0 free free_u ne e go f
  made stepping.PreDown γ σ span w s0 x ty t a u va c h0 free free_u ne e go f = downs S γ σ span w s0 x ty t a u va c h0 free free_u ne e go f
  made stepping.PostDown γ σ span w s0 x ty t a u va c h0 free free_u ne e go f = downs S γ σ span w s0 x ty t a u va c h0 free free_u ne e go f

  module _ (a : TExprT) (sima : Follow S a) (nsa : is_structure (type_of a) ≡ false) (o : StepOp) (span : Span) (t n m : ℕ) (c : NodesT ℕ) (w : World) (y : Side) (st : scratch ≤ t) (tn : t < n) (u : Fit w y) (room : Room S (base_of w y) m (sizes h a)) where
    abbrev γ : Goal
    γ = goal false t n w y

    -- the new cell is given
    fore : SimV γ (R c) false (then_place span (evaluated S.s S.bound S.prev a (tick w)) (λ p wa. asked Stops (span_of a) wa (read_as (type_of a) wa.store.objects p) (λ old. asked Stops span wa (operated S.s (src.step_operator o) (type_of a) IntY wa.store.objects old (Num 1)) (λ z. old_or_new false old (src.assigned S.s S.bound a span p z wa)))))
        (R (coded (low.low h a n (n + 2) m) (coded (low.stepped_to h (low.counts_up o) (type_of a) t t n) c)) (mk w y))
    fore =
        let σ = way_v γ (R c) false in
        let c2 : NodesT ℕ = coded (part.converted (type_of a) false t) (Do (StoreO n t) c) in
        let c1 : NodesT ℕ = coded (low.step_made h (low.counts_up o) (type_of a) t t (n + 1)) c2 in
        let c0 : NodesT ℕ = Do (LoadO t n) c1 in
        bind_place γ (R c) false 36 n (n + 2) (tick w) y (R c0) (begin_value S t n w y u) (above_free γ n (omega arith)) (omega arith) (R_grows c0) (is_place a) span (evaluated S.s S.bound S.prev a (tick w)) (R (coded (low.low h a n (n + 2) m) c0) (mk w y)) (sima n (n + 2) m c0 (tick w) y (omega (arith, st, tn)) (omega arith) u room)
        (λ p wa. asked Stops (span_of a) wa (read_as (type_of a) wa.store.objects p) (λ old. asked Stops span wa (operated S.s (src.step_operator o) (type_of a) IntY wa.store.objects old (Num 1)) (λ z. old_or_new false old (src.assigned S.s S.bound a span p z wa))))
        (λ p wa xa er ha at below. loads S γ σ (span_of a) wa 80 xa (type_of a) t n p c1 ha (at_free γ) at (λ old. asked Stops span wa (operated S.s (src.step_operator o) (type_of a) IntY wa.store.objects old (Num 1)) (λ z. old_or_new false old (src.assigned S.s S.bound a span p z wa)))
        (λ old xb hb at2 rest2. made o γ σ span wa 56 xb (type_of a) t t (n + 1) old c2 hb (at_free γ) (above_free γ (n + 1) (omega arith)) (eqb_less t (n + 1) (omega (arith, tn))) at2 (λ z. old_or_new false old (src.assigned S.s S.bound a span p z wa))
        (λ z xc hc at3 rest3. assigns S γ (λ v q. SimV γ (R c) false (old_or_new false old v) q) (λ f w m q. q) 40 span wa xc a false n t p z c nsa hc (at_free γ) (eqb_more n t tn) (rest3 n (eqb_more n t tn) (eqb_less n (n + 1) (omega arith)) ∙ rest2 n (eqb_more n t tn) ∙ at) at3 (λ e. unknown e)
        (λ v u2 xd hd at4 rest4. to_value S t n w y c 40 v u2 xd hd at4))))

    -- the old cell is given
    back : SimV γ (R c) false (then_place span (evaluated S.s S.bound S.prev a (tick w)) (λ p wa. asked Stops (span_of a) wa (read_as (type_of a) wa.store.objects p) (λ old. asked Stops span wa (operated S.s (src.step_operator o) (type_of a) IntY wa.store.objects old (Num 1)) (λ z. old_or_new true old (src.assigned S.s S.bound a span p z wa)))))
        (R (coded (low.low h a n (n + 2) m) (coded (low.stepped_to h (low.counts_up o) (type_of a) (n + 1) t n) c)) (mk w y))
    back =
        let σ = way_v γ (R c) false in
        let c2 : NodesT ℕ = coded (part.converted (type_of a) false (n + 1)) (Do (StoreO n (n + 1)) c) in
        let c1 : NodesT ℕ = coded (low.step_made h (low.counts_up o) (type_of a) (n + 1) t (n + 1)) c2 in
        let c0 : NodesT ℕ = Do (LoadO t n) c1 in
        bind_place γ (R c) false 36 n (n + 2) (tick w) y (R c0) (begin_value S t n w y u) (above_free γ n (omega arith)) (omega arith) (R_grows c0) (is_place a) span (evaluated S.s S.bound S.prev a (tick w)) (R (coded (low.low h a n (n + 2) m) c0) (mk w y)) (sima n (n + 2) m c0 (tick w) y (omega (arith, st, tn)) (omega arith) u room)
        (λ p wa. asked Stops (span_of a) wa (read_as (type_of a) wa.store.objects p) (λ old. asked Stops span wa (operated S.s (src.step_operator o) (type_of a) IntY wa.store.objects old (Num 1)) (λ z. old_or_new true old (src.assigned S.s S.bound a span p z wa))))
        (λ p wa xa er ha at below. loads S γ σ (span_of a) wa 80 xa (type_of a) t n p c1 ha (at_free γ) at (λ old. asked Stops span wa (operated S.s (src.step_operator o) (type_of a) IntY wa.store.objects old (Num 1)) (λ z. old_or_new true old (src.assigned S.s S.bound a span p z wa)))
        (λ old xb hb at2 rest2. made o γ σ span wa 56 xb (type_of a) (n + 1) t (n + 1) old c2 hb (above_free γ (n + 1) (omega arith)) (above_free γ (n + 1) (omega arith)) (eqb_less t (n + 1) (omega (arith, tn))) at2 (λ z. old_or_new true old (src.assigned S.s S.bound a span p z wa))
        (λ z xc hc at3 rest3. assigns S γ (λ v q. SimV γ (R c) false (old_or_new true old v) q) (λ f w m q. q) 40 span wa xc a false n (n + 1) p z c nsa hc (above_free γ (n + 1) (omega arith)) (eqb_less n (n + 1) (omega arith)) (rest3 n (eqb_less n (n + 1) (omega arith)) (eqb_less n (n + 1) (omega arith)) ∙ rest2 n (eqb_more n t tn) ∙ at) at3 (λ e. unknown e)
        (λ v u2 xd hd at4 rest4. to_value S t n w y c 40 old u2 xd hd (rest4 t (eqb_less t (n + 1) (omega (arith, tn))) ∙ rest3 t (eqb_less t (n + 1) (omega (arith, tn))) (eqb_less t (n + 1) (omega (arith, tn))) ∙ at2)))))

  pub step_sim : (o : StepOp) (a : TExprT) → Follow S a → is_structure (type_of a) ≡ false → (span : Span) (t n m : ℕ) (c : NodesT ℕ) (w : World) (y : Side) → scratch ≤ t → t < n → Fit w y → Room S (base_of w y) m (sizes h a)
      → SimV (goal false t n w y) (R c) false (src.step_taken S.s S.bound o a span (evaluated S.s S.bound S.prev a (tick w))) (R (coded (low.step_taken h o a (low.low h a) t n m) c) (mk w y))
  step_sim stepping.PreUp a sima nsa span t n m c w y st tn u room = fore a sima nsa stepping.PreUp span t n m c w y st tn u room
  step_sim stepping.PreDown a sima nsa span t n m c w y st tn u room = fore a sima nsa stepping.PreDown span t n m c w y st tn u room
  step_sim stepping.PostUp a sima nsa span t n m c w y st tn u room = back a sima nsa stepping.PostUp span t n m c w y st tn u room
  step_sim stepping.PostDown a sima nsa span t n m c w y st tn u room = back a sima nsa stepping.PostDown span t n m c w y st tn u room

  -- ---- elements, members, casts

  pub index_sim : (ty : Ty) (a b : TExprT) → Follow S a → Follow S b → is_structure (type_of a) ≡ false → is_structure (type_of b) ≡ false → (span : Span) (t n m : ℕ) (c : NodesT ℕ) (w : World) (y : Side) → scratch ≤ t → t < n → Fit w y → Room S (base_of w y) m (value_sizes h a ++ value_sizes h b)
      → SimV (goal true t n w y) (R c) true (src.index S.s S.bound ty a b span (evaluated S.s S.bound S.prev a (tick w)) (evaluated S.s S.bound S.prev b)) (R (coded (low.index h ty a b (low.low h a) (low.low h b) t n m) c) (mk w y))
  index_sim ty a b sima simb nsa nsb span t n m c w y st tn u room =
      let γ = goal true t n w y in
      let σ = way_v γ (R c) true in
      let n2 : ℕ = low.second a n in
      let m2 : ℕ = low.beyond h a m in
      let n3 : ℕ = low.size_at a b n in
      let c1 : NodesT ℕ = coded (part.stepped (words S.s ty) t n n2 n3) c in
      uses S γ σ 12 n (n + 1) m (tick w) y (coded (low.value h b (low.low h b) n2 (n2 + 1) m2) c1) (begin_place S t n w y u) (above_free γ n (omega arith)) (omega arith) (omega (arith, st, tn)) (omega arith) a nsa (room_first S γ.base m (value_sizes h a) (value_sizes h b) room)
      (λ v wa. src.with_value Stops S.s S.bound b (evaluated S.s S.bound S.prev b wa) (λ d wb. asked Stops span wb (stepped (words S.s ty) v d) (λ q. Place q wb))) sima
      (λ v wa xa flag ha at below.
      uses S γ σ 40 n2 (n2 + 1) m2 wa xa c1 ha (above_free γ n2 (omega arith)) (omega arith) (omega (arith, st, tn)) (omega arith) b nsb (room_second S γ.base m (value_sizes h a) (value_sizes h b) room) (λ d wb. asked Stops span wb (stepped (words S.s ty) v d) (λ q. Place q wb)) simb
      (λ d wb xb flag2 hb at2 below2. steps S γ σ span wb 36 xb (words S.s ty) t n n2 n3 v d c hb (four true t n n2 n3 w y tn (omega arith) (omega arith)) (below2 n (omega (arith, st, tn)) (omega arith) (eqb_less n n2 (omega arith)) ∙ at) at2 (λ q. Place q wb) (λ q xc hc at3 rest. to_place S t n w y c 36 q wb xc hc at3)))

  -- a pointer so many words behind that in n comes to t
  pub behind_sim : (γ : Goal) (σ : Way γ) (s0 : ℕ) (span : Span) (t n offset : ℕ) (p : Cell) (wa : World) (xa : Side) (c : NodesT ℕ) → Now γ (s0 + 16) wa xa → ((j : ℕ) → scratch + γ.skip ≤ j → j < γ.first → eqb j γ.at ≡ false → eqb j t ≡ false) → eqb n t ≡ false → xa.temps n ≡ p → (go : Cell → σ.R) → Sets S γ σ s0 wa xa t c go
      → σ.T (asked σ.stop span wa (step p offset) go) (R (coded (part.moved_by t n offset) c) (mk wa xa))
  behind_sim γ σ s0 span t n offset p wa xa c h0 free ne e go f =
      sets S σ.T γ (s0 + 8) wa xa t (Num offset) (ConstO t offset) (Do (StepO t n t) c) (spare γ (s0 + 16) (s0 + 8 + 8) wa xa (omega arith) h0) free refl (asked σ.stop span wa (step p offset) go)
      (λ xb hb at2 rest2. op S γ σ s0 span wa xb t (step p offset) (mid.stepped (xb.temps n) (xb.temps t)) (StepO t n t) c hb free
      (same (step p offset) (mid.stepped (xb.temps n) (xb.temps t)) (step_eq p (Num offset) (xb.temps n) (xb.temps t) (rest2 n ne ∙ e) at2)) refl go (λ q xc hc at3 rest3. f q xc hc at3 (λ j nj. rest3 j nj ∙ rest2 j nj)))

  pub arrow_sim : (a : TExprT) → Follow S a → is_structure (type_of a) ≡ false → (span : Span) (offset t n m : ℕ) (c : NodesT ℕ) (w : World) (y : Side) → scratch ≤ t → t < n → Fit w y → Room S (base_of w y) m (value_sizes h a)
      → SimV (goal true t n w y) (R c) true (src.arrow S.s S.bound a span offset (evaluated S.s S.bound S.prev a (tick w))) (R (coded (low.value h a (low.low h a) n (n + 1) m) (coded (part.moved_by t n offset) c)) (mk w y))
  arrow_sim a sima nsa span offset t n m c w y st tn u room =
      let γ = goal true t n w y in
      let σ = way_v γ (R c) true in
      uses S γ σ 12 n (n + 1) m (tick w) y (coded (part.moved_by t n offset) c) (begin_place S t n w y u) (above_free γ n (omega arith)) (omega arith) (omega (arith, st, tn)) (omega arith) a nsa room (λ p wa. asked Stops span wa (step p offset) (λ q. Place q wa)) sima
      (λ p wa xa flag ha at below. behind_sim γ σ 24 span t n offset p wa xa c ha (at_free γ) (eqb_more n t tn) at (λ q. Place q wa) (λ q xc hc at3 rest3. to_place S t n w y c 24 q wa xc hc at3))

  -- a member of a place
  pub member_sim : (ty : Ty) (a : TExprT) → Follow S a → is_place a ≡ true → (span : Span) (offset t n m : ℕ) (c : NodesT ℕ) (w : World) (y : Side) → scratch ≤ t → t < n → Fit w y → Room S (base_of w y) m (sizes h a)
      → SimV (goal true t n w y) (R c) true (src.member_at ty a span offset (evaluated S.s S.bound S.prev a (tick w))) (R (coded (low.low h a n (n + 1) m) (coded (part.moved_by t n offset) c)) (mk w y))
  member_sim ty a sima placed span offset t n m c w y st tn u room =
      by (evaluated S.s S.bound S.prev a (tick w)) (R (coded (low.low h a n (n + 1) m) (coded (part.moved_by t n offset) c)) (mk w y))
      (subst (λ b. SimV (goal b n (n + 1) (tick w) y) (R (coded (part.moved_by t n offset) c)) b (evaluated S.s S.bound S.prev a (tick w)) (R (coded (low.low h a n (n + 1) m) (coded (part.moved_by t n offset) c)) (mk w y))) placed (sima n (n + 1) m (coded (part.moved_by t n offset) c) (tick w) y (omega (arith, st, tn)) (omega arith) u room))
    where
      by : (r : Val) (q : Res Mid) → SimV (goal true n (n + 1) (tick w) y) (R (coded (part.moved_by t n offset) c)) true r q → SimV (goal true t n w y) (R c) true (src.member_at ty a span offset r) q
      by (Place p wa) q k =
          let γ = goal true t n w y in
          let σ = way_v γ (R c) true in
          bind_place γ (R c) true 12 n (n + 1) (tick w) y (R (coded (part.moved_by t n offset) c)) (begin_place S t n w y u) (above_free γ n (omega arith)) (omega arith) (R_grows (coded (part.moved_by t n offset) c)) true span (Place p wa) q k (λ p2 wb. asked Stops span wb (step p2 offset) (λ r. Place r wb))
          (λ p2 wb xb er hb at below. behind_sim γ σ 48 span t n offset p2 wb xb c hb (at_free γ) (eqb_more n t tn) at (λ r. Place r wb) (λ r xc hc at3 rest3. to_place S t n w y c 48 r wb xc hc at3))
      by (Value p wa) q k = absurd (false≢true (sym k.0))
      by (NoValue wa) q k = absurd (false≢true (sym k.0))
      by (Stops f wa) q k = bind_place (goal true t n w y) (R c) true 12 n (n + 1) (tick w) y (R (coded (part.moved_by t n offset) c)) (begin_place S t n w y u) (above_free (goal true t n w y) n (omega arith)) (omega arith) (R_grows (coded (part.moved_by t n offset) c)) true span (Stops f wa) q k (λ p2 wb. Place p2 wb) (λ p2 wb xb er hb at below. absurd (no_stop f wa p2 wb er))

  pub cast_sim : (ty : Ty) (a : TExprT) → Follow S a → is_structure (type_of a) ≡ false → (span : Span) (t n m : ℕ) (c : NodesT ℕ) (w : World) (y : Side) → scratch ≤ t → t < n → Fit w y → Room S (base_of w y) m (value_sizes h a)
      → SimV (goal false t n w y) (R c) false (src.with_value Stops S.s S.bound a (evaluated S.s S.bound S.prev a (tick w)) (λ d v. asked Stops span v (converted ty d) (λ z. Value z v))) (R (coded (low.value h a (low.low h a) t n m) (coded (part.converted ty (is_flag a) t) c)) (mk w y))
  cast_sim ty a sima nsa span t n m c w y st tn u room =
      let γ = goal false t n w y in
      let σ = way_v γ (R c) false in
      uses S γ σ 36 t n m (tick w) y (coded (part.converted ty (is_flag a) t) c) (begin_value S t n w y u) (at_free γ) (omega arith) st tn a nsa room (λ d v. asked Stops span v (converted ty d) (λ z. Value z v)) sima
      (λ d wa xa flag ha at below. converts S γ σ span wa 56 xa ty (is_flag a) t d c ha (at_free γ) at flag (λ z. Value z wa) (λ z xb hb at2 rest. to_value S t n w y c 56 z wa xb hb at2))

  -- ---- ports

  pub event_now : (γ : Goal) (s0 : ℕ) (w v : World) (x : Side) → v.store.objects ≡ w.store.objects → v.store.function ≡ w.store.function → v.store.locals ≡ w.store.locals → v.work ≡ w.work → Now γ (s0 + 8) w x → Now γ s0 v (paid x)
  event_now γ s0 w v x eo ef el ew h0 = record {
    stays = stays_later γ.base w x v (paid x) ef (ap (λ l. length l) el) refl refl (subst (λ os. Under os x.objs) (sym eo) h0.stays.fit.under) (subst (Later w.store.objects) (sym eo) (later_same w.store.objects)) h0.stays;
    below = h0.below;
    cost = omega (arith, h0.cost, ew);
  }

  pub input_sim : (port : ℕ) (xs : List ℕ) (t n : ℕ) (c : NodesT ℕ) (w : World) (y : Side) → Fit w y
      → SimV (goal false t n w y) (R c) false (src.input port xs (tick w)) (did (mid.input temporaries t port xs (spent 8 (mk w y))) (R c))
  input_sim port [] t n c w y u = stopped (goal false t n w y) Starved (tick w) (paid y) _ (fin_now (goal false t n w y) 28 (tick w) (paid y) (paid_now (goal false t n w y) 28 (tick w) y (begin_value S t n w y u))) refl
  input_sim port (i ∷ rest) t n c w y u =
      let γ = goal false t n w y in
      let v : World = answered port i rest (tick w) in
      let h1 = event_now γ 28 (tick w) v y refl refl refl refl (begin_value S t n w y u) in
      to_value S t n w y c 20 (Num i) v (record y { temps = putting y.temps t (Num i); work = y.work + 8 })
      (now_work γ 20 20 v v (set t (Num i) (paid y)) (y.work + 8) refl (omega (arith, h1.cost)) (set_now γ 20 v (paid y) t (Num i) (at_free γ) h1)) (put_at y.temps t (Num i))

  pub output_sim : (port : ℕ) (a : TExprT) → Follow S a → is_structure (type_of a) ≡ false → (t n m : ℕ) (c : NodesT ℕ) (w : World) (y : Side) → scratch ≤ t → t < n → Fit w y → Room S (base_of w y) m (value_sizes h a)
      → SimV (goal false t n w y) (R c) false (src.output S.s S.bound port a (evaluated S.s S.bound S.prev a (tick w))) (R (coded (low.value h a (low.low h a) t n m) (Do (OutO port t) c)) (mk w y))
  output_sim port a sima nsa t n m c w y st tn u room =
      let γ = goal false t n w y in
      let σ = way_v γ (R c) false in
      uses S γ σ 36 t n m (tick w) y (Do (OutO port t) c) (begin_value S t n w y u) (at_free γ) (omega arith) st tn a nsa room (λ d v. asked Stops (span_of a) v (word_of d) (λ z. NoValue (happened (event.Out port z) v))) sima
      (λ d wa xa flag ha at below. out (span_of a) wa xa d ha at)
    where
      out : (span : Span) (wa : World) (xa : Side) (d : Cell) → Now (goal false t n w y) 64 wa xa → xa.temps t ≡ d → SimV (goal false t n w y) (R c) false (asked Stops span wa (word_of d) (λ z. NoValue (happened (event.Out port z) wa))) (R (Do (OutO port t) c) (mk wa xa))
      out span wa xa Unwritten ha at = R_grows (Do (OutO port t) c) (mk wa xa)
      out span wa xa (Ptr o i) ha at = R_grows (Do (OutO port t) c) (mk wa xa)
      out span wa xa Null ha at = R_grows (Do (OutO port t) c) (mk wa xa)
      out span wa xa (Num z) ha at = (
        refl,
        paid xa,
        ap (λ v. did (mid.output port (word_of v) (spent 8 (mk wa xa))) (R c)) at,
        less_now (goal false t n w y) 56 (happened (event.Out port z) wa) (paid xa) (event_now (goal false t n w y) 56 wa (happened (event.Out port z) wa) xa refl refl refl refl ha),
      )
