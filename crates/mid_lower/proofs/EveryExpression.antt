-- Every form of an expression: mid code follows it.
use Rattle.std.proofs.Common.{◌≡◌, ℕ, ◌+◌, Bool, true, false, List, [], ◌∷◌, ◌++◌, length, Some, None, Ok, refl, sym, ap, subst, arith}
use Rattle.std.proofs.lemmas.Bool.{false≢true}
use Rattle.c_tree.specs.declared.span.Span.{Span}
use Rattle.c_tree.specs.declared.operator.UnOp.TheVariants as un
use Rattle.c_types.specs.Types.{Ty}
use Rattle.c_types.specs.Typed.{TExprT, Typed, TKindT, NumberK, NullK, LiteralK, GlobalK, LocalK, UnaryK, BinaryK, AssignK, StepK, IndexK, MemberK, ArrowK, CastK, CallK, InK, OutK, WaitK, HaltK, CardK, TExprTs, NoX, MoreX}
use Rattle.c_exprs.specs.Nodes.{is_place}
use Rattle.kit_base.specs.declared.event.Event.TheVariants as event
use Rattle.obj_mem.specs.declared.cell.Cell.TheVariants.{Num, Ptr, Null}
use Rattle.obj_mem.specs.Stores.{local_object}
use Rattle.obj_mem.specs.Worlds.{World, spend, happened}
use Rattle.obj_mem.specs.Queries.{first_cell}
use Rattle.c_meaning.specs.declared.end.End.TheVariants.{Halted}
use Rattle.c_meaning.specs.Kinds.{type_of}
use Rattle.c_types.specs.Kinds.{is_structure}
use Rattle.c_meaning.specs.Outcomes.{Place}
use Rattle.c_meaning.specs.Expressions as src
use Rattle.c_meaning.specs.Expressions.{evaluated, evaluated_all}
use Rattle.mid_code.specs.Code.{LocalO, GlobalO, LiteralO, CardO, ConstO, NullO, NodesT}
use Rattle.mid_code.specs.Meaning.{Res}
use Rattle.mid_code.specs.States.{temporaries, to, spent}
use Rattle.lower_trees.specs.Shape.{Shape, shape_in, params_of}
use Rattle.lower_trees.specs.Parts as part
use Rattle.lower_trees.specs.Counts.{sizes, value_sizes}
use Rattle.lower_trees.specs.Expressions as low
use Rattle.lower_trees.specs.Pieces.{coded}
use Rattle.lower_trees.specs.Expressions.{low_args, spots}
use Rattle.mid_lower.proofs.Grows.{Mid}
use Rattle.mid_lower.proofs.Fits.{Site}
use Rattle.mid_lower.proofs.Structures.{structure_goal, SimS, FollowValue, reads}
use Rattle.mid_lower.proofs.StructureUses.{assign_structure}
use Rattle.mid_lower.proofs.StructureMembers.{FollowStructure, of_structure, member_structure, member_cell}
use Rattle.mid_lower.proofs.Room.{join_length}
use Rattle.mid_lower.proofs.Following.{mk, goal, way_v, SimV, paid, paid_now, less_now, fin_now, stopped, at_free, M, op}
use Rattle.mid_lower.proofs.Trees.{Plain, PlainKind, PlainAll, PlainStructure}
use Rattle.mid_lower.proofs.Values.{local_front, Follow}
use Rattle.mid_lower.proofs.Calling.{BodiesFollow}
use Rattle.mid_lower.proofs.ArgumentForms.{FollowAll, no_arguments, more_arguments, call_value, call_structure}
use Rattle.mid_lower.proofs.OperatorForms.{leaf_value, leaf_place, begin_value, begin_place, to_place, address_sim, unary_sim, binary_sim}
use Rattle.mid_lower.proofs.PlaceForms.{assign_sim, step_sim, index_sim, arrow_sim, member_sim, cast_sim, input_sim, output_sim, event_now}

module _ (S : Site) (bodies : BodiesFollow S) where
  abbrev R : NodesT ℕ → Mid → Res Mid
  R = M S

  abbrev h : Shape
  h = shape_in S.s

  abbrev tick : World → World
  tick w = spend 1 w

  member_case : (a : TExprT) → Follow S a → is_place a ≡ true → (ty : Ty) (span : Span) (offset : ℕ) → Follow S (Typed (MemberK a offset) ty span)
  member_case (Typed kind ta sa) sim e ty span offset t n m c w x st tn u room =
      let a : TExprT = Typed kind ta sa in
      subst (λ b. SimV (goal b t n w x) (R c) b (src.member_at ty a span offset (evaluated S.s S.bound S.prev a (tick w))) (R (coded (low.low h a n (n + 1) m) (coded (part.moved_by t n offset) (coded (low.member_of b ty t) c))) (mk w x))) (sym e) (member_sim S ty a sim e span offset t n m c w x st tn u room)

  -- a cell of a structure that is a value
  cell_case : (a : TExprT) → FollowStructure S a → is_place a ≡ false → (ty : Ty) (span : Span) (offset : ℕ) → is_structure ty ≡ false → Follow S (Typed (MemberK a offset) ty span)
  cell_case (Typed kind ta sa) sim e ty span offset scalar t n m c w x st tn u room =
      let a : TExprT = Typed kind ta sa in
      subst (λ b. SimV (goal b t n w x) (R c) b (src.member_at ty a span offset (evaluated S.s S.bound S.prev a (tick w))) (R (coded (low.low h a n (n + 1) m) (coded (part.moved_by t n offset) (coded (low.member_of b ty t) c))) (mk w x))) (sym e) (member_cell S ty a sim scalar span offset t n m c w x st tn u room)

  either_member : (a : TExprT) (ty : Ty) (span : Span) (offset : ℕ) → (is_place a ≡ true → Follow S a) → (is_place a ≡ false → FollowStructure S a) → (is_place a ≡ false → is_structure ty ≡ false) → Follow S (Typed (MemberK a offset) ty span)
  either_member a ty span offset f g scalar = by (is_place a) refl
    where
      by : (b : Bool) → is_place a ≡ b → Follow S (Typed (MemberK a offset) ty span)
      by true e = member_case a (f e) e ty span offset
      by false e = cell_case a (g e) e ty span offset (scalar e)

  -- an assignment of a structure
  assign_case : (a b : TExprT) → Follow S a → FollowValue S b → is_structure (type_of a) ≡ true → (ty : Ty) (span : Span) → FollowStructure S (Typed (AssignK None a b) ty span)
  assign_case a b sima simb structure ty span t n m c w x st tn u room =
      let l = join_length (sizes h a) (value_sizes h b) in
      assign_structure S a b sima simb structure span t n m (m + length (sizes h a ++ value_sizes h b)) c w x st tn u room (omega (arith, l))

  -- a structure within a structure that is a value
  inner_case : (a : TExprT) → FollowStructure S a → is_place a ≡ false → (ty : Ty) (span : Span) (offset : ℕ) → is_structure ty ≡ true → FollowStructure S (Typed (MemberK a offset) ty span)
  inner_case (Typed kind ta sa) sim e ty span offset structure t n m c w x st tn u room =
      let a : TExprT = Typed kind ta sa in
      subst (λ b. SimS (structure_goal t n w x) (R c) (m + length (sizes h a)) (src.member_at ty a span offset (evaluated S.s S.bound S.prev a (tick w))) (R (coded (low.low h a n (n + 1) m) (coded (part.moved_by t n offset) (coded (low.member_of b ty t) c))) (mk w x))) (sym e) (member_structure S ty a sim structure span offset t n m c w x st tn u room)

  either_inner : (a : TExprT) (ty : Ty) (span : Span) (offset : ℕ) → (is_place a ≡ true → Follow S a) → (is_place a ≡ false → FollowStructure S a) → is_structure ty ≡ true → FollowValue S (Typed (MemberK a offset) ty span)
  either_inner (Typed kind ta sa) ty span offset f g structure = by (is_place (Typed kind ta sa)) refl
    where
      by : (b : Bool) → is_place (Typed kind ta sa) ≡ b → FollowValue S (Typed (MemberK (Typed kind ta sa) offset) ty span)
      by true e = reads S (Typed (MemberK (Typed kind ta sa) offset) ty span) (member_case (Typed kind ta sa) (f e) e ty span offset) e structure
      by false e = of_structure S (Typed (MemberK (Typed kind ta sa) offset) ty span) e (inner_case (Typed kind ta sa) (g e) e ty span offset structure)

  mutual
    pub expr_sim : (e : TExprT) → Plain h e → Follow S e
    expr_sim (Typed kind ty span) sc = kind_sim kind ty span sc

    kind_sim : (kind : TKindT) (ty : Ty) (span : Span) → PlainKind h kind ty → Follow S (Typed kind ty span)
    kind_sim (NumberK i) ty span sc t n m c w x st tn u room = leaf_value S t n w x (Num i) (ConstO t i) c u refl
    kind_sim NullK ty span sc t n m c w x st tn u room = leaf_value S t n w x Null (NullO t) c u refl
    kind_sim (LiteralK number) ty span sc t n m c w x st tn u room = leaf_place S t n w x (Ptr (S.s.sizes.first_literal + number) 0) (LiteralO t number) c u (ap (λ k. to temporaries t (Ok (Ptr (k + number) 0)) (spent 8 (mk w x))) S.fits.first_literal)
    kind_sim (GlobalK number) ty span sc t n m c w x st tn u room = leaf_place S t n w x (Ptr number 0) (GlobalO t number) c u refl
    kind_sim (LocalK number) ty span sc t n m c w x st tn u room =
        op S (goal true t n w x) (way_v (goal true t n w x) (R c) true) 4 span (tick w) x t (first_cell (local_object w.store.locals number)) (first_cell (local_object (w.store.locals ++ x.extra) number)) (LocalO t number) c
        (begin_place S t n w x u) (at_free (goal true t n w x)) (local_front w.store.locals x.extra number) refl (λ p. Place p (tick w)) (λ p y hy at rest. to_place S t n w x c 4 p (tick w) y hy at)
    kind_sim (UnaryK un.Address a) ty span sc t n m c w x st tn u room = address_sim S a (expr_sim a sc) span t n m c w x st tn u room
    kind_sim (UnaryK un.Deref a) ty span sc t n m c w x st tn u room = unary_sim S un.Deref a (expr_sim a sc.0) sc.1 span t n m c w x st tn u room
    kind_sim (UnaryK un.Not a) ty span sc t n m c w x st tn u room = unary_sim S un.Not a (expr_sim a sc.0) sc.1 span t n m c w x st tn u room
    kind_sim (UnaryK un.Minus a) ty span sc t n m c w x st tn u room = unary_sim S un.Minus a (expr_sim a sc.0) sc.1 span t n m c w x st tn u room
    kind_sim (UnaryK un.Plus a) ty span sc t n m c w x st tn u room = unary_sim S un.Plus a (expr_sim a sc.0) sc.1 span t n m c w x st tn u room
    kind_sim (UnaryK un.Flip a) ty span sc t n m c w x st tn u room = unary_sim S un.Flip a (expr_sim a sc.0) sc.1 span t n m c w x st tn u room
    kind_sim (BinaryK o a b) ty span sc t n m c w x st tn u room = binary_sim S o a b (expr_sim a sc.0) (expr_sim b sc.2) sc.1 sc.3 span t n m c w x st tn u room
    kind_sim (AssignK o a b) ty span sc t n m c w x st tn u room = assign_sim S o a b (expr_sim a sc.0) (expr_sim b sc.2) sc.1 sc.3 span t n m c w x st tn u room
    kind_sim (StepK o a) ty span sc t n m c w x st tn u room = step_sim S o a (expr_sim a sc.0) sc.1 span t n m c w x st tn u room
    kind_sim (IndexK a b) ty span sc t n m c w x st tn u room = index_sim S ty a b (expr_sim a sc.0) (expr_sim b sc.2) sc.1 sc.3 span t n m c w x st tn u room
    kind_sim (MemberK (Typed k tk sk) offset) ty span sc t n m c w x st tn u room = either_member (Typed k tk sk) ty span offset (λ e. expr_sim (Typed k tk sk) (sc.0 e)) (λ e. structure_sim (Typed k tk sk) (sc.1 e).0 e) (λ e. (sc.1 e).1) t n m c w x st tn u room
    kind_sim (ArrowK a offset) ty span sc t n m c w x st tn u room = arrow_sim S a (expr_sim a sc.0) sc.1 span offset t n m c w x st tn u room
    kind_sim (CastK a) ty span sc t n m c w x st tn u room = cast_sim S ty a (expr_sim a sc.0) sc.1 span t n m c w x st tn u room
    kind_sim (CallK f xs) ty span sc t n m c w x st tn u room = call_value S bodies f xs (args_sim xs (params_of h f) sc.0) ty span sc.1 t n m c w x st tn u room
    kind_sim (InK port) ty span sc t n m c w x st tn u room = input_sim S port w.store.answers t n c w x u
    kind_sim (OutK port a) ty span sc t n m c w x st tn u room = output_sim S port a (expr_sim a sc.0) sc.1 t n m c w x st tn u room
    kind_sim WaitK ty span sc t n m c w x st tn u room =
        let γ = goal false t n w x in
        (refl, paid x, refl, less_now γ 28 (happened event.Wait (tick w)) (paid x) (event_now S γ 28 (tick w) (happened event.Wait (tick w)) x refl refl refl refl (begin_value S t n w x u)))
    kind_sim HaltK ty span sc t n m c w x st tn u room =
        let γ = goal false t n w x in
        stopped γ Halted (tick w) (paid x) _ (fin_now γ 28 (tick w) (paid x) (paid_now γ 28 (tick w) x (begin_value S t n w x u))) refl
    kind_sim CardK ty span sc t n m c w x st tn u room = leaf_value S t n w x (Ptr S.s.sizes.card 0) (CardO t) c u (ap (λ k. to temporaries t (Ok (Ptr k 0)) (spent 8 (mk w x))) S.fits.card)

    -- a structure's value that stands at no place
    structure_sim : (e : TExprT) → PlainStructure h e → is_place e ≡ false → FollowStructure S e
    structure_sim (Typed (AssignK None a b) ty span) sc np = assign_case a b (expr_sim a sc.0) (value_sim b sc.2 sc.3) sc.1 ty span
    structure_sim (Typed (MemberK (Typed k tk sk) offset) ty span) sc np = inner_case (Typed k tk sk) (structure_sim (Typed k tk sk) (sc.1 np) np) np ty span offset sc.2
    structure_sim (Typed (GlobalK number) ty span) sc np = absurd (false≢true (sym np))
    structure_sim (Typed (LocalK number) ty span) sc np = absurd (false≢true (sym np))
    structure_sim (Typed (UnaryK un.Deref a) ty span) sc np = absurd (false≢true (sym np))
    structure_sim (Typed (IndexK a b) ty span) sc np = absurd (false≢true (sym np))
    structure_sim (Typed (ArrowK a offset) ty span) sc np = absurd (false≢true (sym np))
    structure_sim (Typed (NumberK number) ty span) sc np = absurd sc
    structure_sim (Typed NullK ty span) sc np = absurd sc
    structure_sim (Typed (LiteralK number) ty span) sc np = absurd sc
    structure_sim (Typed (UnaryK un.Address a) ty span) sc np = absurd sc
    structure_sim (Typed (UnaryK un.Not a) ty span) sc np = absurd sc
    structure_sim (Typed (UnaryK un.Minus a) ty span) sc np = absurd sc
    structure_sim (Typed (UnaryK un.Plus a) ty span) sc np = absurd sc
    structure_sim (Typed (UnaryK un.Flip a) ty span) sc np = absurd sc
    structure_sim (Typed (BinaryK o a b) ty span) sc np = absurd sc
    structure_sim (Typed (AssignK (Some o) a b) ty span) sc np = absurd sc
    structure_sim (Typed (StepK o a) ty span) sc np = absurd sc
    structure_sim (Typed (CastK a) ty span) sc np = absurd sc
    structure_sim (Typed (CallK f xs) ty span) sc np = call_structure S bodies f xs (args_sim xs (params_of h f) sc.0) ty span sc.1
    structure_sim (Typed (InK port) ty span) sc np = absurd sc
    structure_sim (Typed (OutK port a) ty span) sc np = absurd sc
    structure_sim (Typed WaitK ty span) sc np = absurd sc
    structure_sim (Typed HaltK ty span) sc np = absurd sc
    structure_sim (Typed CardK ty span) sc np = absurd sc

    pub value_sim : (e : TExprT) → PlainStructure h e → is_structure (type_of e) ≡ true → FollowValue S e
    value_sim (Typed (AssignK None a b) ty span) sc st = of_structure S (Typed (AssignK None a b) ty span) refl (assign_case a b (expr_sim a sc.0) (value_sim b sc.2 sc.3) sc.1 ty span)
    value_sim (Typed (MemberK (Typed k tk sk) offset) ty span) sc st = either_inner (Typed k tk sk) ty span offset (λ e. expr_sim (Typed k tk sk) (sc.0 e)) (λ e. structure_sim (Typed k tk sk) (sc.1 e) e) st
    value_sim (Typed (GlobalK number) ty span) sc st = reads S (Typed (GlobalK number) ty span) (kind_sim (GlobalK number) ty span tt) refl st
    value_sim (Typed (LocalK number) ty span) sc st = reads S (Typed (LocalK number) ty span) (kind_sim (LocalK number) ty span tt) refl st
    value_sim (Typed (UnaryK un.Deref a) ty span) sc st = reads S (Typed (UnaryK un.Deref a) ty span) (kind_sim (UnaryK un.Deref a) ty span sc) refl st
    value_sim (Typed (IndexK a b) ty span) sc st = reads S (Typed (IndexK a b) ty span) (kind_sim (IndexK a b) ty span sc) refl st
    value_sim (Typed (ArrowK a offset) ty span) sc st = reads S (Typed (ArrowK a offset) ty span) (kind_sim (ArrowK a offset) ty span sc) refl st
    value_sim (Typed (NumberK number) ty span) sc st = absurd sc
    value_sim (Typed NullK ty span) sc st = absurd sc
    value_sim (Typed (LiteralK number) ty span) sc st = absurd sc
    value_sim (Typed (UnaryK un.Address a) ty span) sc st = absurd sc
    value_sim (Typed (UnaryK un.Not a) ty span) sc st = absurd sc
    value_sim (Typed (UnaryK un.Minus a) ty span) sc st = absurd sc
    value_sim (Typed (UnaryK un.Plus a) ty span) sc st = absurd sc
    value_sim (Typed (UnaryK un.Flip a) ty span) sc st = absurd sc
    value_sim (Typed (BinaryK o a b) ty span) sc st = absurd sc
    value_sim (Typed (AssignK (Some o) a b) ty span) sc st = absurd sc
    value_sim (Typed (StepK o a) ty span) sc st = absurd sc
    value_sim (Typed (CastK a) ty span) sc st = absurd sc
    value_sim (Typed (CallK f xs) ty span) sc st = of_structure S (Typed (CallK f xs) ty span) refl (call_structure S bodies f xs (args_sim xs (params_of h f) sc.0) ty span sc.1)
    value_sim (Typed (InK port) ty span) sc st = absurd sc
    value_sim (Typed (OutK port a) ty span) sc st = absurd sc
    value_sim (Typed WaitK ty span) sc st = absurd sc
    value_sim (Typed HaltK ty span) sc st = absurd sc
    value_sim (Typed CardK ty span) sc st = absurd sc

    -- arguments
    args_sim : (xs : TExprTs) (tys : List Ty) → PlainAll h tys xs → FollowAll S xs tys
    args_sim NoX tys sc = no_arguments S tys
    args_sim (MoreX e xs) [] sc = absurd sc
    args_sim (MoreX e xs) (ty ∷ tys) sc = more_arguments S e xs ty tys (λ is. (expr_sim e ((sc.0).0 is).0, ((sc.0).0 is).1)) (λ is. value_sim e ((sc.0).1 is).0 ((sc.0).1 is).1) (args_sim xs tys sc.1)
